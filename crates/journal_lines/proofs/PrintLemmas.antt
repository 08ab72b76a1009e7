-- Lines sorted by their keys stand in the order of printing.
use Rattle.std.proofs.Common.{◌≡◌, ◌≢◌, ℕ, zero, suc, ◌+◌, ◌≤◌, ◌⊎◌, inl, inr, false, List, [], ◌∷◌, map, Option, Some, None, refl, sym, ap, ◌∙◌, subst, arith, get_or}
use Rattle.std.specs.Prelude.{IsPermutation, All, slice_get}
use Rattle.std.specs.List.{cons_option}
use Rattle.std.specs.List.Sorted.{IsNonDecreasingBy, IsSortedByKey}
use Rattle.std.specs.Ordering.{is_lt}
use Rattle.std.specs.Option.{option_map}
use Rattle.std.specs.Borrow.{Bor}
use Rattle.std.specs.Fn.{Called, ComputesKey}
use denote.Param.Members.{Mut}
use Rattle.std.proofs.lemmas.Fn.{always_returns_same}
use Rattle.std.proofs.lemmas.List.Sorted.{IsPermutation-trans, IsPermutation-map, All-permutation, ranks_by, sorted_far}
use Rattle.std.proofs.lemmas.List.Elements.{All-nil, All-cons, All-head, All-tail, All-map}
use Rattle.std.proofs.lemmas.List.Kept.{AllPairs-cons}
use Rattle.std.proofs.lemmas.Option.{slice_get_cases, slice_get-map}
use Rattle.std.proofs.lemmas.Simd.{map-map}
use Rattle.fleet_base.specs.declared.request.Entry.{Entry}
use Rattle.fleet_base.specs.declared.journal.JournalKey.{JournalKey}
use Rattle.fleet_base.specs.Journal.{Precedes, IsInOrder}
use Rattle.fleet_base.specs.JournalKey.{journal_key_of}
use Rattle.fleet_base.specs.Order.{IsAmong}
use Rattle.fleet_base.proofs.Reorder.{Reorder, Reorder-from_permutation}
use Rattle.lane_runs.specs.declared.answer.Answer.{Answer}
use Rattle.lane_runs.specs.declared.answer.Answer.TheVariants.{Made, Gone}
use Rattle.lane_runs.specs.Answers.{order_of, entry_made, entries_made}
use Rattle.journal_lines.specs.declared.order.LinePlace.{LinePlace}
use Rattle.journal_lines.specs.Places.{head_after, places_from}
use Rattle.journal_lines.specs.Printing.{GoneStandBehind, AreOfRun, ArePrinted}
use Rattle.journal_lines.proofs.LineKeys.{line_cmp, line_total, number_at_least, number_between, lines_in_order}
use Rattle.journal_lines.proofs.Numbering.{among_reorder, All-among, All-at, Pairs, Pairs-from_places, Pairs-reorder, NumberedFrom, IsGone, ComesLate, all_late, numbered_from_rising}

abbrev pub answer_of : LinePlace → Answer
answer_of p = p.answer.now

abbrev number : LinePlace → ℕ
number p = order_of (answer_of p)

abbrev pub key_of : LinePlace → Option JournalKey × ℕ
key_of p = (p.head, number p)

-- the later line's key doesn't come first
abbrev NotAfter : LinePlace → LinePlace → Type 0
NotAfter a b = is_lt (line_cmp (key_of b) (key_of a)) ≡ false

abbrev Differ : LinePlace → LinePlace → Type 0
Differ a b = number a ≢ number b

-- ---- what the places tell

-- another of the lines has the same head and the number before
record HasBefore (places : List LinePlace) (p : LinePlace) : Type 0 where
  line : LinePlace
  among : IsAmong line places
  head : line.head ≡ p.head
  order : number line + 1 ≡ number p

head_stays : (head : Option JournalKey) (a : Answer) → IsGone a → head ≡ head_after head a
head_stays head (Made order e) gone = absurd gone
head_stays head (Gone order target) gone = refl

abbrev GoneHasBefore : List LinePlace → LinePlace → Type 0
GoneHasBefore places p = IsGone (answer_of p) → HasBefore places p

abbrev placed : Option JournalKey → Bor Answer → LinePlace
placed head a = record { head = head_after head a.now; answer = a }

before_from : (n : ℕ) (q : LinePlace) (answers : List (Bor Answer)) (whole : List LinePlace) → number q + 1 ≡ n → NumberedFrom n (map (λ a. a.now) answers)
    → ((p : LinePlace) → IsAmong p (q ∷ places_from q.head answers) → IsAmong p whole) → All (GoneHasBefore whole) (places_from q.head answers)
before_from n q [] whole next numbered within = All-nil (GoneHasBefore whole)
before_from n q (a ∷ answers) whole next numbered within =
    let first = numbered.0 in
    All-cons (GoneHasBefore whole) (placed q.head a) (places_from (head_after q.head a.now) answers)
    (λ gone. record { line = q; among = within q (inl refl); head = head_stays q.head a.now gone; order = next ∙ sym first })
    (before_from (n + 1) (placed q.head a) answers whole (omega arith) numbered.1 (λ p among. within p (inr among)))

all_before : (answers : List (Bor Answer)) → NumberedFrom 0 (map (λ a. a.now) answers) → All ComesLate (map (λ a. a.now) answers) → All (GoneHasBefore (places_from None answers)) (places_from None answers)
all_before [] numbered late = All-nil (GoneHasBefore [])
all_before (a ∷ answers) numbered late =
    let first = numbered.0 in
    let whole : List LinePlace = places_from None (a ∷ answers) in
    All-cons (GoneHasBefore whole) (placed None a) (places_from (head_after None a.now) answers)
    (λ gone. absurd (omega (arith, All-head ComesLate a.now (map (λ b. b.now) answers) late gone)))
    (before_from 1 (placed None a) answers whole (omega arith) numbered.1 (λ p among. among))

-- a line of an entry has the entry's key for its head
abbrev HasOwnHead : LinePlace → Type 0
HasOwnHead p = (order : ℕ) (e : Entry) → answer_of p ≡ Made order e → p.head ≡ Some (journal_key_of e)

own_heads : (head : Option JournalKey) (answers : List (Bor Answer)) → All HasOwnHead (places_from head answers)
own_heads head [] = All-nil HasOwnHead
own_heads head (a ∷ answers) =
    All-cons HasOwnHead (placed head a) (places_from (head_after head a.now) answers) (λ order e is. ap (head_after head) is) (own_heads (head_after head a.now) answers)

numbers_above : (m n : ℕ) (head : Option JournalKey) (answers : List (Bor Answer)) → m ≤ n → NumberedFrom n (map (λ a. a.now) answers) → All (λ p. m ≤ number p) (places_from head answers)
numbers_above m n head [] low numbered = All-nil (λ (p : LinePlace). m ≤ number p)
numbers_above m n head (a ∷ answers) low numbered =
    let first = numbered.0 in
    All-cons (λ p. m ≤ number p) (placed head a) (places_from (head_after head a.now) answers) (omega arith) (numbers_above m (n + 1) (head_after head a.now) answers (omega arith) numbered.1)

all_differ : (n : ℕ) (head : Option JournalKey) (answers : List (Bor Answer)) → NumberedFrom n (map (λ a. a.now) answers) → Pairs Differ (places_from head answers)
all_differ n head [] numbered = tt
all_differ n head (a ∷ answers) numbered =
    let above = numbers_above (n + 1) (n + 1) (head_after head a.now) answers (omega arith) numbered.1 in
    let first = numbered.0 in
    (λ k d less same. omega (arith, above k d less), all_differ (n + 1) (head_after head a.now) answers numbered.1)

answers_placed : (head : Option JournalKey) (answers : List (Bor Answer)) → map answer_of (places_from head answers) ≡ map (λ a. a.now) answers
answers_placed head [] = refl
answers_placed head (a ∷ answers) = ap (λ (l : List Answer). a.now ∷ l) (answers_placed (head_after head a.now) answers)

-- ---- directly behind

-- the line stands at the place before k
record IsBefore (lines : List LinePlace) (k : ℕ) (p : LinePlace) : Type 0 where
  place : ℕ
  next : k ≡ place + 1
  at : slice_get lines place ≡ Some p

not_the_first : (x p q : LinePlace) → Some x ≡ Some q → x ≡ p → number p + 1 ≡ number q → ⊥
not_the_first x p q at is next = let e : number x ≡ number q = ap number (same at) in let f = ap number is in omega arith
  where
    same : {a b : LinePlace} → Some a ≡ Some b → a ≡ b
    same e = cc

not_behind_the_first : (x p q : LinePlace) → Some x ≡ Some q → NotAfter x p → p.head ≡ q.head → number p + 1 ≡ number q → ⊥
not_behind_the_first x p q at nots head next =
    let same : x ≡ q = cc in
    let low = number_at_least p.head q.head head (number p) (number q) (subst (λ (z : LinePlace). NotAfter z p) same nots) in
    omega arith

none_between : (x y q : LinePlace) → NotAfter x y → NotAfter y q → Differ x y → Differ y q → x.head ≡ q.head → number x + 1 ≡ number q → ⊥
none_between x y q nots nots' differs differs' head next =
    let both = number_between x.head q.head head y.head (number x) (number q) (number y) nots nots' in
    let low = both.0 in let high = both.1 in
    elim (next_or (number x) (number y) low (omega arith)) [ inl e ↦ differs e | inr e ↦ differs' (e ∙ next) ]
  where
    next_or : (m n : ℕ) → m ≤ n → n ≤ m + 1 → (m ≡ n) ⊎ (n ≡ m + 1)
    next_or m n low high = grind arith

directly : (lines : List LinePlace) (k : ℕ) (p q : LinePlace) → Pairs NotAfter lines → Pairs Differ lines → slice_get lines k ≡ Some q → IsAmong p lines → p.head ≡ q.head
    → number p + 1 ≡ number q → IsBefore lines k p
directly [] k p q nots differs at among head next = absurd among
directly (x ∷ lines) zero p q nots differs at (inl is) head next = absurd (not_the_first x p q at is next)
directly (x ∷ lines) zero p q nots differs at (inr later) head next = absurd (not_behind_the_first x p q at (All-among (NotAfter x) p lines nots.0 later) head next)
directly (x ∷ lines) (suc k) p q nots differs at (inr later) head next =
    let b = directly lines k p q nots.1 differs.1 at later head next in
    let n = b.next in
    record { place = suc b.place; next = omega arith; at = b.at }
directly (x ∷ []) (suc k) p q nots differs at (inl is) head next = absurd (cc)
directly (x ∷ y ∷ lines) (suc zero) p q nots differs at (inl is) head next = record { place = 0; next = omega arith; at = ap Some is }
directly (x ∷ y ∷ lines) (suc (suc k)) p q nots differs at (inl is) head next =
    absurd (none_between x y q (All-head (NotAfter x) y lines nots.0) (All-at (NotAfter y) lines k q nots.1.0 at) (All-head (Differ x) y lines differs.0) (All-at (Differ y) lines k q differs.1.0 at)
    (ap (λ (z : LinePlace). z.head) is ∙ head) (ap (λ (z : LinePlace). number z + 1) is ∙ next))

-- ---- the entries in order

with_entry : (P : Entry → Type 0) (a : Answer) (rest : List Entry) → All P rest → ((order : ℕ) (e : Entry) → a ≡ Made order e → P e) → All P (cons_option (entry_made a) rest)
with_entry P (Made n f) rest h here = All-cons P f rest (here n f refl) h
with_entry P (Gone n t) rest h here = h

abbrev IsOf : (Entry → Type 0) → LinePlace → Type 0
IsOf P p = (order : ℕ) (e : Entry) → answer_of p ≡ Made order e → P e

all_entries : (P : Entry → Type 0) (lines : List LinePlace) → All (IsOf P) lines → All P (entries_made (map answer_of lines))
all_entries P [] h = All-nil P
all_entries P (x ∷ lines) h = with_entry P (answer_of x) (entries_made (map answer_of lines)) (all_entries P lines (All-tail (IsOf P) x lines h)) (All-head (IsOf P) x lines h)

entry_first : (a : Answer) (rest : List Entry) → IsInOrder rest → ((order : ℕ) (e : Entry) → a ≡ Made order e → All (Precedes e) rest) → IsInOrder (cons_option (entry_made a) rest)
entry_first (Made n e) rest h here = AllPairs-cons Precedes e rest (here n e refl) h
entry_first (Gone n t) rest h here = h

entries_in_order : (lines : List LinePlace) → Pairs NotAfter lines → All HasOwnHead lines → IsInOrder (entries_made (map answer_of lines))
entries_in_order [] nots heads = λ i j d before less. absurd (omega arith)
entries_in_order (x ∷ lines) nots heads =
    let later = All-tail HasOwnHead x lines heads in
    entry_first (answer_of x) (entries_made (map answer_of lines)) (entries_in_order lines nots.1 later)
    (λ order e is. all_entries (Precedes e) lines (λ k d less order' f is'.
    lines_in_order e f x.head (get_or lines k d).head (number x) (number (get_or lines k d)) (All-head HasOwnHead x lines heads order e is) (later k d less order' f is') (nots.0 k d less)))

-- ---- all of it

-- a cancel that is gone, at a place of the printed answers
gone_at : (lines : List LinePlace) (k n target : ℕ) → slice_get (map answer_of lines) k ≡ Some (Gone n target) → (q : LinePlace) × (slice_get lines k ≡ Some q) × (answer_of q ≡ Gone n target)
gone_at lines k n target at = elim (slice_get_cases lines k).1 [
  | inl found ↦
      let e : Some (answer_of found.0) ≡ Some (Gone n target) = sym (ap (option_map answer_of) found.2) ∙ (sym (slice_get-map answer_of lines k) ∙ at) in
      (found.0, found.2, cc)
  | inr past ↦
      let e : None ≡ Some (Gone n target) = sym (ap (option_map answer_of) past.1) ∙ (sym (slice_get-map answer_of lines k) ∙ at) in
      absurd (cc)
]

gone_behind : (lines : List LinePlace) → Pairs NotAfter lines → Pairs Differ lines → All (GoneHasBefore lines) lines → GoneStandBehind (map answer_of lines)
gone_behind lines nots differs before k n target at =
    let q = gone_at lines k n target at in
    let b = All-at (GoneHasBefore lines) lines k q.0 before q.1 (subst IsGone (sym q.2) tt) in
    let d = directly lines k b.line q.0 nots differs q.1 b.among b.head b.order in
    record {
      place = d.place;
      next = d.next;
      before = answer_of b.line;
      at = slice_get-map answer_of lines d.place ∙ ap (option_map answer_of) d.at;
      order = b.order ∙ ap order_of q.2;
    }

pub printed_lines : (answers : List Answer) (numbered : List (Bor Answer)) (lines : List LinePlace) → AreOfRun answers → IsPermutation answers (map (λ a. a.now) numbered)
    → IsNonDecreasingBy (λ a. order_of a.now) numbered → IsPermutation (places_from None numbered) lines → IsSortedByKey key_of line_cmp lines
    → ArePrinted answers (map answer_of lines)
printed_lines answers numbered lines of_run same rising moved sorted =
    let xs : List Answer = map (λ (a : Bor Answer). a.now) numbered in
    let places : List LinePlace = places_from None numbered in
    let r : Reorder places lines = Reorder-from_permutation places lines moved in
    let one_by_one : NumberedFrom 0 xs = numbered_from_rising answers of_run xs same (rises numbered rising) in
    let late : All ComesLate xs = All-permutation ComesLate answers xs same (all_late answers of_run) in
    let nots : Pairs NotAfter lines = Pairs-from_places NotAfter lines (λ i j d before less. sorted_far (λ x y. is_lt (line_cmp (key_of x) (key_of y))) (ranks_by line_total key_of) lines sorted i j d (omega arith) less) in
    let differs : Pairs Differ lines = Pairs-reorder Differ (λ x y h e. h (sym e)) r (all_differ 0 None numbered one_by_one) in
    let before : All (GoneHasBefore lines) lines =
    All-permutation (GoneHasBefore lines) places lines moved (λ k d less gone. let b = all_before numbered one_by_one late k d less gone in
    record { line = b.line; among = among_reorder b.line r b.among; head = b.head; order = b.order }) in
    record {
      same = IsPermutation-trans answers xs (map answer_of lines) same (subst (λ (l : List Answer). IsPermutation l (map answer_of lines)) (answers_placed None numbered) (IsPermutation-map answer_of places lines moved));
      in_order = entries_in_order lines nots (All-permutation HasOwnHead places lines moved (own_heads None numbered));
      gone = gone_behind lines nots differs before;
    }
  where
    first_least : (a : Bor Answer) (es : List (Bor Answer)) → IsNonDecreasingBy (λ a. order_of a.now) (a ∷ es) → All (λ b. order_of a.now ≤ order_of b) (map (λ a. a.now) es)
    first_least a es h = All-map (λ b. order_of a.now ≤ order_of b) (λ b. b.now) es (λ k d less. h 0 (suc k) d (omega arith) (omega arith))

    rises : (es : List (Bor Answer)) → IsNonDecreasingBy (λ a. order_of a.now) es → Pairs (λ a b. order_of a ≤ order_of b) (map (λ a. a.now) es)
    rises [] h = tt
    rises (a ∷ es) h =
        (first_least a es h, rises es (λ i j d low less. h (suc i) (suc j) d (omega arith) (omega arith)))

-- from the clause `sorted` of `sort_unstable_by_key`, where each call gives the key
pub sorted_by_line : {F : Type 0} {g : Mut F (Bor LinePlace × Unit {0}) (Option JournalKey × ℕ)} {f : F} (lines : List LinePlace)
    → ((key : LinePlace → Option JournalKey × ℕ) → ComputesKey g key f → IsSortedByKey key line_cmp lines)
    → ((a : Bor LinePlace × Unit {0}) (r : Option JournalKey × ℕ) (f' : F) → Called g f a r f' → (r ≡ key_of a.0.now) × (f' ≡ f)) → IsSortedByKey key_of line_cmp lines
sorted_by_line {g = g} {f = f} lines up h = up key_of (always_returns_same g (λ a r. r ≡ key_of a.0.now) f h)

pub print_order_ends : (answers : List Answer) (lines : List LinePlace) (printed : List (Bor Answer)) → printed ≡ map (λ p. p.answer) lines
    → ArePrinted answers (map answer_of lines) → ArePrinted answers (map (λ a. a.now) printed)
print_order_ends answers lines printed is h =
    subst (ArePrinted answers) (sym (map-map (λ (a : Bor Answer). a.now) (λ (p : LinePlace). p.answer) lines) ∙ ap (map (λ (a : Bor Answer). a.now)) (sym is)) h
