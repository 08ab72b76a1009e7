-- The stamps of a pass's live routes, as its calls change them.
use Rattle.std.proofs.Common.{◌≡◌, ◌==◌, ◌&&◌, ◌||◌, ℕ, zero, suc, ◌<◌, ◌≤◌, Bool, true, false, not, List, [], ◌∷◌, ◌++◌, length, get_or, append-nil, refl, sym, ap, ◌∙◌, subst, arith, eq-eqb, ne_eqb, Ok, Err}
use Rattle.std.specs.declared.result.Result.{Result}
use Rattle.std.proofs.lemmas.Bool.{eqb-true}
use Rattle.std.specs.Prelude.{All, AllPairs, MatchResult}
use Rattle.std.specs.List.{list_any, remove}
use Rattle.std.specs.List.Sorted.{IsBinarySearchResult}
use Rattle.std.specs.Ordering.{nat_cmp}
use Rattle.std.proofs.lemmas.List.Elements.{All-nil, All-cons, All-head, All-tail, All-weaker, All-push}
use Rattle.std.proofs.lemmas.List.Quantifiers.{all_pairs_push, all_pairs_remove}
use Rattle.std.proofs.lemmas.List.Folds.{list_any-append, list_any_none, list_any_at}
use Rattle.std.proofs.lemmas.List.Sorted.{searched}
use mathlib.Core.Logic.{dite}
use native.Mathlib.Decide.{ℕ_discrete, dec_le}
use Rattle.fleet_base.specs.declared.request.RouteId.{RouteId}
use Rattle.fleet_base.specs.declared.request.Entry.{Entry}
use Rattle.fleet_base.specs.declared.request.Entry.TheVariants.{Commit, Cancel, NoRoute}
use Rattle.fleet_base.specs.History.{Past, book_after, caller_of}
use Rattle.book_trait.specs.Passes.{PassView, own, live_routes, HasLive}
use Rattle.turn_book.specs.Passes.{ListsLive}
use Rattle.turn_book.specs.Replying.{IsReply, stamps_in}
use Rattle.turn_book.proofs.Histories.{past_push, has_route, one_caller, cancel_leaves}

abbrev has_stamp : ℕ → List ℕ → Bool
has_stamp stamp live = list_any (λ x. x == stamp) live

or_swap : (a b : Bool) → (a || (b || false)) ≡ (b || a)
or_swap true true = refl
or_swap true false = refl
or_swap false true = refl
or_swap false false = refl

-- the stamp of a commit is one more
stamps_pushed : (c : ℕ) (before : List Entry) (live : List ℕ) (e : Entry) → IsReply e → caller_of e ≡ c → (stamp : ℕ)
    → has_stamp stamp live ≡ has_route record { stamp = stamp; caller = c } (book_after before)
    → has_stamp stamp (live ++ stamps_in e) ≡ has_route record { stamp = stamp; caller = c } (book_after (before ++ e ∷ []))
stamps_pushed c before live (Commit id era q w) reply by stamp h =
    list_any-append (λ x. x == stamp) live (id.stamp ∷ [])
    ∙ (or_swap (has_stamp stamp live) (id.stamp == stamp)
    ∙ ((λ i. sym (one_caller id record { stamp = stamp; caller = c } by) i || h i)
    ∙ ap (λ (p : Past). has_route record { stamp = stamp; caller = c } p.book) (sym (past_push before (Commit id era q w)))))
stamps_pushed c before live (Cancel id era) reply by stamp h = absurd reply
stamps_pushed c before live (NoRoute s caller era q) reply by stamp h =
    ap (has_stamp stamp) (append-nil live) ∙ (h ∙ ap (λ (p : Past). has_route record { stamp = stamp; caller = c } p.book) (sym (past_push before (NoRoute s caller era q))))

rises_on : (live : List ℕ) (last next : ℕ) (e : Entry) → AllPairs (λ x y. x < y) live → All (λ x. x ≤ last) live → last < next → All (λ x. x ≡ next) (stamps_in e) → AllPairs (λ x y. x < y) (live ++ stamps_in e) × All (λ x. x ≤ next) (live ++ stamps_in e)
rises_on live last next (Commit id era q w) rising low less is =
    let same : id.stamp ≡ next = All-head (λ x. x ≡ next) id.stamp [] is in (
      all_pairs_push (λ x y. x < y) live id.stamp rising (λ k d within. let l = low k d within in omega arith),
      All-push (λ x. x ≤ next) live id.stamp (All-weaker (λ x. x ≤ last) (λ x. x ≤ next) (λ x h. omega arith) live low) (omega arith),
    )
rises_on live last next (Cancel id era) rising low less is = subst (λ l. AllPairs (λ x y. x < y) l × All (λ x. x ≤ next) l) (sym (append-nil live)) (rising, All-weaker (λ x. x ≤ last) (λ x. x ≤ next) (λ x h. omega arith) live low)
rises_on live last next (NoRoute stamp caller era q) rising low less is = subst (λ l. AllPairs (λ x y. x < y) l × All (λ x. x ≤ next) l) (sym (append-nil live)) (rising, All-weaker (λ x. x ≤ last) (λ x. x ≤ next) (λ x h. omega arith) live low)

pub lists_reply : (p p' : PassView) (live : List ℕ) (e : Entry) → ListsLive p live → IsReply e → caller_of e ≡ p.caller → p'.caller ≡ p.caller → own p' ≡ own p ++ e ∷ [] → p.last < p'.last → All (λ x. x ≡ p'.last) (stamps_in e) → ListsLive p' (live ++ stamps_in e)
lists_reply p p' live e h reply by mine more less is =
    let rises = rises_on live p.last p'.last e h.rising h.low less is in record {
      rising = rises.0;
      low = rises.1;
      each = λ stamp. stamps_pushed p.caller (own p) live e reply by stamp (h.each stamp) ∙ (λ i. has_route record { stamp = stamp; caller = sym mine i } (book_after (sym more i)));
    }

-- nothing of its own has changed
pub lists_same : (p p' : PassView) (live : List ℕ) → ListsLive p live → p'.caller ≡ p.caller → own p' ≡ own p → p.last ≤ p'.last → ListsLive p' live
lists_same p p' live h mine same le = record {
  rising = h.rising;
  low = All-weaker (λ x. x ≤ p.last) (λ x. x ≤ p'.last) (λ x l. omega arith) live h.low;
  each = λ stamp. h.each stamp ∙ (λ i. has_route record { stamp = stamp; caller = sym mine i } (book_after (sym same i)));
}

-- a stamp is taken out
later_pairs : (y : ℕ) (ys : List ℕ) → AllPairs (λ a b. a < b) (y ∷ ys) → All (λ x. y < x) ys
later_pairs y ys h = λ k d low. h 0 (suc k) d (omega arith) (omega arith)

tail_pairs : (y : ℕ) (ys : List ℕ) → AllPairs (λ a b. a < b) (y ∷ ys) → AllPairs (λ a b. a < b) ys
tail_pairs y ys h = λ i j d less low. h (suc i) (suc j) d (omega arith) (omega arith)

not_later : (y s : ℕ) (ys : List ℕ) → All (λ x. y < x) ys → s ≤ y → has_stamp s ys ≡ false
not_later y s ys h le = list_any_none (λ x. x == s) ys (All-weaker (λ x. y < x) (λ x. (x == s) ≡ false) (λ x less. ne_eqb x s (λ e. omega arith)) ys h)

first_out : (b l : Bool) (y s : ℕ) (ys : List ℕ) → All (λ x. y < x) ys → has_stamp s ys ≡ (not (y == s) && ((y == s) || has_stamp s ys))
first_out b l y s ys h = dite (ℕ_discrete y s)
    (λ same. not_later y s ys h (omega arith) ∙ ap (λ (t : Bool). not t && (t || has_stamp s ys)) (sym (eq-eqb y s same)))
    (λ ne. ap (λ (t : Bool). not t && (t || has_stamp s ys)) (sym (ne_eqb y s ne)))

past_first : (a t l : Bool) → (a ≡ true → t ≡ true → ⊥) → (a || (not t && l)) ≡ (not t && (a || l))
past_first true true l h = absurd (h refl refl)
past_first true false l h = refl
past_first false true l h = refl
past_first false false l h = refl

all_at : (P : ℕ → Type 0) (xs : List ℕ) (i x : ℕ) → All P xs → i < length xs → get_or xs i 0 ≡ x → P x
all_at P xs i x h low e = subst P e (h i 0 low)

stamp_out : (live : List ℕ) (place stamp s : ℕ) → AllPairs (λ x y. x < y) live → place < length live → get_or live place 0 ≡ stamp → has_stamp s (remove live place) ≡ (not (stamp == s) && has_stamp s live)
stamp_out [] place stamp s rising low at = absurd (omega arith)
stamp_out (y ∷ ys) zero stamp s rising low at = subst (λ (x : ℕ). has_stamp s ys ≡ (not (x == s) && ((y == s) || has_stamp s ys))) at (first_out true true y s ys (later_pairs y ys rising))
stamp_out (y ∷ ys) (suc place) stamp s rising low at =
    let less : y < stamp = all_at (λ x. y < x) ys place stamp (later_pairs y ys rising) (omega arith) at in
    ap (λ (b : Bool). (y == s) || b) (stamp_out ys place stamp s (tail_pairs y ys rising) (omega arith) at)
    ∙ past_first (y == s) (stamp == s) (has_stamp s ys) (λ a t. apart a t less)
  where
    apart : (y == s) ≡ true → (stamp == s) ≡ true → y < stamp → ⊥
    apart a t less = let e : y ≡ s = eqb-true y s a in let f : stamp ≡ s = eqb-true stamp s t in absurd (omega arith)

All-out : (P : ℕ → Type 0) (xs : List ℕ) (i : ℕ) → All P xs → All P (remove xs i)
All-out P [] i h = h-nil i
  where
    h-nil : (i : ℕ) → All P (remove [] i)
    h-nil zero = All-nil P
    h-nil (suc i) = All-nil P
All-out P (x ∷ xs) zero h = All-tail P x xs h
All-out P (x ∷ xs) (suc i) h = All-cons P x (remove xs i) (All-head P x xs h) (All-out P xs i (All-tail P x xs h))

pub lists_cancel : (p p' : PassView) (live : List ℕ) (place era : ℕ) → ListsLive p live → place < length live → p'.caller ≡ p.caller → p'.last ≡ p.last
    → own p' ≡ own p ++ Cancel record { stamp = get_or live place 0; caller = p.caller } era ∷ [] → ListsLive p' (remove live place)
lists_cancel p p' live place era h low mine last more =
    let id : RouteId = record { stamp = get_or live place 0; caller = p.caller } in record {
      rising = all_pairs_remove (λ x y. x < y) live place low h.rising;
      low = subst (λ (n : ℕ). All (λ x. x ≤ n) (remove live place)) (sym last) (All-out (λ x. x ≤ p.last) live place h.low);
      each = λ stamp. (
          let asked : RouteId = record { stamp = stamp; caller = p.caller } in
          stamp_out live place (get_or live place 0) stamp h.rising low refl
          ∙ ((λ i. not (swapped (get_or live place 0) stamp i) && h.each stamp i)
          ∙ (ap (λ (b : Bool). not b && has_route asked (live_routes p)) (sym (one_caller asked id refl))
          ∙ (sym (cancel_leaves asked id (live_routes p))
          ∙ (ap (λ (q : Past). has_route asked q.book) (sym (past_push (own p) (Cancel id era)))
          ∙ (λ i. has_route record { stamp = stamp; caller = sym mine i } (book_after (sym more i))))))));
    }
  where
    swapped : (a b : ℕ) → (a == b) ≡ (b == a)
    swapped a b = dite (ℕ_discrete a b) (λ e. eq-eqb a b e ∙ sym (eq-eqb b a (sym e))) (λ ne. ne_eqb a b ne ∙ sym (ne_eqb b a (λ e. ne (sym e))))

-- What looking a stamp up tells.
pub stamp_live : (p : PassView) (live : List ℕ) (place : ℕ) → ListsLive p live → place < length live → HasLive p (get_or live place 0)
stamp_live p live place h low = sym (h.each (get_or live place 0)) ∙ list_any_at (λ x. x == get_or live place 0) live place 0 low (eq-eqb (get_or live place 0) (get_or live place 0) refl)

rises_weakly : (live : List ℕ) → AllPairs (λ x y. x < y) live → (i j : ℕ) → i ≤ j → j < length live → get_or live i 0 ≤ get_or live j 0
rises_weakly live rising i j le low = dite (ℕ_discrete i j) (λ e. let same : get_or live i 0 ≡ get_or live j 0 = ap (λ n. get_or live n 0) e in omega arith) (λ ne. let less = rising i j 0 (omega arith) low in omega arith)

pub found_live : (p : PassView) (live : List ℕ) (stamp place : ℕ) (r : Result ℕ ℕ) → ListsLive p live → IsBinarySearchResult (λ y. nat_cmp y stamp) live r → r ≡ Ok place → (place < length live) × (get_or live place 0 ≡ stamp)
found_live p live stamp place r h at is =
    let m : MatchResult (Ok place) (λ i. (i < length live) × (get_or live i 0 ≡ stamp)) (λ i. (i ≤ length live) × ((k : ℕ) → k < i → get_or live k 0 < stamp) × ((k : ℕ) → i ≤ k → k < length live → stamp < get_or live k 0)) =
    subst (λ (x : Result ℕ ℕ). MatchResult x (λ i. (i < length live) × (get_or live i 0 ≡ stamp)) (λ i. (i ≤ length live) × ((k : ℕ) → k < i → get_or live k 0 < stamp) × ((k : ℕ) → i ≤ k → k < length live → stamp < get_or live k 0))) is
    (searched live stamp r at (rises_weakly live h.rising)) in m

get_or_any : (xs : List ℕ) (k d : ℕ) → k < length xs → get_or xs k d ≡ get_or xs k 0
get_or_any [] k d low = absurd (omega arith)
get_or_any (x ∷ xs) zero d low = refl
get_or_any (x ∷ xs) (suc k) d low = get_or_any xs k d (omega arith)

pub not_found_live : (p : PassView) (live : List ℕ) (stamp place : ℕ) (r : Result ℕ ℕ) → ListsLive p live → IsBinarySearchResult (λ y. nat_cmp y stamp) live r → r ≡ Err place → ¬ (HasLive p stamp)
not_found_live p live stamp place r h at is there =
    let m : MatchResult (Err place) (λ i. (i < length live) × (get_or live i 0 ≡ stamp)) (λ i. (i ≤ length live) × ((k : ℕ) → k < i → get_or live k 0 < stamp) × ((k : ℕ) → i ≤ k → k < length live → stamp < get_or live k 0)) =
    subst (λ (x : Result ℕ ℕ). MatchResult x (λ i. (i < length live) × (get_or live i 0 ≡ stamp)) (λ i. (i ≤ length live) × ((k : ℕ) → k < i → get_or live k 0 < stamp) × ((k : ℕ) → i ≤ k → k < length live → stamp < get_or live k 0))) is
    (searched live stamp r at (rises_weakly live h.rising)) in
    let none : has_stamp stamp live ≡ false = list_any_none (λ x. x == stamp) live (λ k d low. ne_eqb (get_or live k d) stamp (λ e.
    let any = get_or_any live k d low in
    dite (dec_le place k) (λ le. let more = m.2 k le low in omega arith) (λ gt. let less = m.1 k (omega arith) in omega arith))) in
    let has : has_stamp stamp live ≡ true = h.each stamp ∙ there in absurd (cc)

-- the same of a list that was looked through
pub found_has : (p : PassView) (live looked : List ℕ) (stamp place : ℕ) (r : Result ℕ ℕ) → looked ≡ live → ListsLive p live → IsBinarySearchResult (λ y. nat_cmp y stamp) looked r → r ≡ Ok place → (place < length live) × (get_or live place 0 ≡ stamp) × HasLive p stamp
found_has p live looked stamp place r same h at is =
    let found = found_live p live stamp place r h (subst (λ (l : List ℕ). IsBinarySearchResult (λ y. nat_cmp y stamp) l r) same at) is in
    (found.0, found.1, subst (HasLive p) found.1 (stamp_live p live place h found.0))

pub not_found_has : (p : PassView) (live looked : List ℕ) (stamp place : ℕ) (r : Result ℕ ℕ) → looked ≡ live → ListsLive p live → IsBinarySearchResult (λ y. nat_cmp y stamp) looked r → r ≡ Err place → ¬ (HasLive p stamp)
not_found_has p live looked stamp place r same h at is = not_found_live p live stamp place r h (subst (λ (l : List ℕ). IsBinarySearchResult (λ y. nat_cmp y stamp) l r) same at) is
