-- Which routes stay live as entries are made.
use Rattle.std.proofs.Common.{◌≡◌, ◌≢◌, ℕ, zero, suc, ◌-◌, ◌<◌, ◌≤◌, ◌==◌, ◌⊎◌, inl, inr, ◌||◌, Bool, true, false, true≢false, cond, List, [], ◌∷◌, Some, refl, sym, ap, ◌∙◌, subst, arith, not, eq-eqb}
use Rattle.std.specs.Prelude.{All, filter, fold, slice_get}
use Rattle.std.specs.List.{list_any}
use Rattle.std.proofs.lemmas.Grind.{fold-append}
use Rattle.std.proofs.lemmas.List.Elements.{All-nil, All-cons, All-head, All-tail}
use Rattle.std.proofs.lemmas.Option.{slice_get_within, slice_get_cases}
use Rattle.fleet_base.specs.declared.request.RouteId.{RouteId}
use Rattle.fleet_base.specs.declared.request.Live.{Live}
use Rattle.fleet_base.specs.declared.request.Entry.{Entry}
use Rattle.fleet_base.specs.declared.request.Entry.TheVariants as E
use Rattle.fleet_base.specs.History.{Past, same_id, caller_of, followed_by, past_of, nothing, book_after, IsLive}
use Rattle.order_text.specs.declared.order.Order.{Order}
use Rattle.order_text.specs.declared.order.Order.TheVariants.{Plan, Cancel}
use Rattle.lane_runs.specs.declared.answer.Answer.{Answer}
use Rattle.lane_runs.specs.declared.answer.Answer.TheVariants.{Made, Gone}
use Rattle.lane_runs.specs.Answers.{entries_made, Fits, AreAnswers}
use Rattle.book_trait.specs.Passes.{PassView, entries_of, own, HasLive}
use Rattle.planner_pool.specs.Tries.{IsNewer, Makes}
use Rattle.planner_pool.proofs.LaneLemmas.{any_filter, same_parts, turned}

-- ---- the entries that answers made

pub made_all : (P : Entry → Type 0) (xs : List Answer) → ((i n : ℕ) (e : Entry) → slice_get xs i ≡ Some (Made n e) → P e) → All P (entries_made xs)
made_all P [] each = All-nil P
made_all P (Made n e ∷ xs) each = All-cons P e (entries_made xs) (each 0 n e refl) (made_all P xs (λ i m f at. each (suc i) m f at))
made_all P (Gone n t ∷ xs) each = made_all P xs (λ i m f at. each (suc i) m f at)

pub made_at : (P : Entry → Type 0) (xs : List Answer) (i n : ℕ) (e : Entry) → All P (entries_made xs) → slice_get xs i ≡ Some (Made n e) → P e
made_at P [] i n e h at = absurd (cc)
made_at P (Made m f ∷ xs) zero n e h at = let same : f ≡ e = cc in subst P same (All-head P f (entries_made xs) h)
made_at P (Made m f ∷ xs) (suc i) n e h at = made_at P xs i n e (All-tail P f (entries_made xs) h) at
made_at P (Gone m t ∷ xs) zero n e h at = absurd (cc)
made_at P (Gone m t ∷ xs) (suc i) n e h at = made_at P xs i n e h at

-- ---- a route stays live while no entry ends it

-- the entry isn't the end of this route
abbrev pub Spares : RouteId → Entry → Type 0
Spares id (E.Commit other era q w) = Unit {0}
Spares id (E.Cancel other era) = other.stamp ≢ id.stamp
Spares id (E.NoRoute stamp caller era q) = Unit {0}

or_later : (a b : Bool) → b ≡ true → (a || b) ≡ true
or_later true b h = refl
or_later false b h = h

one_spares : (id : RouteId) (e : Entry) (p : Past) → Spares id e → IsLive id p.book → IsLive id (followed_by p e).book
one_spares id (E.Commit other era q w) p spares lives = or_later (same_id other id) _ lives
one_spares id (E.Cancel other era) p spares lives =
    any_filter (λ r. same_id r.id id) (λ r. not (same_id r.id other)) p.book
    (λ r test. turned (same_id r.id other) (λ t. spares (sym (same_parts r.id other t).0 ∙ (same_parts r.id id test).0))) lives
one_spares id (E.NoRoute stamp caller era q) p spares lives = lives

pub stays_live : (id : RouteId) (es : List Entry) (p : Past) → All (Spares id) es → IsLive id p.book → IsLive id (fold followed_by p es).book
stays_live id [] p spare lives = lives
stays_live id (e ∷ es) p spare lives = stays_live id es (followed_by p e) (All-tail (Spares id) e es spare) (one_spares id e p (All-head (Spares id) e es spare) lives)

-- orders that are answered end routes of their own alone
pub own_ends : (first stamp : ℕ) (orders : List Order) (xs : List Answer) (id : RouteId) → AreAnswers first orders xs → All (IsNewer stamp) (entries_made xs) → id.stamp ≤ stamp → All (Spares id) (entries_made xs)
own_ends first stamp orders xs id are newer low = made_all (Spares id) xs by_entry
  where
    by_order : (i n era : ℕ) (other : RouteId) (o : Order) → Fits first xs o (Made n (E.Cancel other era)) → stamp < other.stamp
    by_order i n era other (Plan q) fits = absurd fits
    by_order i n era other (Cancel target) fits = made_at (IsNewer stamp) xs (target - first) fits.order (E.Commit other fits.era fits.request fits.walk) newer fits.at

    by_entry : (i n : ℕ) (e : Entry) → slice_get xs i ≡ Some (Made n e) → Spares id e
    by_entry i n (E.Commit other era q w) at = tt
    by_entry i n (E.NoRoute s caller era q) at = tt
    by_entry i n (E.Cancel other era) at = elim (slice_get_cases orders i).1 [
      | inl there ↦ λ same. let above = by_order i n era other there.0 (are.fits i there.0 (Made n (E.Cancel other era)) there.2 at).1 in absurd (omega arith)
      | inr past ↦ let few = are.few in absurd (omega (arith, past.0, slice_get_within xs i _ at))
    ]

-- the routes that a pass had stay live while it answers a lane
pub keeps_live : (p q : PassView) (first : ℕ) (orders : List Order) (xs : List Answer) (id : RouteId) → Makes p (entries_made xs) q → AreAnswers first orders xs → id.stamp ≤ p.last → id.caller ≡ p.caller
    → HasLive p id.stamp → HasLive q id.stamp
keeps_live p q first orders xs id makes are low mine lives =
    let here : RouteId = record { stamp = id.stamp; caller = p.caller } in
    let after : IsLive here (fold followed_by (past_of (own p)) (entries_made xs)).book =
    stays_live here (entries_made xs) (past_of (own p)) (own_ends first p.last orders xs here are makes.newer low) lives in
    let same : book_after (own q) ≡ (fold followed_by (past_of (own p)) (entries_made xs)).book =
    ap book_after makes.own ∙ ap (λ (z : Past). z.book) (fold-append followed_by nothing (own p) (entries_made xs)) in
    subst (λ (z : ℕ × List Live). IsLive record { stamp = id.stamp; caller = z.0 } z.1) (λ i. (sym makes.caller i, sym same i)) after

-- ---- live by a caller's own entries is live in the list

bool_cases : (b : Bool) → (b ≡ true) ⊎ (b ≡ false)
bool_cases true = inl refl
bool_cases false = inr refl

any_before : {X : Type 0} (t k : X → Bool) (xs : List X) → list_any t (filter k xs) ≡ true → list_any t xs ≡ true
any_before t k [] h = h
any_before t k (x ∷ xs) h = by_test (t x) (k x) refl h (λ rest. any_before t k xs rest)
  where
    by_test : (a b : Bool) → t x ≡ a → list_any t (cond b (x ∷ filter k xs) (filter k xs)) ≡ true → (list_any t (filter k xs) ≡ true → list_any t xs ≡ true) → (a || list_any t xs) ≡ true
    by_test true b e any rest = refl
    by_test false true e any rest = rest (ap (λ (z : Bool). z || list_any t (filter k xs)) (sym e) ∙ any)
    by_test false false e any rest = rest any

none_cut : {X : Type 0} (t : X → Bool) (xs : List X) → list_any t (filter (λ x. not (t x)) xs) ≡ false
none_cut t [] = refl
none_cut t (x ∷ xs) = by_test (t x) refl (none_cut t xs)
  where
    by_test : (a : Bool) → t x ≡ a → list_any t (filter (λ x. not (t x)) xs) ≡ false → list_any t (cond (not a) (x ∷ filter (λ x. not (t x)) xs) (filter (λ x. not (t x)) xs)) ≡ false
    by_test true e rest = rest
    by_test false e rest = ap (λ (z : Bool). z || list_any t (filter (λ x. not (t x)) xs)) e ∙ rest

id_same : (a b : RouteId) → same_id a b ≡ true → a ≡ b
id_same a b h = let p = same_parts a b h in λ i. record { stamp = p.0 i; caller = p.1 i }

-- what is live in one book is live in another one, after the same entry
same_own : (id : RouteId) (e : Entry) (p r : Past) → (IsLive id p.book → IsLive id r.book) → IsLive id (followed_by p e).book → IsLive id (followed_by r e).book
same_own id (E.Commit other era q w) p r keep lives = by_test (same_id other id) lives
  where
    by_test : (b : Bool) → (b || list_any (λ x. same_id x.id id) p.book) ≡ true → (b || list_any (λ x. same_id x.id id) r.book) ≡ true
    by_test true h = refl
    by_test false h = keep h
same_own id (E.Cancel other era) p r keep lives = elim (bool_cases (same_id other id)) [
  | inl same ↦
      let is : other ≡ id = id_same other id same in
      let cut : list_any (λ x. same_id x.id id) (filter (λ x. not (same_id x.id id)) p.book) ≡ true =
      subst (λ (z : RouteId). list_any (λ x. same_id x.id id) (filter (λ x. not (same_id x.id z)) p.book) ≡ true) is lives in
      absurd (true≢false (sym cut ∙ none_cut (λ (x : Live). same_id x.id id) p.book))
  | inr apart ↦ any_filter (λ x. same_id x.id id) (λ x. not (same_id x.id other)) r.book
      (λ x test. turned (same_id x.id other) (λ t. true≢false (sym (subst (λ (z : RouteId). same_id z id ≡ true) (id_same x.id other t) test) ∙ apart)))
      (keep (any_before (λ x. same_id x.id id) (λ x. not (same_id x.id other)) p.book lives))
]
same_own id (E.NoRoute stamp caller era q) p r keep lives = keep lives

-- entries of other callers end none of the caller's routes
others_spare : (c : ℕ) (id : RouteId) (e : Entry) (r : Past) → id.caller ≡ c → (caller_of e == c) ≡ false → IsLive id r.book → IsLive id (followed_by r e).book
others_spare c id (E.Commit other era q w) r mine apart lives = or_later (same_id other id) _ lives
others_spare c id (E.Cancel other era) r mine apart lives =
    any_filter (λ x. same_id x.id id) (λ x. not (same_id x.id other)) r.book
    (λ x test. turned (same_id x.id other) (λ t.
    let by : other.caller ≡ c = sym (same_parts x.id other t).1 ∙ ((same_parts x.id id test).1 ∙ mine) in
    true≢false (sym (eq-eqb other.caller c by) ∙ apart))) lives
others_spare c id (E.NoRoute stamp caller era q) r mine apart lives = lives

pub live_among : (c : ℕ) (id : RouteId) → id.caller ≡ c → (es : List Entry) (p r : Past) → (IsLive id p.book → IsLive id r.book) → IsLive id (fold followed_by p (entries_of c es)).book → IsLive id (fold followed_by r es).book
live_among c id mine [] p r keep lives = keep lives
live_among c id mine (e ∷ es) p r keep lives =
    by_test (caller_of e == c) refl
    (live_among c id mine es (followed_by p e) (followed_by r e) (same_own id e p r keep))
    (λ by. live_among c id mine es p (followed_by r e) (λ l. others_spare c id e r mine by (keep l)))
    lives
  where
    by_test : (b : Bool) → (caller_of e == c) ≡ b
        → (IsLive id (fold followed_by (followed_by p e) (entries_of c es)).book → IsLive id (fold followed_by (followed_by r e) es).book)
        → ((caller_of e == c) ≡ false → IsLive id (fold followed_by p (entries_of c es)).book → IsLive id (fold followed_by (followed_by r e) es).book)
        → IsLive id (fold followed_by p (cond b (e ∷ entries_of c es) (entries_of c es))).book → IsLive id (fold followed_by (followed_by r e) es).book
    by_test true by both one h = both h
    by_test false by both one h = one by h
