-- The lanes of a run have ids of their own.
use Rattle.std.proofs.Common.{◌≡◌, ◌≢◌, ℕ, zero, suc, ◌+◌, ◌≤◌, ◌⊎◌, inl, inr, ◌&&◌, Bool, true, false, cond, List, [], ◌∷◌, Some, refl, sym, ap, ap₂, ◌∙◌, subst, arith, eq-eqb}
use Rattle.std.specs.Prelude.{Contains, slice_get, sum_by, IsPermutation}
use Rattle.std.specs.List.{flat_map}
use Rattle.std.proofs.lemmas.List.Elements.{All-contains}
use Rattle.std.proofs.lemmas.List.Sums.{sum_by-cons, sum_by-append}
use Rattle.std.proofs.lemmas.List.Sorted.{sum_by-IsPermutation}
use Rattle.fleet_base.specs.declared.request.RouteId.{RouteId}
use Rattle.fleet_base.specs.declared.request.Entry.{Entry}
use Rattle.fleet_base.specs.declared.request.Entry.TheVariants as E
use Rattle.fleet_base.specs.Terrain.{Terrain}
use Rattle.fleet_base.specs.History.{Past, nothing, followed_by, same_id, IsAllowed, EachFollows, IsLegal}
use Rattle.fleet_base.proofs.HistoryLemmas.{new-fresh}
use Rattle.lane_runs.specs.declared.answer.Answer.{Answer}
use Rattle.lane_runs.specs.declared.answer.Answer.TheVariants.{Made, Gone}
use Rattle.lane_runs.specs.Answers.{entries_made, Committed}
use Rattle.planner_pool.proofs.LaneLemmas.{same_parts}

bool_cases : (b : Bool) → (b ≡ true) ⊎ (b ≡ false)
bool_cases true = inl refl
bool_cases false = inr refl

id_same : (a b : RouteId) → same_id a b ≡ true → a ≡ b
id_same a b h = let p = same_parts a b h in λ i. record { stamp = p.0 i; caller = p.1 i }

-- ---- how many commits of an id there are

abbrev in_entry : RouteId → Entry → ℕ
in_entry id (E.Commit other era q w) = cond (same_id other id) 1 0
in_entry id (E.Cancel other era) = 0
in_entry id (E.NoRoute stamp caller era q) = 0

abbrev in_answer : RouteId → Answer → ℕ
in_answer id (Made n e) = in_entry id e
in_answer id (Gone n t) = 0

in_made : (id : RouteId) (xs : List Answer) → sum_by (in_entry id) (entries_made xs) ≡ sum_by (in_answer id) xs
in_made id [] = refl
in_made id (Made n e ∷ xs) = omega (arith, sum_by-cons (in_entry id) e (entries_made xs), sum_by-cons (in_answer id) (Made n e) xs, in_made id xs)
in_made id (Gone n t ∷ xs) = omega (arith, sum_by-cons (in_answer id) (Gone n t) xs, in_made id xs)

itself : (id : RouteId) → same_id id id ≡ true
itself id = ap₂ ◌&&◌ (eq-eqb id.stamp id.stamp refl) (eq-eqb id.caller id.caller refl)

some_there : (id : RouteId) (xs : List Answer) (i : ℕ) → Committed xs i id → 1 ≤ sum_by (in_answer id) xs
some_there id [] i c = let h = c.at in absurd (cc)
some_there id (x ∷ xs) zero c =
    let h = c.at in
    let same : x ≡ Made c.order (E.Commit id c.era c.request c.walk) = cc in
    let one : in_answer id x ≡ 1 = ap (in_answer id) same ∙ ap (λ (b : Bool). cond b 1 0) (itself id) in
    omega (arith, sum_by-cons (in_answer id) x xs)
some_there id (x ∷ xs) (suc i) c =
    omega (arith, sum_by-cons (in_answer id) x xs, some_there id xs i record { order = c.order; era = c.era; request = c.request; walk = c.walk; at = c.at })

-- ---- a legal history commits an id once

module _ (g : Terrain) (horizon : ℕ) (id : RouteId) where
  known_none : (es : List Entry) (p : Past) → EachFollows (IsAllowed g horizon) p es → Contains p.replies id → sum_by (in_entry id) es ≡ 0
  known_none [] p h has = refl
  known_none (E.Commit other era q w ∷ es) p h has =
      let fresh = All-contains (λ old. old ≢ other) p.replies id (new-fresh other p.replies h.0.new_stamp) has in
      let off : same_id other id ≡ false = elim (bool_cases (same_id other id)) [ inl same ↦ absurd (fresh (sym (id_same other id same))) | inr apart ↦ apart ] in
      let none : in_entry id (E.Commit other era q w) ≡ 0 = ap (λ (b : Bool). cond b 1 0) off in
      omega (arith, sum_by-cons (in_entry id) (E.Commit other era q w) es, known_none es (followed_by p (E.Commit other era q w)) h.1 (suc has.0, omega (arith, has.1), has.2))
  known_none (E.Cancel other era ∷ es) p h has = omega (arith, sum_by-cons (in_entry id) (E.Cancel other era) es, known_none es (followed_by p (E.Cancel other era)) h.1 has)
  known_none (E.NoRoute stamp caller era q ∷ es) p h has =
      omega (arith, sum_by-cons (in_entry id) (E.NoRoute stamp caller era q) es, known_none es (followed_by p (E.NoRoute stamp caller era q)) h.1 (suc has.0, omega (arith, has.1), has.2))

  once : (es : List Entry) (p : Past) → EachFollows (IsAllowed g horizon) p es → sum_by (in_entry id) es ≤ 1
  once [] p h = omega arith
  once (E.Commit other era q w ∷ es) p h = elim (bool_cases (same_id other id)) [
    | inl same ↦
        let one : in_entry id (E.Commit other era q w) ≡ 1 = ap (λ (b : Bool). cond b 1 0) same in
        let none = known_none es (followed_by p (E.Commit other era q w)) h.1 (0, omega arith, id_same other id same) in
        omega (arith, sum_by-cons (in_entry id) (E.Commit other era q w) es)
    | inr apart ↦
        let none : in_entry id (E.Commit other era q w) ≡ 0 = ap (λ (b : Bool). cond b 1 0) apart in
        omega (arith, sum_by-cons (in_entry id) (E.Commit other era q w) es, once es (followed_by p (E.Commit other era q w)) h.1)
  ]
  once (E.Cancel other era ∷ es) p h = omega (arith, sum_by-cons (in_entry id) (E.Cancel other era) es, once es (followed_by p (E.Cancel other era)) h.1)
  once (E.NoRoute stamp caller era q ∷ es) p h = omega (arith, sum_by-cons (in_entry id) (E.NoRoute stamp caller era q) es, once es (followed_by p (E.NoRoute stamp caller era q)) h.1)

-- ---- two lanes

abbrev each_list : List (List Answer) → List Answer
each_list by_lane = flat_map (λ (xs : List Answer). xs) by_lane

module _ (f : Answer → ℕ) where
  one_in : (by_lane : List (List Answer)) (k : ℕ) (xs : List Answer) → slice_get by_lane k ≡ Some xs → sum_by f xs ≤ sum_by f (each_list by_lane)
  one_in [] k xs at = absurd (cc)
  one_in (ys ∷ by_lane) zero xs at = let same : ys ≡ xs = cc in omega (arith, sum_by-append f ys (each_list by_lane), ap (sum_by f) same)
  one_in (ys ∷ by_lane) (suc k) xs at = omega (arith, sum_by-append f ys (each_list by_lane), one_in by_lane k xs at)

  two_in : (by_lane : List (List Answer)) (k m : ℕ) (xs ys : List Answer) → k ≢ m → slice_get by_lane k ≡ Some xs → slice_get by_lane m ≡ Some ys → sum_by f xs + sum_by f ys ≤ sum_by f (each_list by_lane)
  two_in [] k m xs ys apart at there = absurd (cc)
  two_in (zs ∷ by_lane) zero zero xs ys apart at there = absurd (apart refl)
  two_in (zs ∷ by_lane) zero (suc m) xs ys apart at there = let same : zs ≡ xs = cc in omega (arith, sum_by-append f zs (each_list by_lane), ap (sum_by f) same, one_in by_lane m ys there)
  two_in (zs ∷ by_lane) (suc k) zero xs ys apart at there = let same : zs ≡ ys = cc in omega (arith, sum_by-append f zs (each_list by_lane), ap (sum_by f) same, one_in by_lane k xs at)
  two_in (zs ∷ by_lane) (suc k) (suc m) xs ys apart at there = omega (arith, sum_by-append f zs (each_list by_lane), two_in by_lane k m xs ys (λ e. apart (ap suc e)) at there)

-- Where the entries that the answers made are those of a legal history, commits of different lanes have different ids.
pub ids_apart : (g : Terrain) (horizon : ℕ) (by_lane : List (List Answer)) (answers : List Answer) (list : List Entry) → IsLegal g horizon list → IsPermutation (each_list by_lane) answers
    → IsPermutation (entries_made answers) list → (k m i j : ℕ) (xs ys : List Answer) (id other : RouteId) → k ≢ m → slice_get by_lane k ≡ Some xs → slice_get by_lane m ≡ Some ys → Committed xs i id → Committed ys j other → id ≢ other
ids_apart g horizon by_lane answers list legal answers_are entries k m i j xs ys id other apart at there c d same =
    let second : 1 ≤ sum_by (in_answer id) ys = subst (λ (z : RouteId). 1 ≤ sum_by (in_answer z) ys) (sym same) (some_there other ys j d) in
    omega (
      arith,
      some_there id xs i c,
      two_in (in_answer id) by_lane k m xs ys apart at there,
      sum_by-IsPermutation (in_answer id) (each_list by_lane) answers answers_are,
      in_made id answers,
      sum_by-IsPermutation (in_entry id) (entries_made answers) list entries,
      once g horizon id list nothing legal,
    )
