-- What stands in a list, and in a calendar after a change.
use Rattle.std.proofs.Common.{◌≡◌, ◌≢◌, ℕ, zero, suc, ◌<◌, ◌⊎◌, inl, inr, Bool, true, false, List, [], ◌∷◌, ◌++◌, length, refl, ap, ◌∙◌, subst, arith, get_or, take, not}
use Rattle.std.specs.Prelude.{All, filter, ◌==◌, nat_lt, IsPermutation, if◌then◌else◌}
use Rattle.std.specs.List.{Any, list_any}
use Rattle.std.proofs.lemmas.Bool.{and_parts, and_from, eq-eqb, eqb-true, or_left, or_right}
use Rattle.std.proofs.lemmas.List.Elements.{All-head, All-tail, filter_passes}
use Rattle.std.proofs.lemmas.List.Folds.{Any-from_list_any}
use Rattle.fleet_base.specs.declared.request.RouteId.{RouteId}
use Rattle.fleet_base.specs.declared.request.Record.{Record}
use Rattle.fleet_base.specs.History.{same_id}
use Rattle.fleet_base.specs.Order.{IsAmong}
use Rattle.fleet_base.proofs.Reorder.{Reorder, none, keep, turn, both, Reorder-from_permutation}
use Rattle.fleet_base.proofs.OrderLemmas.{IsAmong-filter, IsAmong-from_filter}
use Rattle.calendars.specs.Records.{with_record, without_id}

module _ {X : Type 0} where
  pub among_at : (xs : List X) (k : ℕ) (d : X) → k < length xs → IsAmong (get_or xs k d) xs
  among_at [] k d h = absurd (omega arith)
  among_at (x ∷ xs) zero d h = inl refl
  among_at (x ∷ xs) (suc k) d h = inr (among_at xs k d (omega arith))

  pub place_of_among : (x : X) (xs : List X) → IsAmong x xs → (k : ℕ) × (k < length xs) × (get_or xs k x ≡ x)
  place_of_among x [] h = absurd h
  place_of_among x (y ∷ ys) (inl same) = (0, omega arith, same)
  place_of_among x (y ∷ ys) (inr later) = let p = place_of_among x ys later in (suc p.0, omega (arith, p.1), p.2)

  pub among_all : (P : X → Type 0) (x : X) (xs : List X) → All P xs → IsAmong x xs → P x
  among_all P x [] all h = absurd h
  among_all P x (y ∷ ys) all (inl same) = subst P same (All-head P y ys all)
  among_all P x (y ∷ ys) all (inr later) = among_all P x ys (All-tail P y ys all) later

  pub all_among : (P : X → Type 0) (xs : List X) → ((x : X) → IsAmong x xs → P x) → All P xs
  all_among P xs each k d h = each (get_or xs k d) (among_at xs k d h)

  pub among_any : (P : X → Type 0) (xs : List X) → Any P xs → (x : X) × IsAmong x xs × P x
  among_any P xs (k, x, h, is, p) = (x, subst (λ (y : X). IsAmong y xs) is (among_at xs k x h), p)

  pub among_list_any : (p : X → Bool) (xs : List X) → list_any p xs ≡ true → (x : X) × IsAmong x xs × (p x ≡ true)
  among_list_any p xs h = among_any (λ x. p x ≡ true) xs (Any-from_list_any p xs h)

  pub list_any_among : (p : X → Bool) (x : X) (xs : List X) → IsAmong x xs → p x ≡ true → list_any p xs ≡ true
  list_any_among p x [] h ok = absurd h
  list_any_among p x (y ∷ ys) (inl same) ok = or_left (p y) (list_any p ys) (ap p same ∙ ok)
  list_any_among p x (y ∷ ys) (inr later) ok = or_right (p y) (list_any p ys) (list_any_among p x ys later ok)

  pub among_left : (x : X) (xs ys : List X) → IsAmong x xs → IsAmong x (xs ++ ys)
  among_left x [] ys h = absurd h
  among_left x (y ∷ xs) ys (inl same) = inl same
  among_left x (y ∷ xs) ys (inr later) = inr (among_left x xs ys later)

  pub among_right : (x : X) (xs ys : List X) → IsAmong x ys → IsAmong x (xs ++ ys)
  among_right x [] ys h = h
  among_right x (y ∷ xs) ys h = inr (among_right x xs ys h)

  pub among_append : (x : X) (xs ys : List X) → IsAmong x (xs ++ ys) → IsAmong x xs ⊎ IsAmong x ys
  among_append x [] ys h = inr h
  among_append x (y ∷ xs) ys (inl same) = inl (inl same)
  among_append x (y ∷ xs) ys (inr later) = elim (among_append x xs ys later) [ inl front ↦ inl (inr front) | inr back ↦ inr back ]

  among_reorder : {xs ys : List X} → Reorder xs ys → (x : X) → IsAmong x xs → IsAmong x ys
  among_reorder none x h = h
  among_reorder (keep r) x (inl same) = inl same
  among_reorder (keep r) x (inr later) = inr (among_reorder r x later)
  among_reorder turn x (inl first) = inr (inl first)
  among_reorder turn x (inr (inl second)) = inl second
  among_reorder turn x (inr (inr later)) = inr (inr later)
  among_reorder (both r s) x h = among_reorder s x (among_reorder r x h)

  pub among_permutation : (xs ys : List X) → IsPermutation xs ys → (x : X) → IsAmong x xs → IsAmong x ys
  among_permutation xs ys p x h = among_reorder (Reorder-from_permutation xs ys p) x h

  -- an element among the first ones stands at a lower place
  pub place_in_take : (x d : X) (i : ℕ) (xs : List X) → IsAmong x (take i xs) → (k : ℕ) × (k < i) × (k < length xs) × (get_or xs k d ≡ x)
  place_in_take x d zero xs h = absurd h
  place_in_take x d (suc i) [] h = absurd h
  place_in_take x d (suc i) (y ∷ ys) (inl same) = (0, omega arith, omega arith, same)
  place_in_take x d (suc i) (y ∷ ys) (inr later) = let p = place_in_take x d i ys later in (suc p.0, omega (arith, p.1), omega (arith, p.2), p.3)

  among_either : (b : Bool) (y : X) (xs ys : List X) → IsAmong y (if b then xs else ys) → IsAmong y xs ⊎ IsAmong y ys
  among_either true y xs ys h = inl h
  among_either false y xs ys h = inr h

  among_both : (b : Bool) (y : X) (xs ys : List X) → IsAmong y xs → IsAmong y ys → IsAmong y (if b then xs else ys)
  among_both true y xs ys h k = h
  among_both false y xs ys h k = k

-- a calendar with one record more has that one and the others
pub among_with : (a r : Record) (rs : List Record) → IsAmong r (with_record a rs) → (a ≡ r) ⊎ IsAmong r rs
among_with a r [] h = h
among_with a r (s ∷ rs) h = elim (among_either (nat_lt a.from s.from) r (a ∷ s ∷ rs) (s ∷ with_record a rs) h) [
  | inl first ↦ first
  | inr second ↦ elim second [
    | inl same ↦ inr (inl same)
    | inr later ↦ elim (among_with a r rs later) [ inl is ↦ inl is | inr old ↦ inr (inr old) ]
  ]
]

pub new_among_with : (a : Record) (rs : List Record) → IsAmong a (with_record a rs)
new_among_with a [] = inl refl
new_among_with a (s ∷ rs) = among_both (nat_lt a.from s.from) a (a ∷ s ∷ rs) (s ∷ with_record a rs) (inl refl) (inr (new_among_with a rs))

pub old_among_with : (a r : Record) (rs : List Record) → IsAmong r rs → IsAmong r (with_record a rs)
old_among_with a r [] h = absurd h
old_among_with a r (s ∷ rs) (inl same) = among_both (nat_lt a.from s.from) r (a ∷ s ∷ rs) (s ∷ with_record a rs) (inr (inl same)) (inl same)
old_among_with a r (s ∷ rs) (inr later) =
    among_both (nat_lt a.from s.from) r (a ∷ s ∷ rs) (s ∷ with_record a rs) (inr (inr later)) (inr (old_among_with a r rs later))

-- ids by their two numbers
id_of : ℕ → ℕ → RouteId
id_of stamp caller = record { stamp = stamp; caller = caller }

pub same_ids : (a b : RouteId) → a.stamp ≡ b.stamp → a.caller ≡ b.caller → a ≡ b
unfolding id_of
same_ids a b stamps callers = ap (λ (n : ℕ). id_of n a.caller) stamps ∙ ap (id_of b.stamp) callers

pub same_id-true : (a b : RouteId) → same_id a b ≡ true → a ≡ b
same_id-true a b h =
    let parts = and_parts (a.stamp == b.stamp) (a.caller == b.caller) h in
    same_ids a b (eqb-true a.stamp b.stamp parts.0) (eqb-true a.caller b.caller parts.1)

pub same_id-from : (a b : RouteId) → a ≡ b → same_id a b ≡ true
same_id-from a b same =
    and_from (a.stamp == b.stamp) (a.caller == b.caller) (eq-eqb a.stamp b.stamp (ap (λ (i : RouteId). i.stamp) same)) (eq-eqb a.caller b.caller (ap (λ (i : RouteId). i.caller) same))

pub other_id : (a b : RouteId) → a ≢ b → not (same_id a b) ≡ true
other_id a b differ = go (same_id a b) refl
  where
    go : (t : Bool) → same_id a b ≡ t → not t ≡ true
    go true e = absurd (differ (same_id-true a b e))
    go false e = refl

pub other_id-true : (a b : RouteId) → not (same_id a b) ≡ true → a ≢ b
other_id-true a b h same = let test : same_id a b ≡ true = same_id-from a b same in let e : not (same_id a b) ≡ false = ap not test in absurd (cc)

-- whether two ids are the same
pub id_cases : (a b : RouteId) → (a ≡ b) ⊎ (a ≢ b)
id_cases a b = go (same_id a b) refl
  where
    go : (t : Bool) → same_id a b ≡ t → (a ≡ b) ⊎ (a ≢ b)
    go true e = inl (same_id-true a b e)
    go false e = inr (λ same. let yes_same : same_id a b ≡ true = same_id-from a b same in cc)

-- a calendar without an id has the records of the others
pub among_without : (id : RouteId) (r : Record) (rs : List Record) → IsAmong r rs → r.id ≢ id → IsAmong r (without_id id rs)
among_without id r rs h differ = IsAmong-filter (λ (s : Record). not (same_id s.id id)) r rs (other_id r.id id differ) h

pub was_among : (id : RouteId) (r : Record) (rs : List Record) → IsAmong r (without_id id rs) → IsAmong r rs
was_among id r rs h = IsAmong-from_filter (λ (s : Record). not (same_id s.id id)) r rs h

pub without_has_not : (id : RouteId) (r : Record) (rs : List Record) → IsAmong r (without_id id rs) → r.id ≢ id
without_has_not id r rs h =
    let p : Record → Bool = λ s. not (same_id s.id id) in
    other_id-true r.id id (among_all (λ s. p s ≡ true) r (filter p rs) (filter_passes p rs) h)
