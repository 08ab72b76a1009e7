-- The answers of a run in the order of their orders' numbers.
use Rattle.std.proofs.Common.{◌≡◌, ℕ, suc, ◌+◌, ◌<◌, ◌≤◌, ◌⊎◌, inl, inr, List, [], ◌∷◌, length, Some, refl, sym, ap, ◌∙◌, subst, arith, get_or}
use Rattle.std.specs.Prelude.{IsPermutation, All, slice_get}
use Rattle.std.proofs.lemmas.List.Sorted.{IsPermutation-trans, All-permutation}
use Rattle.std.proofs.lemmas.List.Elements.{All-nil, All-cons, All-head, All-tail}
use Rattle.std.proofs.lemmas.Option.{slice_get_within, slice_get_cases, get_or_from_slice_get, slice_get-get_or}
use Rattle.fleet_base.specs.Order.{IsAmong}
use Rattle.fleet_base.proofs.Reorder.{Reorder, Insert, Reorder-sym, Reorder-from_permutation, All-reorder, taken, nothing_in_nothing}
use Rattle.fleet_base.proofs.Reorder.Insert.{here, there}
use Rattle.fleet_base.proofs.Reorder.Reorder.{none, keep, turn, both}
use Rattle.order_text.specs.declared.order.Order.{Order}
use Rattle.order_text.specs.declared.order.Order.TheVariants.{Plan, Cancel}
use Rattle.order_text.specs.Lanes.{all_orders}
use Rattle.lane_runs.specs.declared.answer.Answer.{Answer}
use Rattle.lane_runs.specs.declared.answer.Answer.TheVariants.{Made, Gone}
use Rattle.lane_runs.specs.Answers.{order_of, Fits}
use Rattle.lane_runs.proofs.NameLemmas.{all_names}
use Rattle.journal_lines.specs.Printing.{AreOfRun}

-- ---- lists

module _ {X : Type 0} where
  pub among_reorder : (y : X) {xs ys : List X} → Reorder xs ys → IsAmong y xs → IsAmong y ys
  among_reorder y none h = h
  among_reorder y (keep r) (inl is) = inl is
  among_reorder y (keep r) (inr later) = inr (among_reorder y r later)
  among_reorder y turn (inl is) = inr (inl is)
  among_reorder y turn (inr (inl is)) = inl is
  among_reorder y turn (inr (inr later)) = inr (inr later)
  among_reorder y (both r s) h = among_reorder y s (among_reorder y r h)

  pub All-among : (P : X → Type 0) (y : X) (xs : List X) → All P xs → IsAmong y xs → P y
  All-among P y [] h among = absurd among
  All-among P y (x ∷ xs) h (inl is) = subst P is (All-head P x xs h)
  All-among P y (x ∷ xs) h (inr later) = All-among P y xs (All-tail P x xs h) later

  pub All-at : (P : X → Type 0) (xs : List X) (k : ℕ) (x : X) → All P xs → slice_get xs k ≡ Some x → P x
  All-at P xs k x h at = subst P (get_or_from_slice_get xs k x x at) (h k x (slice_get_within xs k x at))

  pub All-from_each : (P : X → Type 0) (xs : List X) → ((k : ℕ) (x : X) → slice_get xs k ≡ Some x → P x) → All P xs
  All-from_each P xs h k d less = h k (get_or xs k d) (slice_get-get_or xs k d less)

  inserted : {x : X} {s zs : List X} → Insert x s zs → (y : X) (ys : List X) → zs ≡ y ∷ ys → ((x ≡ y) × (s ≡ ys)) ⊎ IsAmong x ys
  inserted here y ys e = inl (cc, cc)
  inserted (there i) y ys e = inr (subst (IsAmong _) (tails e) (stands i))
    where
      tails : {a b : X} {ks ls : List X} → a ∷ ks ≡ b ∷ ls → ks ≡ ls
      tails e = cc

      stands : {x : X} {s zs : List X} → Insert x s zs → IsAmong x zs
      stands here = inl refl
      stands (there i) = inr (stands i)

  -- R holds of each element and each later one, by recursion
  abbrev pub Pairs : (X → X → Type 0) → List X → Type 0
  Pairs R [] = Unit {0}
  Pairs R (x ∷ xs) = All (R x) xs × Pairs R xs

  pub Pairs-from_places : (R : X → X → Type 0) (xs : List X) → ((i j : ℕ) (d : X) → i < j → j < length xs → R (get_or xs i d) (get_or xs j d)) → Pairs R xs
  Pairs-from_places R [] h = tt
  Pairs-from_places R (x ∷ xs) h =
      (λ k d less. h 0 (suc k) d (omega arith) (omega arith), Pairs-from_places R xs (λ i j d before less. h (suc i) (suc j) d (omega arith) (omega arith)))

  pub Pairs-reorder : (R : X → X → Type 0) → ((x y : X) → R x y → R y x) → {xs ys : List X} → Reorder xs ys → Pairs R xs → Pairs R ys
  Pairs-reorder R back none h = h
  Pairs-reorder R back (keep {x} {xs} {ys} r) h = (All-reorder (R x) r h.0, Pairs-reorder R back r h.1)
  Pairs-reorder R back (turn {x} {y} {xs}) h =
      (All-cons (R y) x xs (back x y (All-head (R x) y xs h.0)) h.1.0, (All-tail (R x) y xs h.0, h.1.1))
  Pairs-reorder R back (both r s) h = Pairs-reorder R back s (Pairs-reorder R back r h)

-- ---- answers by their numbers

-- the first answers the order n, and each later one the next order
abbrev pub NumberedFrom : ℕ → List Answer → Type 0
NumberedFrom n [] = Unit {0}
NumberedFrom n (a ∷ answers) = (order_of a ≡ n) × NumberedFrom (n + 1) answers

numbered_by : (n : ℕ) (xs : List Answer) → ((i : ℕ) (a : Answer) → slice_get xs i ≡ Some a → order_of a ≡ n + i) → NumberedFrom n xs
numbered_by n [] h = tt
numbered_by n (x ∷ xs) h = (let e = h 0 x refl in omega arith, numbered_by (n + 1) xs (λ i a at. let e = h (suc i) a at in omega arith))

pub numbered_above : (m n : ℕ) (xs : List Answer) → m ≤ n → NumberedFrom n xs → All (λ a. m ≤ order_of a) xs
numbered_above m n [] low h = All-nil (λ a. m ≤ order_of a)
numbered_above m n (x ∷ xs) low h =
    let e = h.0 in
    All-cons (λ a. m ≤ order_of a) x xs (omega arith) (numbered_above m (n + 1) xs (omega arith) h.1)

abbrev Rises : List Answer → Type 0
Rises xs = Pairs (λ a b. order_of a ≤ order_of b) xs

-- a list that rises has the numbers one after the other, where it has the answers of one that does
same_numbers : (n : ℕ) (ys xs : List Answer) → NumberedFrom n ys → Rises xs → Reorder ys xs → NumberedFrom n xs
same_numbers n [] xs numbered rises r = subst (NumberedFrom n) (sym (nothing_in_nothing (Reorder-sym r))) tt
same_numbers n (y ∷ ys) [] numbered rises r = let e : y ∷ ys ≡ [] = nothing_in_nothing r in absurd (cc)
same_numbers n (y ∷ ys) (x ∷ xs) numbered rises r =
    let t = taken (Reorder-sym r) here in
    elim (inserted t.1 y ys refl) [
      | inl is ↦ (ap order_of is.0 ∙ numbered.0, same_numbers (n + 1) ys xs numbered.1 rises.1 (subst (λ (l : List Answer). Reorder l xs) is.1 (Reorder-sym t.2)))
      | inr later ↦
          let above : n + 1 ≤ order_of x = All-among (λ a. n + 1 ≤ order_of a) x ys (numbered_above (n + 1) (n + 1) ys (omega arith) numbered.1) later in
          let first = numbered.0 in
          absurd (omega (arith, least (among_reorder y r (inl refl))))
    ]
  where
    least : IsAmong y (x ∷ xs) → order_of x ≤ order_of y
    least (inl is) = let e = ap order_of is in omega arith
    least (inr later) = All-among (λ a. order_of x ≤ order_of a) y xs rises.0 later

-- ---- the answers of a run

abbrev pub IsGone : Answer → Type 0
IsGone (Made order e) = ⊥
IsGone (Gone order target) = Unit {0}

-- the first order's answer isn't gone
abbrev pub ComesLate : Answer → Type 0
ComesLate a = IsGone a → 1 ≤ order_of a

module _ (answers : List Answer) (of_run : AreOfRun answers) where
  order_there : (i : ℕ) (a : Answer) → slice_get of_run.run.by_number i ≡ Some a → (o : Order) × (slice_get (all_orders of_run.lanes) i ≡ Some o)
  order_there i a at = elim (slice_get_cases (all_orders of_run.lanes) i).1 [
    | inl found ↦ (found.0, found.2)
    | inr past ↦ let long = of_run.run.whole in let short = past.0 in absurd (omega (arith, slice_get_within of_run.run.by_number i a at))
  ]

  number_there : (i : ℕ) (a : Answer) → slice_get of_run.run.by_number i ≡ Some a → order_of a ≡ i
  number_there i a at = let o = order_there i a at in let f = of_run.run.right.fits i o.0 a o.1 at in let e = f.0 in omega arith

  late_by : (i : ℕ) (o : Order) (a : Answer) → slice_get (all_orders of_run.lanes) i ≡ Some o → order_of a ≡ i → Fits 0 of_run.run.by_number o a → ComesLate a
  late_by i o (Made n e) at is fits gone = absurd gone
  late_by i (Plan q) (Gone n t) at is fits gone = absurd fits
  late_by i (Cancel target) (Gone n t) at is fits gone =
      let earlier = (all_names of_run.cells of_run.lanes of_run.are).plan i target at in
      let less = earlier.1 in omega arith

  late_there : (i : ℕ) (a : Answer) → slice_get of_run.run.by_number i ≡ Some a → ComesLate a
  late_there i a at = let o = order_there i a at in late_by i o.0 a o.1 (number_there i a at) (of_run.run.right.fits i o.0 a o.1 at).1

  pub all_late : All ComesLate answers
  all_late = All-permutation ComesLate of_run.run.by_number answers of_run.run.same (All-from_each ComesLate of_run.run.by_number late_there)

  -- in the order of the numbers they are numbered from 0
  pub numbered_from_rising : (xs : List Answer) → IsPermutation answers xs → Rises xs → NumberedFrom 0 xs
  numbered_from_rising xs same rises =
      same_numbers 0 of_run.run.by_number xs (numbered_by 0 of_run.run.by_number (λ i a at. let e = number_there i a at in omega arith)) rises
      (Reorder-from_permutation of_run.run.by_number xs (IsPermutation-trans of_run.run.by_number answers xs of_run.run.same same))

  -- each number is one of an order
  pub all_within : All (λ a. order_of a < length (all_orders of_run.lanes)) answers
  all_within =
      All-permutation (λ a. order_of a < length (all_orders of_run.lanes)) of_run.run.by_number answers of_run.run.same
      (All-from_each (λ a. order_of a < length (all_orders of_run.lanes)) of_run.run.by_number (λ i a at.
      let e = number_there i a at in let long = of_run.run.whole in omega (arith, slice_get_within of_run.run.by_number i a at)))
