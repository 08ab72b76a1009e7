-- Elements of a list by their places, where a list is appended or changed at one place.
use Rattle.std.proofs.Common.{arith, sym, ap, ◌∙◌, refl, inl, inr, set}
use Rattle.std.proofs.lemmas.Option.{slice_get_within, same_Some, none-some}
use Rattle.std.proofs.lemmas.Bool.{cases_eq}
use Rattle.std.specs.Prelude.{◌≡◌, ℕ, zero, suc, ◌+◌, ◌<◌, ◌⊎◌, List, [], ◌∷◌, ◌++◌, Some, length, map, slice_get}

pub slice_get-append_left : {X : Type 0} (xs ys : List X) (i : ℕ) → i < length xs → slice_get (xs ++ ys) i ≡ slice_get xs i
slice_get-append_left [] ys i h = absurd (omega arith)
slice_get-append_left (x ∷ xs) ys zero h = refl
slice_get-append_left (x ∷ xs) ys (suc i) h = slice_get-append_left xs ys i (omega arith)

pub slice_get-append_right : {X : Type 0} (xs ys : List X) (j : ℕ) → slice_get (xs ++ ys) (length xs + j) ≡ slice_get ys j
slice_get-append_right [] ys j = let e : 0 + j ≡ j = omega arith in rw e refl
slice_get-append_right (x ∷ xs) ys j = let e : suc (length xs) + j ≡ suc (length xs + j) = omega arith in rw e (slice_get-append_right xs ys j)

-- what stands in the first part stands in the whole
pub stands_left : {X : Type 0} (xs ys : List X) (i : ℕ) (x : X) → slice_get xs i ≡ Some x → slice_get (xs ++ ys) i ≡ Some x
stands_left xs ys i x at = slice_get-append_left xs ys i (slice_get_within xs i x at) ∙ at

pub append_cases : {X : Type 0} (xs ys : List X) (i : ℕ) (x : X) → slice_get (xs ++ ys) i ≡ Some x
    → (slice_get xs i ≡ Some x) ⊎ ((j : ℕ) × (i ≡ length xs + j) × (slice_get ys j ≡ Some x))
append_cases [] ys i x at = inr (i, omega arith, at)
append_cases (y ∷ xs) ys zero x at = inl at
append_cases (y ∷ xs) ys (suc i) x at = elim (append_cases xs ys i x at) [
  | inl h ↦ inl h
  | inr h ↦ inr (h.0, (let e = h.1 in omega arith), h.2)
]

pub slice_get-set_at : {X : Type 0} (xs : List X) (i : ℕ) (y : X) → i < length xs → slice_get (set xs i y) i ≡ Some y
slice_get-set_at [] i y h = absurd (omega arith)
slice_get-set_at (x ∷ xs) zero y h = refl
slice_get-set_at (x ∷ xs) (suc i) y h = slice_get-set_at xs i y (omega arith)

pub slice_get-set_other : {X : Type 0} (xs : List X) (i k : ℕ) (y : X) → (k ≡ i → ⊥) → slice_get (set xs i y) k ≡ slice_get xs k
slice_get-set_other [] i k y h = refl
slice_get-set_other (x ∷ xs) zero zero y h = absurd (h refl)
slice_get-set_other (x ∷ xs) zero (suc k) y h = refl
slice_get-set_other (x ∷ xs) (suc i) zero y h = refl
slice_get-set_other (x ∷ xs) (suc i) (suc k) y h = slice_get-set_other xs i k y (λ e. h (ap (λ n. suc n) e))

-- what stands at a place of the changed list is the new element, or one that stood there
pub set_cases : {X : Type 0} (xs : List X) (x i : ℕ) (y s : X) → x < length xs → slice_get (set xs x y) i ≡ Some s
    → ((i ≡ x) × (y ≡ s)) ⊎ ((i ≡ x → ⊥) × (slice_get xs i ≡ Some s))
set_cases xs x i y s within at = elim (cases_eq i x) [
  | inl e ↦ (let here : slice_get (set xs x y) i ≡ Some y = rw e (slice_get-set_at xs x y within) in inl (e, same_Some y s (sym here ∙ at)))
  | inr ne ↦ inr (ne, sym (slice_get-set_other xs x i y ne) ∙ at)
]

pub set_same : {X : Type 0} (xs : List X) (i : ℕ) (y : X) → slice_get xs i ≡ Some y → set xs i y ≡ xs
set_same [] i y at = refl
set_same (x ∷ xs) zero y at = ap (λ z. z ∷ xs) (sym (same_Some x y at))
set_same (x ∷ xs) (suc i) y at = ap (λ zs. x ∷ zs) (set_same xs i y at)

-- the last element is replaced
pub set_last : {X : Type 0} (xs : List X) (x y : X) → set (xs ++ x ∷ []) (length xs) y ≡ xs ++ y ∷ []
set_last [] x y = refl
set_last (z ∷ xs) x y = ap (λ zs. z ∷ zs) (set_last xs x y)

-- places of a mapped list
pub stands_map : {X Y : Type 0} (f : X → Y) (xs : List X) (i : ℕ) (x : X) → slice_get xs i ≡ Some x → slice_get (map f xs) i ≡ Some (f x)
stands_map f [] i x at = absurd (none-some x at)
stands_map f (y ∷ xs) zero x at = ap (λ z. Some (f z)) (same_Some y x at)
stands_map f (y ∷ xs) (suc i) x at = stands_map f xs i x at

pub map_stands : {X Y : Type 0} (f : X → Y) (xs : List X) (i : ℕ) (y : Y) → slice_get (map f xs) i ≡ Some y → (x : X) × (slice_get xs i ≡ Some x) × (f x ≡ y)
map_stands f [] i y at = absurd (none-some y at)
map_stands f (x ∷ xs) zero y at = (x, refl, same_Some (f x) y at)
map_stands f (x ∷ xs) (suc i) y at = map_stands f xs i y at
