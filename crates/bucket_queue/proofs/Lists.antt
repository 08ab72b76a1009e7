-- What a list has at a place, after a write or at the end of another.
use Rattle.std.proofs.Common.{arith, sym, ap, ◌∙◌, refl, inl, inr, set}
use Rattle.std.proofs.lemmas.Option.{same_Some, none-some}
use Rattle.std.proofs.lemmas.Bool.{cases_eq}
use Rattle.std.specs.Prelude.{◌≡◌, ℕ, zero, suc, ◌<◌, ◌⊎◌, List, [], ◌∷◌, ◌++◌, Some, length, slice_get}

pub slice_get-append_left : {X : Type 0} (xs ys : List X) (i : ℕ) → i < length xs → slice_get (xs ++ ys) i ≡ slice_get xs i
slice_get-append_left [] ys i h = absurd (omega arith)
slice_get-append_left (x ∷ xs) ys zero h = refl
slice_get-append_left (x ∷ xs) ys (suc i) h = slice_get-append_left xs ys i (omega arith)

pub slice_get-append_at : {X : Type 0} (xs : List X) (y : X) → slice_get (xs ++ y ∷ []) (length xs) ≡ Some y
slice_get-append_at [] y = refl
slice_get-append_at (x ∷ xs) y = slice_get-append_at xs y

pub slice_get-set_at : {X : Type 0} (xs : List X) (i : ℕ) (y : X) → i < length xs → slice_get (set xs i y) i ≡ Some y
slice_get-set_at [] i y h = absurd (omega arith)
slice_get-set_at (x ∷ xs) zero y h = refl
slice_get-set_at (x ∷ xs) (suc i) y h = slice_get-set_at xs i y (omega arith)

pub slice_get-set_other : {X : Type 0} (xs : List X) (i k : ℕ) (y : X) → (k ≡ i → ⊥) → slice_get (set xs i y) k ≡ slice_get xs k
slice_get-set_other [] i k y h = refl
slice_get-set_other (x ∷ xs) zero zero y h = absurd (h refl)
slice_get-set_other (x ∷ xs) zero (suc k) y h = refl
slice_get-set_other (x ∷ xs) (suc i) zero y h = refl
slice_get-set_other (x ∷ xs) (suc i) (suc k) y h = slice_get-set_other xs i k y (λ e. h (ap (λ n. suc n) e))

pub set_cases : {X : Type 0} (xs : List X) (x i : ℕ) (y s : X) → x < length xs → slice_get (set xs x y) i ≡ Some s
    → ((i ≡ x) × (s ≡ y)) ⊎ ((i ≡ x → ⊥) × (slice_get xs i ≡ Some s))
set_cases xs x i y s within at = elim (cases_eq i x) [
  | inl e ↦ (let here : slice_get (set xs x y) i ≡ Some y = rw e (slice_get-set_at xs x y within) in
      inl (e, same_Some s y (sym at ∙ here)))
  | inr ne ↦ inr (ne, sym (slice_get-set_other xs x i y ne) ∙ at)
]

-- what stands where one element more stands at the end
pub added_cases : {X : Type 0} (xs : List X) (y : X) (i : ℕ) (x : X) → slice_get (xs ++ y ∷ []) i ≡ Some x → (slice_get xs i ≡ Some x) ⊎ ((i ≡ length xs) × (y ≡ x))
added_cases [] y zero x at = inr (refl, same_Some y x at)
added_cases [] y (suc i) x at = absurd (none-some x at)
added_cases (z ∷ xs) y zero x at = inl at
added_cases (z ∷ xs) y (suc i) x at = elim (added_cases xs y i x at) [ inl old ↦ inl old | inr new ↦ inr (ap (λ (n : ℕ). suc n) new.0, new.1) ]

-- what stands there already is written
pub set-same : {X : Type 0} (xs : List X) (i : ℕ) (y : X) → slice_get xs i ≡ Some y → set xs i y ≡ xs
set-same [] i y at = refl
set-same (x ∷ xs) zero y at = ap (λ (z : _). z ∷ xs) (sym (same_Some x y at))
set-same (x ∷ xs) (suc i) y at = ap (λ (zs : List _). x ∷ zs) (set-same xs i y at)

-- of two writes to a place the last counts
pub set-twice : {X : Type 0} (xs : List X) (i : ℕ) (a b : X) → set (set xs i a) i b ≡ set xs i b
set-twice [] i a b = refl
set-twice (x ∷ xs) zero a b = refl
set-twice (x ∷ xs) (suc i) a b = ap (λ (zs : List _). x ∷ zs) (set-twice xs i a b)
