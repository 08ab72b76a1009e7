-- How often a caller stands in a list, and among all views.
use Rattle.std.proofs.Common.{◌≡◌, ◌≢◌, ℕ, zero, suc, ◌+◌, ◌<◌, ◌≤◌, List, [], ◌∷◌, ◌++◌, length, set, take, drop, get_or, refl, sym, ap, ◌∙◌, eq-eqb, ne_eqb, if◌then◌else◌, arith, Bool}
use mathlib.Core.Option.{some, some-injective, some-ne-none}
use mathlib.Core.Logic.{dite}
use native.Mathlib.Decide.{ℕ_discrete}
use lib.ListN.{get_elem?}
use Rattle.std.specs.Prelude.{Contains}
use Rattle.std.specs.List.{range_with_len}
use Rattle.turn_book.specs.declared.rule.View.{View}
use Rattle.turn_book.specs.Turns.{times, total}

-- 1 where the numbers are equal
same_one : (y x : ℕ) → y ≡ x → times x (y ∷ []) ≡ 1
same_one y x e = ap (λ (b : Bool). (if b then 1 else 0) + 0) (eq-eqb y x e)

other_zero : (y x : ℕ) → y ≢ x → times x (y ∷ []) ≡ 0
other_zero y x ne = ap (λ (b : Bool). (if b then 1 else 0) + 0) (ne_eqb y x ne)

pub total_set : (f : View → ℕ) (vs : List View) (i : ℕ) (v w : View) → get_elem? vs i ≡ some v → total f (set vs i w) + f v ≡ total f vs + f w
total_set f [] i v w e = absurd (some-ne-none v (sym e))
total_set f (u ∷ us) zero v w e = let h : f u ≡ f v = ap f (some-injective u v e) in omega arith
total_set f (u ∷ us) (suc i) v w e = omega (arith, total_set f us i v w e)

pub total_snoc : (f : View → ℕ) (vs : List View) (w : View) → total f (vs ++ w ∷ []) ≡ total f vs + f w
total_snoc f [] w = omega arith
total_snoc f (u ∷ us) w = omega (arith, total_snoc f us w)

pub total_at : (f : View → ℕ) (vs : List View) (i : ℕ) (v : View) → get_elem? vs i ≡ some v → f v ≤ total f vs
total_at f [] i v e = absurd (some-ne-none v (sym e))
total_at f (u ∷ us) zero v e = let h : f u ≡ f v = ap f (some-injective u v e) in omega arith
total_at f (u ∷ us) (suc i) v e = omega (arith, total_at f us i v e)

-- two views at different places
pub total_two : (f : View → ℕ) (vs : List View) (i j : ℕ) (u v : View) → i ≢ j → get_elem? vs i ≡ some u → get_elem? vs j ≡ some v → f u + f v ≤ total f vs
total_two f [] i j u v ne at there = absurd (some-ne-none u (sym at))
total_two f (x ∷ xs) zero zero u v ne at there = absurd (ne refl)
total_two f (x ∷ xs) zero (suc j) u v ne at there = let h : f x ≡ f u = ap f (some-injective x u at) in omega (arith, total_at f xs j v there)
total_two f (x ∷ xs) (suc i) zero u v ne at there = let h : f x ≡ f v = ap f (some-injective x v there) in omega (arith, total_at f xs i u at)
total_two f (x ∷ xs) (suc i) (suc j) u v ne at there = omega (arith, total_two f xs i j u v (λ e. ne (ap suc e)) at there)

pub times-append : (x : ℕ) (xs ys : List ℕ) → times x (xs ++ ys) ≡ times x xs + times x ys
times-append x [] ys = omega arith
times-append x (y ∷ xs) ys = omega (arith, times-append x xs ys)

pub times_first : (x : ℕ) (xs : List ℕ) → times x (drop 1 xs) + times x (take 1 xs) ≡ times x xs
times_first x [] = refl
times_first x (y ∷ ys) = omega arith

pub times_one : (x : ℕ) (xs : List ℕ) → xs ≡ x ∷ [] → times x xs ≡ 1
times_one x xs e = ap (times x) e ∙ omega (arith, same_one x x refl)

times_at : (x : ℕ) (xs : List ℕ) (k : ℕ) → k < length xs → get_or xs k x ≡ x → 1 ≤ times x xs
times_at x [] k low e = absurd (omega arith)
times_at x (y ∷ ys) zero low e = omega (arith, same_one y x e)
times_at x (y ∷ ys) (suc k) low e = let rest : 1 ≤ times x ys = times_at x ys k (omega arith) e in omega arith

pub times_contained : (x : ℕ) (xs : List ℕ) → Contains xs x → 1 ≤ times x xs
times_contained x xs (k, low, e) = times_at x xs k low e

-- numbers in a row
not_before : (x a n : ℕ) → x < a → times x (range_with_len a n) ≡ 0
not_before x a zero h = refl
not_before x a (suc n) h = omega (arith, other_zero a x (λ e. omega arith), not_before x (a + 1) n (omega arith))

pub each_once : (x a n : ℕ) → times x (range_with_len a n) ≤ 1
each_once x a zero = omega arith
each_once x a (suc n) = dite (ℕ_discrete a x)
    (λ same. omega (arith, same_one a x same, not_before x (a + 1) n (omega arith)))
    (λ ne. omega (arith, other_zero a x ne, each_once x (a + 1) n))

pub dropped : (xs : List ℕ) (x : ℕ) → Contains (drop 1 xs) x → Contains xs x
dropped [] x (k, low, e) = absurd (omega arith)
dropped (y ∷ ys) x (k, low, e) = (suc k, omega arith, e)

pub taken : (xs : List ℕ) (x : ℕ) → Contains (take 1 xs) x → Contains xs x
taken [] x (k, low, e) = absurd (omega arith)
taken (y ∷ ys) x (zero, low, e) = (0, omega arith, e)
taken (y ∷ ys) x (suc k, low, e) = absurd (omega arith)
