-- The sizes in a header: what fits.
use Rattle.std.proofs.Common.{◌≡◌, ℕ, ◌*◌, ◌/◌, ◌≤◌, Bool, true, false, List, [], ◌∷◌, min, Option, Some, None, refl, sym, arith}
use Rattle.std.specs.Prelude.{nat_le, ◌&&◌}
use Rattle.std.proofs.lemmas.Bool.{leb-true, le-leb}
use Rattle.std.proofs.Math.Nat.{le-div_iff_mul-le}
use Rattle.text_lines.specs.Numbers.{number_of}
use Rattle.map_text.specs.MapGrammar.{size_in, size_of, fits_width}

same_in : (f g : ℕ → Bool) (n : Option ℕ) → ((k : ℕ) → f k ≡ g k) → size_in f n ≡ size_in g n
same_in f g None h = refl
same_in f g (Some k) h = rw (h k) refl

-- two tests that are the same for every number give the same size
pub same_size : (word : List ℕ) (f g : ℕ → Bool) (fields : List (List ℕ)) → ((k : ℕ) → f k ≡ g k) → size_of word f fields ≡ size_of word g fields
same_size word f g [] h = refl
same_size word f g (w ∷ []) h = refl
same_size word f g (w ∷ n ∷ []) h = rw (same_in f g (number_of n) h) refl
same_size word f g (w ∷ n ∷ x ∷ rest) h = refl

same_bool : (a b : Bool) → (a ≡ true → b ≡ true) → (b ≡ true → a ≡ true) → a ≡ b
same_bool true true f g = refl
same_bool true false f g = sym (f refl)
same_bool false true f g = g refl
same_bool false false f g = refl

and_parts : (a b : Bool) → (a && b) ≡ true → (a ≡ true) × (b ≡ true)
and_parts true true e = (refl, refl)
and_parts true false e = absurd cc
and_parts false b e = absurd cc

-- the two limits of a width are one
pub width_limit : (height limit : ℕ) → 1 ≤ height → limit ≡ min (1048576 / height) 2048 → (k : ℕ) → nat_le k limit ≡ fits_width height k
width_limit height limit high is k =
    let way = le-div_iff_mul-le {k = height} {x = k} {y = 1048576} high in
    same_bool (nat_le k limit) (fits_width height k)
    (λ e. let a : k ≤ limit = leb-true _ _ e in
    let b : k * height ≤ 1048576 = way.0 (omega arith) in
    let x : nat_le k 2048 ≡ true = le-leb _ _ (omega arith) in
    let y : nat_le (k * height) 1048576 ≡ true = le-leb _ _ b in
    rw (x, y) refl)
    (λ e. let p = and_parts (nat_le k 2048) (nat_le (k * height) 1048576) e in
    let a : k ≤ 2048 = leb-true _ _ p.0 in
    let b : k ≤ 1048576 / height = way.1 (leb-true _ _ p.1) in
    le-leb _ _ (omega arith))
