-- Entries with a base and a top: when the base is the top or 0, and after a write.
use Rattle.std.proofs.Common.{◌≡◌, ℕ, ◌+◌, ◌-◌, ◌≤◌, List, [], ◌∷◌, length, map, replicate, set, refl, ap, ◌∙◌, arith}
use Rattle.std.specs.List.{All}
use Rattle.std.proofs.lemmas.List.{map-set}
use Rattle.std.proofs.lemmas.List.Elements.{All-head, All-tail, All-map, All-weaker}
use Rattle.std.proofs.lemmas.List.Folds.{map_fixed}
use Rattle.stamped_list.specs.Stamps.{number_above}

-- where the base is the top, all are read as 0
pub zeros : (base : ℕ) (entries : List ℕ) → All (λ (entry : ℕ). entry ≤ base) entries → map (number_above base) entries ≡ replicate (length entries) 0
zeros base [] below = refl
zeros base (entry ∷ entries) below =
    let here : entry ≤ base = All-head (λ (e : ℕ). e ≤ base) entry entries below in
    let zero_here : entry - base ≡ 0 = omega arith in
    let rest : map (number_above base) entries ≡ replicate (length entries) 0 = zeros base entries (All-tail (λ (e : ℕ). e ≤ base) entry entries below) in
    cc

-- where the base is 0, an entry is its number
pub themselves : (entries : List ℕ) → map (number_above 0) entries ≡ entries
themselves entries = map_fixed (number_above 0) entries (λ k d within. omega arith)

-- a number is written
pub written : (base : ℕ) (entries : List ℕ) (place value : ℕ) → map (number_above base) (set entries place (base + value)) ≡ set (map (number_above base) entries) place value
written base entries place value =
    let number : base + value - base ≡ value = omega arith in
    map-set (number_above base) entries place (base + value) ∙ ap (λ (n : ℕ). set (map (number_above base) entries) place n) number

-- the top comes down with the entries
pub top_comes_down : (base top : ℕ) (entries : List ℕ) → All (λ (entry : ℕ). entry ≤ top) entries → All (λ (entry : ℕ). entry ≤ top - base) (map (number_above base) entries)
top_comes_down base top entries below =
    All-map (λ (e : ℕ). e ≤ top - base) (number_above base) entries
    (All-weaker (λ (e : ℕ). e ≤ top) (λ (e : ℕ). e - base ≤ top - base) (λ e at_most. omega arith) entries below)
