-- Lines with their numbers, read one after the other.
use Rattle.std.proofs.Common.{◌≡◌, ℕ, ◌+◌, List, [], ◌∷◌, length, refl, arith}
use Rattle.text_lines.specs.Fields.{fields_of}
use Rattle.text_lines.specs.Numbered.{numbered_from}

-- no line
pub numbered_none : (number : ℕ) (lines : List (List ℕ)) → lines ≡ [] → numbered_from number lines ≡ []
unfolding numbered_from
numbered_none number lines e = rw e refl

-- an empty line is passed over
pub numbered_empty : (number : ℕ) (lines : List (List ℕ)) (line : List ℕ) (after : List (List ℕ)) → lines ≡ line ∷ after → length line ≡ 0 → numbered_from number lines ≡ numbered_from (number + 1) after
unfolding numbered_from
numbered_empty number lines [] after e h = rw e refl
numbered_empty number lines (b ∷ bs) after e h = absurd (omega arith)

-- a line that isn't empty
pub numbered_filled : (number : ℕ) (lines : List (List ℕ)) (line : List ℕ) (after : List (List ℕ)) → lines ≡ line ∷ after → ¬ (length line ≡ 0) → numbered_from number lines ≡ record { line = number; fields = fields_of line } ∷ numbered_from (number + 1) after
unfolding numbered_from
numbered_filled number lines [] after e h = absurd (h refl)
numbered_filled number lines (b ∷ bs) after e h = rw e refl
