-- The lines that aren't empty, with their numbers.
use Rattle.std.specs.Prelude.{ℕ, ◌+◌, List, [], ◌∷◌, if◌then◌else◌}
use Rattle.text_lines.specs.Lines.{is_filled}
use Rattle.text_lines.specs.Fields.{fields_of}

-- a line that isn't empty
pub record Numbered : Type 0 where
  pub line : ℕ
  pub fields : List (List ℕ)

-- empty lines are left out, but keep their numbers; the first line has the given one
unfoldable pub numbered_from : ℕ → List (List ℕ) → List Numbered
numbered_from number [] = []
numbered_from number (line ∷ lines) =
    if is_filled line
    then record { line = number; fields = fields_of line } ∷ numbered_from (number + 1) lines
    else numbered_from (number + 1) lines
