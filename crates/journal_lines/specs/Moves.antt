-- The letters of a walk: one for each of its steps.
use Rattle.std.specs.Prelude.{ℕ, ◌+◌, ◌/◌, ◌%◌, ◌==◌, if◌then◌else◌, List, [], ◌∷◌, codes}
use Rattle.fleet_base.specs.declared.grid.Cell.{Cell}
use Rattle.fleet_base.specs.Terrain.{Terrain}

abbrev pub column_of : ℕ → Cell → ℕ
column_of width c = c.0 % width

abbrev pub row_of : ℕ → Cell → ℕ
row_of width c = c.0 / width

-- the letter of a step: `U` for y less 1, `L` for x less 1, `R` for x plus 1, `D` for y plus 1, `W` for waiting
unfoldable pub letter_of : ℕ → Cell → Cell → ℕ
letter_of width c d =
    if row_of width d + 1 == row_of width c then 85
    else if column_of width d + 1 == column_of width c then 76
    else if column_of width c + 1 == column_of width d then 82
    else if row_of width c + 1 == row_of width d then 68
    else 87

-- a letter for each step
abbrev pub letters_of : ℕ → List Cell → List ℕ
letters_of width [] = []
letters_of width (c ∷ []) = []
letters_of width (c ∷ d ∷ cells) = letter_of width c d ∷ letters_of width (d ∷ cells)

abbrev pub or_dash : List ℕ → List ℕ
or_dash [] = codes "-"
or_dash (b ∷ bs) = b ∷ bs

-- the letters, or `-` where there is no step
abbrev pub moves_of : Terrain → List Cell → List ℕ
moves_of g cells = or_dash (letters_of g.width cells)
