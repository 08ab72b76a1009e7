-- The canonical text of a grid.
use Rattle.std.specs.Prelude.{ℕ, zero, suc, Bool, true, false, List, [], ◌∷◌, ◌++◌, map, take, drop, codes, decimal}
use Rattle.fleet_base.specs.Terrain.{Terrain}

-- `.` for open and `@` for closed
abbrev pub letter_of : Bool → ℕ
letter_of true = 46
letter_of false = 64

-- a line with its end, and what follows
abbrev pub line_then : List ℕ → List ℕ → List ℕ
line_then line rest = line ++ 10 ∷ rest

-- so many rows of letters, one letter for each cell
unfoldable pub rows_text : ℕ → ℕ → List Bool → List ℕ
rows_text width zero cells = []
rows_text width (suc count) cells = line_then (map letter_of (take width cells)) (rows_text width count (drop width cells))

-- the header, and the rows from the upper one down; numbers have no leading zeros
unfoldable pub canonical : Terrain → List ℕ
canonical g =
    line_then (codes "type octile")
    (line_then (codes "height" ++ 32 ∷ decimal g.height)
    (line_then (codes "width" ++ 32 ∷ decimal g.width)
    (line_then (codes "map") (rows_text g.width g.height g.cells))))
