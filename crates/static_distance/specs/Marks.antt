-- The marks of all cells: with few cells as a list has them, with many as the layers of their spans tell them.
use Rattle.std.specs.Prelude.{ℕ, zero, suc, ◌+◌, ◌-◌, ◌*◌, ◌/◌, ◌%◌, Bool, true, false, List, [], ◌∷◌, length, get_or}
use Rattle.fleet_base.specs.Terrain.{Terrain}
use Rattle.static_distance.specs.declared.place.Place.{Place}
use Rattle.static_distance.specs.declared.layers.Layers.{Layers}
use Rattle.static_distance.specs.declared.distances.Distances.{Distances}
use Rattle.static_distance.specs.Levels.{apart}
use Rattle.static_distance.specs.Layers.{told}

-- how many spans a row has
abbrev pub stride : Terrain → ℕ
stride g = (g.width + 63) / 64

-- the number of the span that has the cell of that number, and the cell's place there
abbrev pub span_number : Terrain → ℕ → ℕ
span_number g n = n / g.width * stride g + n % g.width / 64

abbrev pub span_place : Terrain → ℕ → ℕ
span_place g n = n % g.width % 64

-- The mark of a cell of a span that is known where that is 1: 1 plus what is left of its level after so many moves, or 0 where it isn't counted.
abbrev pub mark_of : ℕ → ℕ → ℕ → ℕ
mark_of (suc zero) (suc level) moves = suc (level - moves)
mark_of (suc zero) zero moves = 0
mark_of zero level moves = 0
mark_of (suc (suc more)) level moves = 0

-- the mark of the cell of that number
abbrev pub mark_at : Terrain → Place → List ℕ → Layers → ℕ → ℕ
mark_at g toward known layers n = mark_of (get_or known (span_number g n) 0) (told layers (span_number g n) (span_place g n)) (apart g toward (record { 0 = n }))

-- so many numbers, from one on
abbrev pub numbers : (ℕ → ℕ) → ℕ → ℕ → List ℕ
numbers mark n zero = []
numbers mark n (suc count) = mark n ∷ numbers mark (suc n) count

-- the marks of all cells that layers tell
unfoldable pub marks_in : Terrain → Place → List ℕ → Layers → List ℕ
marks_in g toward known layers = numbers (mark_at g toward known layers) 0 (length g.cells)

-- the first list where there are few cells, else the second one
abbrev pub listed_or : Bool → List ℕ → List ℕ → List ℕ
listed_or true listed layered = listed
listed_or false listed layered = layered

-- the marks of all cells
abbrev pub marks_of : Terrain → Distances → List ℕ
marks_of g d = listed_or d.few d.by_cell (marks_in g d.toward d.known d.layers)
