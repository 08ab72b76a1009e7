-- Places of cells, how far they are apart, and the marks of cells that are counted.
use Rattle.std.specs.Prelude.{◌≡◌, ℕ, zero, suc, ◌+◌, ◌-◌, ◌/◌, ◌%◌, List, [], ◌∷◌, Some, slice_get}
use Rattle.fleet_base.specs.declared.grid.Cell.{Cell}
use Rattle.fleet_base.specs.Terrain.{Terrain}
use Rattle.static_distance.specs.declared.place.Place.{Place}

-- the column and the row of the cell
abbrev pub IsPlaceOf : Terrain → Cell → Place → Type 0
IsPlaceOf g c p = (p.column ≡ c.0 % g.width) × (p.row ≡ c.0 / g.width)

-- how far two numbers are apart
abbrev pub gap : ℕ → ℕ → ℕ
gap a b = (a - b) + (b - a)

-- how many moves lead from one place to another where all cells are open
abbrev pub between : Place → Place → ℕ
between p r = gap p.column r.column + gap p.row r.row

abbrev pub apart : Terrain → Place → Cell → ℕ
apart g toward c = gap (c.0 % g.width) toward.column + gap (c.0 / g.width) toward.row

-- k moves were counted for the cell: its mark is 1 more, and 0 is the mark of one that isn't counted
abbrev pub IsCounted : List ℕ → Cell → ℕ → Type 0
IsCounted marks c k = slice_get marks c.0 ≡ Some (suc k)

-- how many cells aren't counted
abbrev pub uncounted : List ℕ → ℕ
uncounted [] = 0
uncounted (zero ∷ marks) = suc (uncounted marks)
uncounted (suc k ∷ marks) = uncounted marks
