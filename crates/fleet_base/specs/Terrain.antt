-- The grid: open and closed cells, numbered row by row, and the cells beside a cell.
use Rattle.std.specs.Prelude.{◌≡◌, ℕ, ◌+◌, ◌*◌, ◌<◌, ◌≤◌, Bool, true, List, length, Some, slice_get}
use Rattle.fleet_base.specs.declared.grid.Cell.{Cell}
use Rattle.fleet_base.specs.declared.grid.Side.{Side}
use Rattle.fleet_base.specs.declared.grid.Side.TheVariants.{Up, Left, Right, Down}

-- a width, a height, and one truth value a cell
pub record Terrain : Type 0 where
  pub width : ℕ
  pub height : ℕ
  pub cells : List Bool

-- the limits of a grid, and one truth value for each cell
pub record IsTerrain (g : Terrain) : Type 0 where
  pub wide : (1 ≤ g.width) × (g.width ≤ 2048)
  pub high : (1 ≤ g.height) × (g.height ≤ 2048)
  pub area : g.width * g.height ≤ 1048576
  pub full : length g.cells ≡ g.width * g.height

abbrev pub IsOpen : Terrain → Cell → Type 0
IsOpen g c = slice_get g.cells c.0 ≡ Some true

-- the cell at column x and row y: x grows to the right, and y downwards
abbrev pub cell_at : Terrain → ℕ → ℕ → Cell
cell_at g x y = record { 0 = y * g.width + x }

-- c is the cell of the grid at column x and row y
abbrev pub IsAt : Terrain → Cell → ℕ → ℕ → Type 0
IsAt g c x y = (x < g.width) × (y < g.height) × (c.0 ≡ y * g.width + x)

-- d is the cell on that side of c
abbrev pub IsBeside : Terrain → Side → Cell → Cell → Type 0
IsBeside g Up c d = (x : ℕ) × (y : ℕ) × IsAt g c x (y + 1) × IsAt g d x y
IsBeside g Left c d = (x : ℕ) × (y : ℕ) × IsAt g c (x + 1) y × IsAt g d x y
IsBeside g Right c d = (x : ℕ) × (y : ℕ) × IsAt g c x y × IsAt g d (x + 1) y
IsBeside g Down c d = (x : ℕ) × (y : ℕ) × IsAt g c x y × IsAt g d x (y + 1)
