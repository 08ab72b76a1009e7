-- The cells beside a cell.
use Rattle.std.specs.Prelude.{◌≡◌, ◌<◌, List, Option, Some, None, length, slice_get}
use Rattle.fleet_base.specs.declared.grid.Cell.{Cell}
use Rattle.fleet_base.specs.declared.grid.Side.{Side}
use Rattle.fleet_base.specs.Terrain.{Terrain, IsBeside}
use Rattle.fleet_base.specs.Canonical.{rank_of}
use Rattle.static_distance.specs.Levels.{IsPlaceOf}
use Rattle.sipp_search.specs.declared.around.Neighbour.{Neighbour}

-- the cell on that side of c, and its place; or none, where that side is outside
abbrev pub IsNeighbour : Terrain → Side → Cell → Option Neighbour → Type 0
IsNeighbour g side c (Some n) = IsBeside g side c n.cell × IsPlaceOf g n.cell n.place × (n.cell.0 < length g.cells)
IsNeighbour g side c None = (d : Cell) → ¬ (IsBeside g side c d)

-- the list has what is on that side of c, by the side's rank
abbrev pub HasNeighbour : Terrain → Side → Cell → List (Option Neighbour) → Type 0
HasNeighbour g side c all = (o : Option Neighbour) × (slice_get all (rank_of side) ≡ Some o) × IsNeighbour g side c o
