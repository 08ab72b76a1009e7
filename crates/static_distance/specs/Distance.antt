-- Ways over open cells, and the static distance.
use Rattle.std.specs.Prelude.{ℕ, ◌+◌, ◌≤◌}
use Rattle.fleet_base.specs.declared.grid.Cell.{Cell}
use Rattle.fleet_base.specs.declared.grid.Side.{Side}
use Rattle.fleet_base.specs.Terrain.{Terrain, IsOpen, IsBeside}

-- a way of so many moves from a cell to the goal, over open cells: each move goes to a cell beside
pub data IsWay (g : Terrain) (goal : Cell) : Cell → ℕ → Type 0 where
  there : IsOpen g goal → IsWay g goal goal 0
  move : {c d : Cell} {k : ℕ} (side : Side) → IsOpen g c → IsBeside g side c d → IsWay g goal d k → IsWay g goal c (k + 1)

-- the static distance of c is d: there is a way of d moves from c to the goal, and none is shorter
pub record IsDistance (g : Terrain) (goal c : Cell) (d : ℕ) : Type 0 where
  pub way : IsWay g goal c d
  pub least : (k : ℕ) → IsWay g goal c k → d ≤ k
