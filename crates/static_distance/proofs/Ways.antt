-- Ways over open cells and static distances: a way can be gone backwards, a distance is unique, and it changes by one at most from cell to cell.
use Rattle.std.proofs.Common.{◌≡◌, ℕ, ◌+◌, ◌≤◌, arith}
use Rattle.fleet_base.specs.declared.grid.Cell.{Cell}
use Rattle.fleet_base.specs.declared.grid.Side.{Side}
use Rattle.fleet_base.specs.declared.grid.Side.TheVariants.{Up, Left, Right, Down}
use Rattle.fleet_base.specs.Terrain.{Terrain, IsOpen, IsBeside}
use Rattle.static_distance.specs.Distance.{IsWay, there, move, IsDistance}

-- who is beside a cell has it beside
pub beside_back : (g : Terrain) (side : Side) (c d : Cell) → IsBeside g side c d → (other : Side) × IsBeside g other d c
beside_back g Up c d (x, y, at, to) = (Down, (x, y, to, at))
beside_back g Left c d (x, y, at, to) = (Right, (x, y, to, at))
beside_back g Right c d (x, y, at, to) = (Left, (x, y, to, at))
beside_back g Down c d (x, y, at, to) = (Up, (x, y, to, at))

module _ (g : Terrain) where
  pub way_open : {goal c : Cell} {k : ℕ} → IsWay g goal c k → IsOpen g c
  way_open (there opened) = opened
  way_open (move side opened beside rest) = opened

  pub way_opens_goal : {goal c : Cell} {k : ℕ} → IsWay g goal c k → IsOpen g goal
  way_opens_goal (there opened) = opened
  way_opens_goal (move side opened beside rest) = way_opens_goal rest

  -- a way that goes on by one move
  pub longer : {goal c next : Cell} {k : ℕ} (side : Side) → IsWay g goal c k → IsBeside g side goal next → IsOpen g next → IsWay g next c (k + 1)
  longer side (there opened) beside next_open = move side opened beside (there next_open)
  longer side (move other opened step rest) beside next_open = move other opened step (longer side rest beside next_open)

  -- a way can be gone backwards
  pub reversed : {goal c : Cell} {k : ℕ} → IsWay g goal c k → IsWay g c goal k
  reversed (there opened) = there opened
  reversed (move {c} {d} side opened beside rest) =
      let back = beside_back g side c d beside in longer back.0 (reversed rest) back.1 opened

  pub distance_once : (goal c : Cell) (a b : ℕ) → IsDistance g goal c a → IsDistance g goal c b → a ≡ b
  distance_once goal c a b one two =
      let low : a ≤ b = one.least b two.way in
      let high : b ≤ a = two.least a one.way in
      omega arith

  -- the distance of the goal is 0, where it is open
  pub goal_distance : (goal : Cell) → IsOpen g goal → IsDistance g goal goal 0
  goal_distance goal opened = record { way = there opened; least = λ k way. omega arith }
