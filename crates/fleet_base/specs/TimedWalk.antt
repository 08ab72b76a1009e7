-- Walks: where an agent is at each time, and where two walks meet.
-- The words are those of Stern et al. (2019): a vertex conflict is a shared cell, a swapping conflict an exchange.
use Rattle.std.specs.Prelude.{◌≡◌, ◌≢◌, ℕ, ◌+◌, ◌-◌, ◌⊎◌, Bool, List, length, Option, Some, None, slice_get, nat_lt, min, if◌then◌else◌}
use Rattle.fleet_base.specs.declared.grid.Cell.{Cell}
use Rattle.fleet_base.specs.declared.grid.Side.{Side}
use Rattle.fleet_base.specs.Terrain.{Terrain, IsBeside}

-- one cell for each time from the departure to the arrival, and whether the agent stays on the last one for ever
pub record TimedWalk : Type 0 where
  pub depart : ℕ
  pub cells : List Cell
  pub stay : Bool

-- the last time of the list
abbrev pub arrival : TimedWalk → ℕ
arrival w = w.depart + (length w.cells - 1)

-- which cell of the list an agent is on so many steps after its departure: who stays never leaves the last one
abbrev pub place_after : TimedWalk → ℕ → ℕ
place_after w steps = if w.stay then min steps (length w.cells - 1) else steps

-- where the agent is at a time: nowhere before its departure, and after its arrival only where it stays
abbrev pub position : TimedWalk → ℕ → Option Cell
position w t = if nat_lt t w.depart then None else slice_get w.cells (place_after w (t - w.depart))

-- in one step an agent waits, or moves to a neighbour
abbrev pub IsStep : Terrain → Cell → Cell → Type 0
IsStep g c d = (d ≡ c) ⊎ ((side : Side) × IsBeside g side c d)

-- both are in one cell at the time t
abbrev pub SharesCell : TimedWalk → TimedWalk → ℕ → Type 0
SharesCell w v t = (c : Cell) × (position w t ≡ Some c) × (position v t ≡ Some c)

-- they exchange two cells in the step that begins at t
abbrev pub Exchanges : TimedWalk → TimedWalk → ℕ → Type 0
Exchanges w v t =
    (c : Cell) × (d : Cell) × (c ≢ d) × (position w t ≡ Some c) × (position w (t + 1) ≡ Some d)
    × (position v t ≡ Some d) × (position v (t + 1) ≡ Some c)

abbrev pub MeetAt : TimedWalk → TimedWalk → ℕ → Type 0
MeetAt w v t = SharesCell w v t ⊎ Exchanges w v t

-- the walks meet at some time
pub record Meet (w v : TimedWalk) : Type 0 where
  pub time : ℕ
  pub met : MeetAt w v time
