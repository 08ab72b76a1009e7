-- Where a free walk can be at each time: by whole walks, and step by step.
use Rattle.std.specs.Prelude.{◌≡◌, ◌≢◌, ℕ, ◌+◌, ◌≤◌, false, true}
use Rattle.fleet_base.specs.declared.grid.Cell.{Cell}
use Rattle.fleet_base.specs.declared.request.Request.{Request}
use Rattle.fleet_base.specs.Terrain.{Terrain, IsOpen}
use Rattle.fleet_base.specs.TimedWalk.{TimedWalk, arrival, IsStep}
use Rattle.fleet_base.specs.Planned.{IsWalkOf}
use Rattle.fleet_base.specs.Traffic.{Traffic, IsFreeIn}

-- the request to reach a cell, without staying there
abbrev pub reaching : Request → Cell → Request
reaching q c = record { start = q.start; goal = c; depart = q.depart; stay = false }

-- a free walk from the request's start, at its departure, ends on c at t
pub record IsReachable (g : Terrain) (traffic : Traffic) (q : Request) (c : Cell) (t : ℕ) : Type 0 where
  pub walk : TimedWalk
  pub walk_of : IsWalkOf g t (reaching q c) walk
  pub free : IsFreeIn traffic walk
  pub ends : arrival walk ≡ t

-- nobody is in d at the end of the step from c to d that begins at t, and where it is a move it is no exchange
pub record IsClearStep (traffic : Traffic) (c d : Cell) (t : ℕ) : Type 0 where
  pub untaken : traffic.is_taken d (t + 1) ≡ false
  pub unbarred : c ≢ d → traffic.is_barred c d t ≡ false

-- the same as reachable, one step after another
pub data Reached (g : Terrain) (traffic : Traffic) (start : Cell) (depart : ℕ) : Cell → ℕ → Type 0 where
  begin : IsOpen g start → traffic.is_taken start depart ≡ false → Reached g traffic start depart start depart
  step : {c d : Cell} {t : ℕ} → Reached g traffic start depart c t → IsStep g c d → IsOpen g d → IsClearStep traffic c d t
      → Reached g traffic start depart d (t + 1)

-- an agent may end on the request's goal at t: where it stays, nobody comes there from then on
abbrev pub MayEnd : Traffic → Request → ℕ → Type 0
MayEnd traffic q t = q.stay ≡ true → (s : ℕ) → t ≤ s → traffic.is_taken q.goal s ≡ false

-- the goal is reachable at t, and the agent may end there
pub record IsArrival (g : Terrain) (traffic : Traffic) (q : Request) (t : ℕ) : Type 0 where
  pub reachable : IsReachable g traffic q q.goal t
  pub may_end : MayEnd traffic q t
