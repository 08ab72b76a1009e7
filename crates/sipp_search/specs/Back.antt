-- What is read back from the goal.
use Rattle.std.specs.Prelude.{◌≡◌, ℕ, ◌+◌, List, ◌++◌, Some, slice_get}
use Rattle.fleet_base.specs.declared.grid.Cell.{Cell}
use Rattle.fleet_base.specs.declared.grid.Side.{Side}
use Rattle.fleet_base.specs.declared.request.Request.{Request}
use Rattle.fleet_base.specs.Terrain.{Terrain, IsBeside}
use Rattle.fleet_base.specs.Canonical.{CanPrecede, IsFirstBefore, IsEarliest, ReadsBack}
use Rattle.calendars.specs.Assignments.{Assignment, traffic_by}
use Rattle.sipp_search.specs.declared.states.Spot.{Spot}
use Rattle.sipp_search.specs.declared.states.State.{State}
use Rattle.sipp_search.specs.Marks.{final}

-- a final state of the cell has that arrival
pub record IsOn (states : List State) (c : Cell) (t : ℕ) : Type 0 where
  pub place : ℕ
  pub spot : Spot
  pub stands : slice_get states place ≡ Some (final spot t)
  pub cell_is : spot.cell ≡ c

-- the cell n on that side of c can precede it, where c is entered at t, and is itself entered at s
pub record IsHopFrom (g : Terrain) (q : Request) (a : Assignment) (states : List State) (c : Cell) (t : ℕ) (side : Side) (n : Cell) (s : ℕ) : Type 0 where
  pub before : ℕ
  pub time_is : t ≡ before + 1
  pub beside : IsBeside g side c n
  pub precedes : CanPrecede g (traffic_by a) q n c before
  pub earliest : IsEarliest g (traffic_by a) q n before s
  pub on : IsOn states n s

-- no cell on that side of c can precede it
abbrev pub NoneFrom : Terrain → Request → Assignment → Cell → ℕ → Side → Type 0
NoneFrom g q a c t side = (n : Cell) (u : ℕ) → IsBeside g side c n → t ≡ u + 1 → ¬ (CanPrecede g (traffic_by a) q n c u)

-- of the neighbours of c that can precede it, n is the first
pub record IsHop (g : Terrain) (q : Request) (a : Assignment) (states : List State) (c : Cell) (t : ℕ) (n : Cell) (s : ℕ) : Type 0 where
  pub before : ℕ
  pub time_is : t ≡ before + 1
  pub first : IsFirstBefore g (traffic_by a) q n c before
  pub earliest : IsEarliest g (traffic_by a) q n before s
  pub on : IsOn states n s

-- what is read back from c at t, followed by these cells, is read back from the goal
abbrev pub ReadsOn : Terrain → Request → Assignment → ℕ → Cell → ℕ → List Cell → Type 0
ReadsOn g q a arrival c t rest = (front : List Cell) → ReadsBack g (traffic_by a) q c t front → ReadsBack g (traffic_by a) q q.goal arrival (front ++ rest)
