-- What moving out of one spot into the spots of a cell beside it does to the states.
use Rattle.std.specs.Prelude.{ℕ, ◌+◌, ◌≤◌, List}
use Rattle.fleet_base.specs.declared.grid.Cell.{Cell}
use Rattle.fleet_base.specs.declared.grid.Side.{Side}
use Rattle.fleet_base.specs.declared.request.Record.{Record}
use Rattle.fleet_base.specs.declared.request.Request.{Request}
use Rattle.fleet_base.specs.Terrain.{Terrain, IsOpen, IsBeside}
use Rattle.calendars.specs.Places.{place_in}
use Rattle.calendars.specs.Assignments.{Assignment}
use Rattle.safe_intervals.specs.Safe.{IsIn, IsSafeInterval}
use Rattle.safe_intervals.specs.declared.interval.Interval.{Interval}
use Rattle.sipp_search.specs.declared.states.Spot.{Spot}
use Rattle.sipp_search.specs.declared.states.State.{State}
use Rattle.sipp_search.specs.Entry.{CanEnter}
use Rattle.sipp_search.specs.Progress.{IsArrived, HasSeen, MayMove, IsWithin}

-- the spot was reached at r, and the open cell c lies beside it
pub record IsSource (g : Terrain) (q : Request) (horizon : ℕ) (a : Assignment) (from : Spot) (r : ℕ) (c : Cell) : Type 0 where
  pub arrived : IsArrived g q a from r
  pub safe : IsSafeInterval (a from.cell.0) horizon from.interval
  pub side : Side
  pub beside : IsBeside g side from.cell c
  pub opens : IsOpen g c

-- each move from the spot into that interval of c was seen, as far as its key is in the horizon
abbrev pub HasEntered : List Record → List Record → ℕ → List State → Spot → ℕ → Spot → Type 0
HasEntered here there horizon states from r to = (t : ℕ) → CanEnter here there from.interval to.interval r t → t + 1 + to.left ≤ horizon → HasSeen states to.cell (t + 1)

-- each move from the spot into the cell was seen
abbrev pub HasLed : Terrain → Request → ℕ → Assignment → List State → Spot → ℕ → Cell → Type 0
HasLed g q horizon a states from r c = (t k : ℕ) → r ≤ t → t ≤ from.interval.to → MayMove g a from.cell c t
    → IsWithin g q.goal c k → t + 1 + k ≤ horizon → HasSeen states c (t + 1)

-- the same for the moves that arrive after so many records of the cell or more
abbrev pub HasLedPast : Terrain → Request → ℕ → Assignment → List State → Spot → ℕ → Cell → ℕ → Type 0
HasLedPast g q horizon a states from r c first = (t k : ℕ) → r ≤ t → t ≤ from.interval.to → first ≤ place_in (t + 1) (a c.0) → MayMove g a from.cell c t
    → IsWithin g q.goal c k → t + 1 + k ≤ horizon → HasSeen states c (t + 1)

-- the same for the moves that arrive in that interval
abbrev pub HasLedInto : Terrain → Request → ℕ → Assignment → List State → Spot → ℕ → Cell → Interval → Type 0
HasLedInto g q horizon a states from r c i = (t k : ℕ) → r ≤ t → t ≤ from.interval.to → IsIn (t + 1) i → MayMove g a from.cell c t
    → IsWithin g q.goal c k → t + 1 + k ≤ horizon → HasSeen states c (t + 1)
