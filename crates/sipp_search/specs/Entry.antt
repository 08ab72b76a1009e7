-- The moves from one safe interval into another.
use Rattle.std.specs.Prelude.{◌≡◌, ℕ, ◌+◌, ◌≤◌, false, List}
use Rattle.fleet_base.specs.declared.request.Record.{Record}
use Rattle.calendars.specs.Records.{is_exchange}
use Rattle.safe_intervals.specs.declared.interval.Interval.{Interval}
use Rattle.safe_intervals.specs.Safe.{IsIn}

-- from the first interval, where the agent is since a time, a move at t leads into the second one and is no exchange
pub record CanEnter (here there : List Record) (from to : Interval) (since t : ℕ) : Type 0 where
  pub not_before : since ≤ t
  pub until : t ≤ from.to
  pub lands : IsIn (t + 1) to
  pub unbarred : is_exchange here there t ≡ false

-- the least time of arrival by such a move
pub record IsEntry (here there : List Record) (from to : Interval) (since arrival : ℕ) : Type 0 where
  pub before : ℕ
  pub time_is : arrival ≡ before + 1
  pub enters : CanEnter here there from to since before
  pub least : (t : ℕ) → CanEnter here there from to since t → before ≤ t
