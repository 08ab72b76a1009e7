use Rattle.std.proofs.Common.{◌≤◌}
use Rattle.calendars.specs.Places.{place_in}
use Rattle.safe_intervals.proofs.gaps.begun_by.Given as goal

abbrev pub invariant-loop-place : goal.invariant-loop-place
invariant-loop-place l = l.place ≤ place_in l.time l.calendar
