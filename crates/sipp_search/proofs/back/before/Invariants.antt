use Rattle.std.proofs.Common.{ℕ, ◌<◌}
use Rattle.fleet_base.specs.declared.grid.Side.{Side}
use Rattle.fleet_base.specs.Canonical.{rank_of}
use Rattle.calendars.specs.Assignments.{Assignment, Agrees}
use Rattle.sipp_search.specs.Running.{IsOver}
use Rattle.sipp_search.specs.Back.{NoneFrom}
use Rattle.sipp_search.proofs.back.before.Given as goal

abbrev pub invariant-loop-rank : goal.invariant-loop-rank
invariant-loop-rank g l = (a : Assignment) (limit : ℕ) → Agrees a (g.V.CalendarView.known l.view) → IsOver l.task.grid.now l.task.request l.task.horizon a l.arena.states.items limit
    → (side : Side) → rank_of side < l.rank → NoneFrom l.task.grid.now l.task.request a l.at l.entered side
