use Rattle.std.proofs.Common.{◌≡◌, ◌+◌, ◌*◌, ◌<◌}
use Rattle.fleet_base.specs.declared.grid.Side.{Side}
use Rattle.fleet_base.specs.Canonical.{rank_of}
use Rattle.calendars.specs.Assignments.{Assignment, Agrees}
use Rattle.sipp_search.specs.Marks.{final_count}
use Rattle.sipp_search.specs.Back.{NoneFrom}
use Rattle.sipp_search.specs.Running.{KeepsKnown}
use Rattle.sipp_search.specs.Ties.{IsPaused, AreTies, ListsWaiting}
use Rattle.sipp_search.proofs.ties.+arriving.Given as goal

abbrev pub decreases-arrival_at : goal.decreases-arrival_at
decreases-arrival_at g l = 4 * l.depth + 1

abbrev pub decreases-ask : goal.decreases-ask
decreases-ask g l = 4 * l.depth

abbrev pub decreases-side_back : goal.decreases-side_back
decreases-side_back g l = 4 * l.depth + 2

abbrev pub decreases-step_back : goal.decreases-step_back
decreases-step_back g l = 4 * l.depth + 3

abbrev pub invariant-step_back-loop-rank : goal.invariant-step_back-loop-rank
invariant-step_back-loop-rank g l = record {
  cells : g.V.CalendarView.size l.view ≡ g.V.CalendarView.size l.initial.view;
  went : g.V.CalendarView.went l.initial.view l.view;
  kept : KeepsKnown (g.V.CalendarView.known l.initial.view) (g.V.CalendarView.known l.view);
  paused : IsPaused l.task.grid.now l.task.request l.task.horizon (g.V.CalendarView.known l.view) (g.V.CalendarView.size l.view) l.arena;
  ties : AreTies l.task.grid.now l.task.request (g.V.CalendarView.known l.view) l.ties;
  waiting : ListsWaiting l.task.grid.now l.arena.states.items l.arena.queue.floor l.ties;
  floor : l.arena.queue.floor ≡ l.initial.arena.queue.floor;
  count : final_count l.arena.states.items ≡ final_count l.initial.arena.states.items;
  none : (a : Assignment) → Agrees a (g.V.CalendarView.known l.view) → (side : Side) → rank_of side < l.rank → NoneFrom l.task.grid.now l.task.request a l.at l.entered side;
}
