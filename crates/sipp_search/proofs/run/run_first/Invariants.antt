use Rattle.std.proofs.Common.{◌≡◌, ℕ, ◌≤◌, ◌-◌, ◌+◌, ◌^◌, None}
use Rattle.calendars.specs.Assignments.{Assignment, Agrees}
use Rattle.sipp_search.specs.Marks.{final_count}
use Rattle.sipp_search.specs.Progress.{IsUnderWay}
use Rattle.sipp_search.specs.Running.{IsSound, KeepsKnown, Ends}
use Rattle.sipp_search.proofs.run.run_first.Given as goal

abbrev pub invariant-loop-taken : goal.invariant-loop-taken
invariant-loop-taken g l = record {
  cells : g.V.CalendarView.size l.view ≡ g.V.CalendarView.size l.initial.view;
  went : g.V.CalendarView.went l.initial.view l.view;
  kept : KeepsKnown (g.V.CalendarView.known l.initial.view) (g.V.CalendarView.known l.view);
  sound : IsSound l.task.grid.now l.task.request l.task.horizon (g.V.CalendarView.known l.view) (g.V.CalendarView.size l.view) l.arena;
  low : l.arena.queue.floor ≤ l.task.horizon;
  count : l.steps ≡ l.initial.steps + final_count l.arena.states.items;
  way : (a : Assignment) (x : ℕ) → Agrees a (g.V.CalendarView.known l.view) → IsUnderWay l.task.grid.now l.task.request l.task.horizon a l.arena.states.items l.arena.queue.floor x;
  ends : (a : Assignment) → Agrees a (g.V.CalendarView.known l.view) → Ends l.task.request a l.arena.states.items None;
}

abbrev pub decreases-loop-taken : goal.decreases-loop-taken
decreases-loop-taken g l = 2 ^ 64 - final_count l.arena.states.items
