use Rattle.std.proofs.Common.{◌≡◌, ◌≤◌, ◌-◌, ◌+◌, ◌^◌}
use Rattle.sipp_search.specs.Marks.{final_count}
use Rattle.sipp_search.specs.Running.{KeepsKnown}
use Rattle.sipp_search.specs.Ties.{IsPaused}
use Rattle.sipp_search.proofs.run.settle_ties.Given as goal

abbrev pub invariant-loop-taken : goal.invariant-loop-taken
invariant-loop-taken g l = record {
  cells : g.V.CalendarView.size l.view ≡ g.V.CalendarView.size l.initial.view;
  went : g.V.CalendarView.went l.initial.view l.view;
  kept : KeepsKnown (g.V.CalendarView.known l.initial.view) (g.V.CalendarView.known l.view);
  paused : IsPaused l.task.grid.now l.task.request l.task.horizon (g.V.CalendarView.known l.view) (g.V.CalendarView.size l.view) l.arena;
  floor : l.arena.queue.floor ≡ l.limit;
  rises : l.initial.steps ≤ l.steps;
  count : l.steps + final_count l.initial.arena.states.items ≡ l.initial.steps + final_count l.arena.states.items;
}

abbrev pub decreases-loop-taken : goal.decreases-loop-taken
decreases-loop-taken g l = 2 ^ 64 - final_count l.arena.states.items
