use Rattle.std.proofs.Common.{◌≤◌}
use Rattle.std.specs.Prelude.{reverse}
use Rattle.calendars.specs.Assignments.{Assignment, Agrees}
use Rattle.sipp_search.specs.Back.{IsOn, ReadsOn}
use Rattle.sipp_search.proofs.back.read_back.Given as goal

abbrev pub invariant-loop-hop : goal.invariant-loop-hop
invariant-loop-hop g l = record {
  on : IsOn l.arena.states.items l.at l.time;
  in_time : l.time ≤ 8000;
  reads : (a : Assignment) → Agrees a (g.V.CalendarView.known l.view) → ReadsOn l.task.grid.now l.task.request a l.arrival l.at l.time (reverse l.cells.items);
}

abbrev pub decreases-loop-hop : goal.decreases-loop-hop
decreases-loop-hop g l = l.time
