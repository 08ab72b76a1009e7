use Rattle.std.proofs.Common.{◌≡◌, ℕ, ◌≤◌}
use Rattle.std.specs.Prelude.{reverse, length}
use Rattle.fleet_base.specs.Canonical.{IsEarliest}
use Rattle.calendars.specs.Assignments.{Assignment, Agrees, traffic_by}
use Rattle.sipp_search.specs.Marks.{final_count}
use Rattle.sipp_search.specs.Back.{ReadsOn}
use Rattle.sipp_search.specs.Running.{KeepsKnown, Serves}
use Rattle.sipp_search.specs.Ties.{IsPaused, HaveRoom, AreTies, ListsWaiting, TellsStep, LoadedWhereSince, EarlierThan}
use Rattle.sipp_search.proofs.ties.read_ties.Given as goal

abbrev pub invariant-loop-told : goal.invariant-loop-told
invariant-loop-told g l = record {
  cells : g.V.CalendarView.size l.view ≡ g.V.CalendarView.size l.fn.view;
  went : g.V.CalendarView.went l.fn.view l.view;
  kept : KeepsKnown (g.V.CalendarView.known l.fn.view) (g.V.CalendarView.known l.view);
  paused : IsPaused l.task.grid.now l.task.request l.task.horizon (g.V.CalendarView.known l.view) (g.V.CalendarView.size l.view) l.arena;
  ties : AreTies l.task.grid.now l.task.request (g.V.CalendarView.known l.view) l.ties;
  waiting : ListsWaiting l.task.grid.now l.arena.states.items l.arena.queue.floor l.ties;
  floor : l.arena.queue.floor ≡ l.fn.arena.queue.floor;
  count : final_count l.arena.states.items ≡ final_count l.fn.arena.states.items;
  in_time : l.time ≤ l.task.horizon;
  serves : Serves l.task.horizon (length l.task.grid.now.cells) l.arena;
  fit : HaveRoom (length l.task.grid.now.cells) l.ties;
  early : EarlierThan l.time l.told;
  loaded : LoadedWhereSince (g.V.CalendarView.known l.view) l.told;
  told : (a : Assignment) → Agrees a (g.V.CalendarView.known l.view) → TellsStep l.task.grid.now l.task.request a l.at l.time l.told;
  earliest : (a : Assignment) → Agrees a (g.V.CalendarView.known l.view) → (u : ℕ) × IsEarliest l.task.grid.now (traffic_by a) l.task.request l.at u l.time;
  reads : (a : Assignment) → Agrees a (g.V.CalendarView.known l.view) → ReadsOn l.task.grid.now l.task.request a l.arrival l.at l.time (reverse l.cells.items);
}

abbrev pub decreases-loop-told : goal.decreases-loop-told
decreases-loop-told g l = l.time
