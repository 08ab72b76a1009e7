use Rattle.std.proofs.Common.{◌≡◌, ℕ}
use Rattle.calendars.specs.Assignments.{Assignment, Agrees}
use Rattle.sipp_search.specs.Arena.{ComeBefore}
use Rattle.sipp_search.specs.Marks.{spots_of}
use Rattle.sipp_search.specs.Progress.{IsUnderWay, Improves}
use Rattle.sipp_search.specs.Running.{IsSound, KeepsSpots}
use Rattle.sipp_search.specs.Visiting.{IsSource}
use Rattle.sipp_search.proofs.Entering.{HasLedBetween}
use Rattle.sipp_search.proofs.enter.enter_fresh.Given as goal

abbrev pub invariant-loop-place : goal.invariant-loop-place
invariant-loop-place g l = record {
  sound : IsSound l.task.grid.now l.task.request l.task.horizon (g.V.CalendarView.known l.view) (g.V.CalendarView.size l.view) l.arena;
  floor : l.arena.queue.floor ≡ l.initial.arena.queue.floor;
  spots : KeepsSpots l.initial.arena.states.items l.arena.states.items;
  improves : Improves l.initial.arena.states.items l.arena.states.items;
  fresh : ComeBefore (spots_of l.arena.states.items) l.to l.place;
  led : (a : Assignment) (x : ℕ) → Agrees a (g.V.CalendarView.known l.view) → IsSource l.task.grid.now l.task.request l.task.horizon a l.from l.arrival l.to
      → IsUnderWay l.task.grid.now l.task.request l.task.horizon a l.initial.arena.states.items l.initial.arena.queue.floor x
      → IsUnderWay l.task.grid.now l.task.request l.task.horizon a l.arena.states.items l.initial.arena.queue.floor x
      × HasLedBetween l.task.grid.now l.task.request l.task.horizon a l.arena.states.items l.from l.arrival l.to l.first l.place;
}
