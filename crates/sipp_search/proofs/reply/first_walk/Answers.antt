use Rattle.std.proofs.Common.{arith, refl}
use Rattle.std.specs.Prelude.{unwrap_or, []}
use Rattle.calendars.specs.Assignments.{traffic_by}
use Rattle.sipp_search.proofs.Backward.{reads_length}
use Rattle.sipp_search.proofs.Moving.{agrees_before}
use Rattle.sipp_search.proofs.Answering.{best_walk}
use Rattle.sipp_search.proofs.reply.first_walk.Goals as goal

pub walk_along-requires-clause-some : goal.walk_along-requires-clause-some
walk_along-requires-clause-some g c =
    (reads_length c.args.task.now.grid.now (traffic_by (λ n. unwrap_or (g.V.CalendarView.known c.cells_back.new.view n) [])) c.args.task.now.request (c.in_ok-cells.ensures.back (λ n. unwrap_or (g.V.CalendarView.known c.cells_back.new.view n) []) (λ n records is. rw is refl))).1

pub walk_along-requires-clause-in_time : goal.walk_along-requires-clause-in_time
walk_along-requires-clause-in_time g c =
    omega (arith, (reads_length c.args.task.now.grid.now (traffic_by (λ n. unwrap_or (g.V.CalendarView.known c.cells_back.new.view n) [])) c.args.task.now.request (c.in_ok-cells.ensures.back (λ n. unwrap_or (g.V.CalendarView.known c.cells_back.new.view n) []) (λ n records is. rw is refl))).0, c.requires.paused.in_time, c.requires.arrival, c.requires.ready.in_range)

pub returns-clause-best : goal.returns-clause-best
returns-clause-best g c =
    λ a agrees.
    best_walk c.args.task.now.grid.now c.args.task.now.horizon a c.args.task.now.request c.args.arrival c.in_ok-cells.cells.items c.walk_along.result (omega (arith, c.requires.paused.in_time, c.requires.arrival))
    (c.requires.first a (agrees_before a (g.V.CalendarView.known c.args.view.now) (g.V.CalendarView.known c.cells_back.new.view) c.in_ok-cells.ensures.kept agrees)) (c.in_ok-cells.ensures.back a agrees) c.walk_along.ensures
