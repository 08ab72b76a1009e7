use Rattle.std.proofs.Common.{arith, refl}
use Rattle.std.specs.Prelude.{unwrap_or, []}
use Rattle.calendars.specs.Assignments.{traffic_by}
use Rattle.sipp_search.specs.Tabled.{table_from}
use Rattle.sipp_search.proofs.Backward.{reads_length}
use Rattle.sipp_search.proofs.Answering.{route_right}
use Rattle.sipp_search.proofs.reply.walk_to.Goals as goal

pub read_back-requires-clause-on : goal.read_back-requires-clause-on
read_back-requires-clause-on g c =
    let known = g.V.CalendarView.known c.args.view.now in
    let ends = c.requires.ends (λ n. unwrap_or (known n) []) (λ n records is. rw is refl) in
    record { place = ends.place; spot = ends.spot; stands = ends.stands; cell_is = ends.at_goal }

pub walk_along-requires-clause-some : goal.walk_along-requires-clause-some
walk_along-requires-clause-some g c =
    let known = g.V.CalendarView.known c.args.view.now in
    let reads = c.in_ok-cells.ensures (λ n. unwrap_or (known n) []) (λ n records is. rw is refl) in
    (reads_length c.args.task.now.grid.now (traffic_by (λ n. unwrap_or (known n) [])) c.args.task.now.request reads).1

pub walk_along-requires-clause-in_time : goal.walk_along-requires-clause-in_time
walk_along-requires-clause-in_time g c =
    let known = g.V.CalendarView.known c.args.view.now in
    let reads = c.in_ok-cells.ensures (λ n. unwrap_or (known n) []) (λ n records is. rw is refl) in
    omega (arith, (reads_length c.args.task.now.grid.now (traffic_by (λ n. unwrap_or (known n) [])) c.args.task.now.request reads).0, c.requires.in_time, c.requires.ready.in_range)

pub returns : goal.returns
returns g c = λ a agrees.
    route_right c.args.task.now.grid.now c.args.task.now.request c.args.task.now.horizon a c.requires.ready.bound c.args.arena.now.states.items c.args.arrival c.in_ok-cells.cells.items
    c.walk_along.result (table_from c.args.arena.now.states.items) c.requires.in_time (c.requires.over a agrees) (c.requires.ends a agrees) (c.in_ok-cells.ensures a agrees) c.walk_along.ensures refl
