use Rattle.std.proofs.Common.{arith}
use Rattle.sipp_search.proofs.Paused.{count_kept}
use Rattle.sipp_search.proofs.reply.cells_back.Goals as goal

pub returns-in_err-cells-clause-takes : goal.returns-in_err-cells-clause-takes
returns-in_err-cells-clause-takes g c =
    λ lists are. omega (arith, count_kept c.args.task.now.grid.now c.args.task.now.request c.args.task.now.horizon (g.V.CalendarView.known c.args.view.now) (g.V.CalendarView.known c.read_ties.new.view) (g.V.CalendarView.size c.args.view.now) (g.V.CalendarView.size c.read_ties.new.view) c.args.arena.now lists c.requires.ready.size_is c.requires.paused.sound c.in_err-cells.ensures.kept c.in_err-cells.ensures.cells are)

pub returns-in-Some-clause-takes : goal.returns-in-Some-clause-takes
returns-in-Some-clause-takes g c =
    λ lists are. omega (arith, count_kept c.args.task.now.grid.now c.args.task.now.request c.args.task.now.horizon (g.V.CalendarView.known c.args.view.now) (g.V.CalendarView.known c.read_ties.new.view) (g.V.CalendarView.size c.args.view.now) (g.V.CalendarView.size c.read_ties.new.view) c.args.arena.now lists c.requires.ready.size_is c.requires.paused.sound c.in_ok-cells.ensures.kept c.in_ok-cells.ensures.cells are)
