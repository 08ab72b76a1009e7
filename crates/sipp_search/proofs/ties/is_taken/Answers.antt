use Rattle.sipp_search.proofs.Paused.{paused_kept, ties_kept}
use Rattle.sipp_search.proofs.ties.is_taken.Goals as goal

pub returns-clause-paused : goal.returns-clause-paused
returns-clause-paused g c =
    paused_kept c.args.task.now.grid.now c.args.task.now.request c.args.task.now.horizon (g.V.CalendarView.known c.args.view.now) (g.V.CalendarView.known c.load.new.self)
    (g.V.CalendarView.size c.args.view.now) (g.V.CalendarView.size c.load.new.self) c.args.arena.now c.requires.paused c.in_ok-load.ensures.kept c.in_ok-load.ensures.same_size

pub returns-clause-ties : goal.returns-clause-ties
returns-clause-ties g c =
    ties_kept c.args.task.now.grid.now c.args.task.now.request (g.V.CalendarView.known c.args.view.now) (g.V.CalendarView.known c.load.new.self) c.args.ties.now c.in_ok-load.ensures.kept c.requires.ties
