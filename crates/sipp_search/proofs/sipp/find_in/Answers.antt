use Rattle.std.proofs.Common.{◌∙◌}
use Rattle.sipp_search.proofs.Serving.{ready_for}
use Rattle.sipp_search.proofs.sipp.find_in.Goals as goal

pub settle_first-requires-clause-ready : goal.settle_first-requires-clause-ready
settle_first-requires-clause-ready g c =
    ready_for c.args.task.now.grid.now c.args.task.now.request c.args.task.now.horizon (g.V.CalendarView.size c.args.view.now) c.requires.cells c.requires.horizon

pub first_walk-requires-clause-ready : goal.first_walk-requires-clause-ready
first_walk-requires-clause-ready g c =
    ready_for c.args.task.now.grid.now c.args.task.now.request c.args.task.now.horizon (g.V.CalendarView.size c.settle_first.new.view) (c.in_ok-arrival.ensures.cells ∙ c.requires.cells) c.requires.horizon
