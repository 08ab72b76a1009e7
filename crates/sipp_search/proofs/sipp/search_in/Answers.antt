use Rattle.std.proofs.Common.{arith, ap, length, ◌∙◌}
use Rattle.sipp_search.specs.Answer.{table_in}
use Rattle.sipp_search.proofs.Serving.{ready_for}
use Rattle.sipp_search.proofs.Answering.{loads_needed, table_length}
use Rattle.sipp_search.proofs.sipp.search_in.Goals as goal

pub settle-requires-clause-ready : goal.settle-requires-clause-ready
settle-requires-clause-ready g c = ready_for c.args.task.now.grid.now c.args.task.now.request c.args.task.now.horizon (g.V.CalendarView.size c.args.view.now) c.requires.cells c.requires.horizon

pub answer-requires-clause-ready : goal.answer-requires-clause-ready
answer-requires-clause-ready g c =
    ready_for c.args.task.now.grid.now c.args.task.now.request c.args.task.now.horizon (g.V.CalendarView.size c.settle.new.view) (c.in_ok-found.ensures.cells ∙ c.requires.cells) c.requires.horizon

pub returns-clause-loads : goal.returns-clause-loads
returns-clause-loads g c =
    loads_needed c.args.task.now.grid.now c.args.task.now.request c.settle.new.arena.states.items (table_in c.in_ok-found-2.found) (g.V.CalendarView.known c.args.view.now)
    (g.V.CalendarView.known c.settle.new.view) c.in_ok-found-2.ensures.table c.in_ok-found.ensures.loads

pub returns-clause-counted : goal.returns-clause-counted
returns-clause-counted g c =
    omega (arith, c.in_ok-found.ensures.counted, table_length c.settle.new.arena.states.items, ap length c.in_ok-found-2.ensures.table)
