use Rattle.std.proofs.Common.{subst, sym, ◌∙◌, ℕ}
use Rattle.sipp_search.specs.Progress.{IsUnderWay}
use Rattle.sipp_search.specs.Running.{IsSound}
use Rattle.sipp_search.proofs.Answering.{loads_all}
use Rattle.sipp_search.proofs.run.settle.Goals as goal

pub begin-requires-clause-sound : goal.begin-requires-clause-sound
begin-requires-clause-sound g c =
    let known = g.V.CalendarView.known c.args.view.now in
    subst (λ (n : ℕ). IsSound c.args.task.now.grid.now c.args.task.now.request c.args.task.now.horizon known n c.prepare.new.arena) (sym c.requires.ready.size_is) (c.in_ok-prepare.ensures.sound known)

pub run-requires-clause-ready : goal.run-requires-clause-ready
run-requires-clause-ready g c = record {
  bound = c.requires.ready.bound;
  size_is = c.in_ok-begin.ensures.cells ∙ c.requires.ready.size_is;
  in_range = c.requires.ready.in_range;
}

pub run-requires-clause-way : goal.run-requires-clause-way
run-requires-clause-way g c = λ a x agrees.
    subst (λ (n : ℕ). IsUnderWay c.args.task.now.grid.now c.args.task.now.request c.args.task.now.horizon a c.begin.new.arena.states.items n x) (sym c.in_ok-begin.ensures.floor) (c.in_ok-begin.ensures.way a x agrees)

pub returns-clause-loads : goal.returns-clause-loads
returns-clause-loads g c =
    loads_all c.args.task.now.grid.now c.args.task.now.request c.run.new.arena.states.items (g.V.CalendarView.known c.args.view.now) (g.V.CalendarView.known c.begin.new.view)
    (g.V.CalendarView.known c.run.new.view) c.in_ok-begin.ensures.loads c.in_ok-found.ensures.loads
