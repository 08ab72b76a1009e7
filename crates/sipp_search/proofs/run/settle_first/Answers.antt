use Rattle.std.proofs.Common.{subst, sym, ℕ}
use Rattle.sipp_search.specs.Progress.{IsUnderWay}
use Rattle.sipp_search.specs.Running.{IsSound}
use Rattle.sipp_search.proofs.run.settle_first.Goals as goal

pub begin-requires-clause-sound : goal.begin-requires-clause-sound
begin-requires-clause-sound g c =
    let known = g.V.CalendarView.known c.args.view.now in
    subst (λ (n : ℕ). IsSound c.args.task.now.grid.now c.args.task.now.request c.args.task.now.horizon known n c.prepare.new.arena) (sym c.requires.ready.size_is) (c.in_ok-prepare.ensures.sound known)

pub run_first-requires-clause-way : goal.run_first-requires-clause-way
run_first-requires-clause-way g c = λ a x agrees.
    subst (λ (n : ℕ). IsUnderWay c.args.task.now.grid.now c.args.task.now.request c.args.task.now.horizon a c.begin.new.arena.states.items n x) (sym c.in_ok-begin.ensures.floor) (c.in_ok-begin.ensures.way a x agrees)
