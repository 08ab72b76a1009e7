use Rattle.std.proofs.Common.{arith, subst, sym}
use Rattle.fleet_base.specs.declared.grid.Cell.{Cell}
use Rattle.static_distance.specs.Distance.{IsWay}
use Rattle.sipp_search.proofs.Paused.{on_not, way_from_start}
use Rattle.sipp_search.proofs.ties.is_too_far.Goals as goal

pub returns-in_default-clause-far : goal.returns-in_default-clause-far
returns-in_default-clause-far c = λ a reached.
    (let way = way_from_start c.args.task.now.grid.now c.args.task.now.request a reached in
    omega (arith, way.2, c.in_default.ensures))

pub returns-clause-far : goal.returns-clause-far
returns-clause-far c =
    on_not c.in_ok-near.near _ (λ far a reached.
    (let way = way_from_start c.args.task.now.grid.now c.args.task.now.request a reached in
    far (c.in_ok-near.ensures.within.1 (way.0, subst (λ (z : Cell). IsWay c.args.task.now.grid.now z c.args.cell way.0) (sym c.requires.ties.1.start_is) way.1, omega (arith, way.2, c.in-Some.ensures)))))
