use Rattle.std.proofs.Common.{refl, sym, subst, length, arith}
use Rattle.std.proofs.lemmas.Result.{err_from_is_err_and}
use Rattle.order_text.specs.OrderGrammar.{orders_of}
use Rattle.order_text.specs.Marks.{lanes_so_far, AreLanesSoFar}
use Rattle.order_text.proofs.LaneLemmas.{goes_on, failed, is_done, ended}
use Rattle.order_text.proofs.RightLanes.{no_lanes_yet, finished}
use Rattle.order_text.proofs.reading.read_orders.Goals as goal

pub loop-found-init : goal.loop-found-init
unfolding orders_of
loop-found-init c = record {
  lines = rw c.new-builder.ensures.lanes refl;
  building = c.new-builder.ensures.building;
  right = subst (AreLanesSoFar (length c.args.grid.now.cells)) (sym c.new-builder.ensures.lanes) (no_lanes_yet (length c.args.grid.now.cells));
  read = omega arith;
}

pub returns-in_err-take_line-clause-grammar : goal.returns-in_err-take_line-clause-grammar
returns-in_err-take_line-clause-grammar c =
    let p = err_from_is_err_and c.from_residual.result c.from_residual.ensures.1 in
    rw (p.1, p.2) (failed c.args.grid.now (lanes_so_far c.loop-found.builder) _ _ _ c.in_err-take_line.field-0.0 _ c.in-Some.ensures.line c.in_err-take_line.ensures.lanes c.loop-found.invariant.lines)

pub loop-found-preserved : goal.loop-found-preserved
loop-found-preserved c = record {
  lines = goes_on c.args.grid.now (lanes_so_far c.loop-found.builder) _ _ _ _ _ c.in-Some.ensures.line c.in_ok-take_line.ensures.lanes c.loop-found.invariant.lines;
  building = c.in_ok-take_line.ensures.building;
  right = c.in_ok-take_line.ensures.right c.loop-found.invariant.right;
  read = omega (arith, c.in-Some.ensures.room);
}

pub returns-clause-grammar : goal.returns-clause-grammar
returns-clause-grammar c =
    ended c.finish.result (lanes_so_far c.loop-found.builder) _ c.finish.ensures.memory c.finish.ensures.lanes (is_done c.args.grid.now _ _ _ c.in_default.ensures.line c.loop-found.invariant.lines)

pub returns-clause-lanes : goal.returns-clause-lanes
returns-clause-lanes c =
    finished (length c.args.grid.now.cells) (lanes_so_far c.loop-found.builder) c.finish.result c.finish.ensures.lanes c.loop-found.invariant.right
