use Rattle.std.proofs.Common.{◌<◌, ap, sym, refl, subst, length}
use Rattle.std.specs.Prelude.{slice_index_or}
use Rattle.fleet_base.specs.Terrain.{Terrain}
use Rattle.tail_run.proofs.LaneSteps.{at_first, number_within, may, next, order_there}
use Rattle.tail_run.proofs.lane.finish_lane.Goals as goal

pub loop-place-init : goal.loop-place-init
loop-place-init c = record {
  so_far = λ xs start. at_first c.args.caller c.args.lane.now xs c.args.from c.args.tail.now start;
  lane_same = refl;
  caller_same = refl;
  end_is = ap length c.as_slice-orders.ensures;
}

pub answer_order-requires-clause-may : goal.answer_order-requires-clause-may
answer_order-requires-clause-may c =
    let was = c.loop-place.invariant.so_far c.requires.start.0 c.requires.start.1 in
    may (length c.args.tail.now.book.grid.cells) c.args.caller c.args.lane.now c.requires.lane.0 c.requires.start.0 c.args.tail.now c.loop-place.place c.loop-place.tail c.requires.lane.1 was
    (slice_index_or c.as_slice-orders.result.now c.loop-place.place _) (order_there _ _ c.loop-place.place _ c.as_slice-orders.ensures c.loop-place-test.true)
    (ap (λ (g : Terrain). length g.cells) (sym was.goes.same.grid))

pub answer_order-requires-clause-within : goal.answer_order-requires-clause-within
answer_order-requires-clause-within c =
    let was = c.loop-place.invariant.so_far c.requires.start.0 c.requires.start.1 in
    number_within (length c.args.tail.now.book.grid.cells) c.args.caller c.args.lane.now c.requires.lane.0 c.requires.start.0 c.args.tail.now c.loop-place.place c.loop-place.tail c.requires.lane.1 was
    (subst (λ n. c.loop-place.place < n) (ap length c.as_slice-orders.ensures) c.loop-place-test.true)

pub loop-place-preserved : goal.loop-place-preserved
loop-place-preserved c = record {
  so_far = λ xs start.
      next (length c.args.tail.now.book.grid.cells) c.args.caller c.args.lane.now c.requires.lane.0 xs c.args.tail.now c.loop-place.place c.loop-place.tail c.requires.lane.1 (c.loop-place.invariant.so_far xs start)
      (slice_index_or c.as_slice-orders.result.now c.loop-place.place _) (order_there _ _ c.loop-place.place _ c.as_slice-orders.ensures c.loop-place-test.true) c.answer_order.new.tail c.in_ok-answer_order.ensures;
  lane_same = refl;
  caller_same = refl;
  end_is = ap length c.as_slice-orders.ensures;
}
