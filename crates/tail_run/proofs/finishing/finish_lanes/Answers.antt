use Rattle.std.proofs.Common.{rules, refl}
use Rattle.tail_run.proofs.LanesLemmas.{at_end, lane_there, lane_may, lane_few, lane_start, lane_more}
use Rattle.tail_run.proofs.finishing.finish_lanes.Goals as goal

pub bounds-lanes-one : goal.bounds-lanes-one
bounds-lanes-one c =
    lane_there c.args.caller c.args.lanes.now c.args.left.now c.args.tail c.loop-one.tail c.loop-one.one-index c.loop-one.invariant.so_far record { lane = 0; from = 0 } c.loop-one-test.true
    c.requires.lanes c.requires.going

pub finish_lane-requires-clause-lane : goal.finish_lane-requires-clause-lane
finish_lane-requires-clause-lane c =
    lane_may c.args.caller c.args.lanes.now c.args.left.now c.args.tail c.loop-one.tail c.loop-one.one-index c.loop-one.invariant.so_far record { lane = 0; from = 0 } c.loop-one-test.true
    c.requires.lanes c.requires.going c.index-lanes-one.result _ c.index-lanes-one.is

pub finish_lane-requires-clause-few : goal.finish_lane-requires-clause-few
finish_lane-requires-clause-few c =
    lane_few c.args.caller c.args.lanes.now c.args.left.now c.args.tail c.loop-one.tail c.loop-one.one-index c.loop-one.invariant.so_far record { lane = 0; from = 0 } c.loop-one-test.true
    c.requires.lanes c.requires.going c.index-lanes-one.result _ c.index-lanes-one.is

pub finish_lane-requires-clause-start : goal.finish_lane-requires-clause-start
finish_lane-requires-clause-start c =
    lane_start c.args.caller c.args.lanes.now c.args.left.now c.args.tail c.loop-one.tail c.loop-one.one-index c.loop-one.invariant.so_far record { lane = 0; from = 0 } c.loop-one-test.true
    c.requires.lanes c.requires.going c.index-lanes-one.result _ c.index-lanes-one.is

pub loop-one-preserved : goal.loop-one-preserved
loop-one-preserved c = record {
  so_far = lane_more c.args.caller c.args.lanes.now c.args.left.now c.args.tail c.loop-one.tail c.loop-one.one-index c.loop-one.invariant.so_far record { lane = 0; from = 0 } c.loop-one-test.true
      c.requires.lanes c.index-lanes-one.result _ c.index-lanes-one.is c.finish_lane.new.tail c.in_ok-finish_lane.ensures;
  left_same = refl;
  lanes_same = refl;
  caller_same = refl;
}

pub returns : goal.returns
returns c = at_end c.args.caller c.args.lanes.now c.args.left.now c.args.tail c.loop-one.tail c.loop-one.one-index c.loop-one.invariant.so_far (search rules)
