use Rattle.std.proofs.Common.{◌≡◌, drop}
use Rattle.tail_run.specs.Tails.{ComesTo}
use Rattle.tail_run.proofs.finishing.finish_lanes.Given as goal

abbrev pub invariant-loop-one : goal.invariant-loop-one
invariant-loop-one l = record {
  so_far : ComesTo l.fn.caller l.fn.lanes l.fn.left l.fn.tail (drop l.one-index l.fn.left) l.tail;
  left_same : l.left ≡ l.fn.left;
  lanes_same : l.lanes ≡ l.fn.lanes;
  caller_same : l.caller ≡ l.fn.caller;
}
