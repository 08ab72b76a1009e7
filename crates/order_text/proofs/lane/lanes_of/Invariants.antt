use Rattle.std.proofs.Common.{◌≡◌, take}
use Rattle.order_text.specs.Lanes.{request_lanes}
use Rattle.order_text.proofs.lane.lanes_of.Given as goal

abbrev pub invariant-loop-number : goal.invariant-loop-number
invariant-loop-number l = l.lanes.items ≡ request_lanes 0 (take l.number l.requests)
