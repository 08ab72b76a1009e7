use Rattle.std.proofs.Common.{sym, ◌∙◌}
use Rattle.order_text.proofs.LaneLemmas.{one_lane_more}
use Rattle.order_text.proofs.lane.lanes_of.Goals as goal

pub loop-number-preserved : goal.loop-number-preserved
loop-number-preserved c =
    c.in_ok-push.ensures.items ∙ rw (c.new.ensures, c.in_ok-vec.ensures.items, c.loop-number.invariant) (sym (one_lane_more c.args.requests.now c.loop-number.number _ c.loop-number-test.true))
