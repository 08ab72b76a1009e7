use Rattle.safe_intervals.proofs.ListLemmas.{one_more}
use Rattle.safe_intervals.proofs.gaps.intervals.Goals as goal

pub loop-gap-preserved : goal.loop-gap-preserved
loop-gap-preserved c = rw c.in_ok-push.ensures.items (one_more _ _ _ _ c.loop-gap.invariant c.in-Some.gap c.in-Some.ensures)
