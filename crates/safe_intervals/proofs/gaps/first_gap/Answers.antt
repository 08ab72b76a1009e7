use Rattle.safe_intervals.proofs.GapLemmas.{gap_at}
use Rattle.safe_intervals.proofs.gaps.first_gap.Goals as goal

pub returns-then-begin-next : goal.returns-then-begin-next
returns-then-begin-next c =
    gap_at c.args.records.now c.args.low c.loop-next.begin c.args.horizon c.loop-next.next-index c.min-end.result _ c.loop-next-test.true c.loop-next.invariant
    c.if-begin-next.true c.min-end.ensures
