use Rattle.std.proofs.Common.{drop}
use Rattle.safe_intervals.proofs.GapLemmas.{IsLooking}
use Rattle.safe_intervals.proofs.gaps.first_gap.Given as goal

abbrev pub invariant-loop-next : goal.invariant-loop-next
invariant-loop-next l = IsLooking l.records (drop l.next-index l.records) l.low l.begin l.horizon
