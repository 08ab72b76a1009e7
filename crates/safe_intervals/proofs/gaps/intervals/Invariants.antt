use Rattle.std.proofs.Common.{◌+◌, ◌-◌}
use Rattle.safe_intervals.proofs.ListLemmas.{AreSafeUntil}
use Rattle.safe_intervals.proofs.gaps.intervals.Given as goal

abbrev pub invariant-loop-gap : goal.invariant-loop-gap
invariant-loop-gap l = AreSafeUntil l.calendar l.horizon l.list.items l.from

abbrev pub decreases-loop-gap : goal.decreases-loop-gap
decreases-loop-gap l = l.horizon + 1 - l.from
