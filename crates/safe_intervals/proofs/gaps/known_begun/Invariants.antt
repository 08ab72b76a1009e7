use Rattle.std.proofs.Common.{◌≤◌, length}
use Rattle.safe_intervals.proofs.gaps.known_begun.Given as goal

abbrev pub invariant-loop-place : goal.invariant-loop-place
invariant-loop-place l = l.place ≤ length l.records

abbrev pub decreases-loop-place : goal.decreases-loop-place
decreases-loop-place l = l.place
