use Rattle.std.proofs.Common.{◌≤◌, length}
use Rattle.static_distance.proofs.waiting.under_farther.Given as goal

abbrev pub invariant-loop-place : goal.invariant-loop-place
invariant-loop-place l = l.place ≤ length l.spans

abbrev pub decreases-loop-place : goal.decreases-loop-place
decreases-loop-place l = l.place
