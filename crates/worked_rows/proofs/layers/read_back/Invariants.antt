use Rattle.std.proofs.Common.{◌≤◌}
use Rattle.worked_rows.proofs.layers.read_back.Given as goal

abbrev pub invariant-loop-from : goal.invariant-loop-from
invariant-loop-from l = l.at.time ≤ 8000

abbrev pub decreases-loop-from : goal.decreases-loop-from
decreases-loop-from l = l.at.time
