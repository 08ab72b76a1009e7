use Rattle.std.proofs.Common.{◌≡◌}
use Rattle.static_distance.specs.Aim.{room}
use Rattle.worked_rows.proofs.distances.floor_agrees.Given as goal

abbrev pub invariant-loop-request : goal.invariant-loop-request
invariant-loop-request l = room l.distances ≡ room l.initial.distances
