use Rattle.std.proofs.Common.{◌≡◌}
use Rattle.static_distance.specs.Aim.{room, IsAimed}
use Rattle.worked_rows.proofs.distances.agrees.Given as goal

abbrev pub invariant-loop-number : goal.invariant-loop-number
invariant-loop-number l = record { aimed : IsAimed l.grid l.distances; room : room l.distances ≡ room l.fn.distances }
