use Rattle.std.proofs.Common.{◌≡◌}
use Rattle.static_distance.specs.Aim.{room, work, IsAimed}
use Rattle.static_distance.proofs.distances.Distances.count_beside.Given as goal

abbrev pub invariant-loop-cell : goal.invariant-loop-cell
invariant-loop-cell l = record {
  aimed : IsAimed l.grid l.self;
  goal : l.self.goal ≡ l.initial.self.goal;
  toward : l.self.toward ≡ l.initial.self.toward;
  room : room l.self ≡ room l.initial.self;
}

abbrev pub decreases-loop-cell : goal.decreases-loop-cell
decreases-loop-cell l = work l.grid l.self
