use Rattle.std.proofs.Common.{◌≡◌}
use Rattle.static_distance.specs.Aim.{room, work, IsAimed}
use Rattle.static_distance.proofs.distances.Distances.count_to.Given as goal

abbrev pub invariant-loop-self : goal.invariant-loop-self
invariant-loop-self l = record {
  aimed : IsAimed l.grid l.self;
  goal : l.self.goal ≡ l.initial.self.goal;
  room : room l.self ≡ room l.initial.self;
}

abbrev pub decreases-loop-self : goal.decreases-loop-self
decreases-loop-self l = work l.grid l.self
