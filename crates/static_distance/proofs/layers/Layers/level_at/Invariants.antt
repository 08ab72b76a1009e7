use Rattle.std.proofs.Common.{◌≡◌, ◌≤◌, length}
use Rattle.static_distance.specs.Layers.{told, told_from}
use Rattle.static_distance.proofs.layers.Layers.level_at.Given as goal

abbrev pub invariant-loop-layer : goal.invariant-loop-layer
invariant-loop-layer l = record {
  linked : l.layer.older ≤ length l.self.older.items;
  same : told_from l.self.older.items l.layer l.place ≡ told l.self l.number l.place;
}

abbrev pub decreases-loop-layer : goal.decreases-loop-layer
decreases-loop-layer l = l.layer.older
