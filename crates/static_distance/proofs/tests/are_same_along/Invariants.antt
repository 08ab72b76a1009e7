use Rattle.std.proofs.Common.{◌≡◌, ◌<◌, length}
use Rattle.static_distance.specs.Distance.{IsDistance}
use Rattle.static_distance.specs.Levels.{IsPlaceOf}
use Rattle.static_distance.specs.Aim.{room, IsAimed}
use Rattle.static_distance.proofs.tests.are_same_along.Given as goal

abbrev pub invariant-loop-side : goal.invariant-loop-side
invariant-loop-side l = record {
  near : IsAimed l.grid l.near;
  alone : IsAimed l.grid l.alone;
  near_room : room l.near ≡ room l.initial.near;
  alone_room : room l.alone ≡ room l.initial.alone;
  inside : l.cell.0 < length l.grid.cells;
  place : IsPlaceOf l.grid l.cell l.place;
  distance : IsDistance l.grid l.near.goal l.cell l.left;
}
