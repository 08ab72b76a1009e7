-- Distances that are asked for one by one.
use Rattle.std.specs.Prelude.{◌≡◌, ℕ, ◌+◌, ◌*◌, ◌<◌, ◌≤◌, Bool, true, false, List, [], Option, Some, None, length, slice_get}
use Rattle.fleet_base.specs.declared.grid.Cell.{Cell}
use Rattle.fleet_base.specs.Terrain.{Terrain}
use Rattle.static_distance.specs.declared.distances.Distances.{Distances}
use Rattle.static_distance.specs.declared.span.Span.{Span}
use Rattle.static_distance.specs.Distance.{IsWay, IsDistance}
use Rattle.static_distance.specs.Levels.{uncounted}
use Rattle.static_distance.specs.Marks.{marks_of}
use Rattle.static_distance.specs.Spreading.{IsFlood}
use Rattle.static_distance.specs.Spans.{AreSpans, KeepsWaiting, Stands, flood_of}

-- how many cells the grids have on which moves are counted: where they are few, the list has that many
abbrev pub room_of : Bool → List ℕ → ℕ → ℕ
room_of true listed cells = length listed
room_of false listed cells = cells

abbrev pub room : Distances → ℕ
room d = room_of d.few d.by_cell d.cells

-- how many spans have cells that wait
abbrev pub waiting : Distances → ℕ
waiting d = length d.here.spans.items + length d.next.spans.items

-- a bound of what is left to do
abbrev pub work : Terrain → Distances → ℕ
work g d = 6 * uncounted (marks_of g d) + waiting d

-- all but what is counted stays the same
pub record KeepsAim (old new : Distances) : Type 0 where
  pub goal : new.goal ≡ old.goal
  pub toward : new.toward ≡ old.toward
  pub room : room new ≡ room old

-- there is a word for so many spans, and a layer where there are many cells
pub record AreFitting (count : ℕ) (d : Distances) : Type 0 where
  pub known : length d.known ≡ count
  pub free : length d.free.items ≡ count
  pub here : length d.here.words.items ≡ count
  pub next : length d.next.words.items ≡ count
  pub layers : d.few ≡ false → length d.layers.newest.items ≡ count

-- the moves to the goal are counted on that grid
pub record IsAimed (g : Terrain) (d : Distances) : Type 0 where
  pub near : (d.toward.column < 2048) × (d.toward.row < 2048)
  pub bounded : d.level + 2 * work g d ≤ 16777216
  pub spans : AreSpans g d
  pub flood : IsFlood g (flood_of g d)

-- the static distance of c, or none where no way leads from it to the goal
abbrev pub AnswersDistance : Terrain → Cell → Cell → Option ℕ → Type 0
AnswersDistance g goal c (Some d) = IsDistance g goal c d
AnswersDistance g goal c None = (k : ℕ) → ¬ (IsWay g goal c k)

-- a way of so many moves or fewer leads from c to the goal
abbrev pub IsWithin : Terrain → Cell → Cell → ℕ → Type 0
IsWithin g goal c moves = (k : ℕ) × IsWay g goal c k × (k ≤ moves)

-- the span was looked at, and no other cells wait than before
pub record HasLooked (g : Terrain) (span : Span) (old new : Distances) : Type 0 where
  pub spans : AreSpans g new
  pub known : slice_get new.known span.number ≡ Some 1
  pub kept : KeepsWaiting g old new
  pub here_only : (c : Cell) → Stands g new.known new.here.words.items c → Stands g old.known old.here.words.items c
  pub next_only : (c : Cell) → Stands g new.known new.next.words.items c → Stands g old.known old.next.words.items c
  pub here_spans : new.here.spans ≡ old.here.spans
  pub next_spans : new.next.spans ≡ old.next.spans

-- nothing waited, and the level stayed
pub record HasNoMore (old new : Distances) : Type 0 where
  pub level : new.level ≡ old.level
  pub here : old.here.spans.items ≡ []
  pub next : old.next.spans.items ≡ []
