-- The flood by spans: 64 cells of a row side by side, a bit for each.
use Rattle.std.specs.Prelude.{◌≡◌, ◌≢◌, ℕ, ◌+◌, ◌*◌, ◌<◌, ◌≤◌, ◌⊎◌, Bool, true, false, List, Some, length, slice_get}
use Rattle.fleet_base.specs.declared.grid.Cell.{Cell}
use Rattle.fleet_base.specs.declared.grid.Side.{Side}
use Rattle.fleet_base.specs.Terrain.{Terrain, IsOpen, IsAt, IsBeside}
use Rattle.row_words.specs.Words.{IsSet}
use Rattle.static_distance.specs.declared.span.Span.{Span}
use Rattle.static_distance.specs.declared.place.Place.{Place}
use Rattle.static_distance.specs.declared.layers.Layers.{Layers}
use Rattle.static_distance.specs.declared.distances.Distances.{Distances}
use Rattle.static_distance.specs.Levels.{IsCounted, apart, uncounted}
use Rattle.static_distance.specs.Layers.{AreFalling, IsLinked}
use Rattle.static_distance.specs.Marks.{stride, marks_of}
use Rattle.static_distance.specs.Spreading.{Flood}
use Rattle.static_distance.specs.Waiting.{IsListed}

-- a span of the grid: its column is the one of its first cell, and spans are numbered row by row
pub record IsSpan (g : Terrain) (s : Span) : Type 0 where
  pub row_in : s.row < g.height
  pub column_in : s.column < g.width
  pub part : ℕ
  pub column_is : s.column ≡ 64 * part
  pub number_is : s.number ≡ s.row * stride g + part

-- the cell is the one at that place of the span
abbrev pub IsCellAt : Terrain → Span → ℕ → Cell → Type 0
IsCellAt g s i c = (i < 64) × IsAt g c (s.column + i) s.row

-- the word has the cell, where it stands for the span
abbrev pub Holds : Terrain → Span → ℕ → Cell → Type 0
Holds g s word c = (i : ℕ) × IsSet word i × IsCellAt g s i c

-- the cell's span was looked at, and its word has the cell
pub record Stands (g : Terrain) (known words : List ℕ) (c : Cell) : Type 0 where
  pub span : Span
  pub is : IsSpan g span
  pub known_is : slice_get known span.number ≡ Some 1
  pub word : ℕ
  pub at : slice_get words span.number ≡ Some word
  pub holds : Holds g span word c

-- Each list has spans that were looked at, among them all whose word has a cell.
pub record AreListed (g : Terrain) (known words : List ℕ) (spans : List Span) : Type 0 where
  pub spans_are : (j : ℕ) (s : Span) → slice_get spans j ≡ Some s → IsSpan g s × (slice_get known s.number ≡ Some 1)
  pub listed : (n w : ℕ) → slice_get known n ≡ Some 1 → slice_get words n ≡ Some w → w ≢ 0 → IsListed spans n

-- the cell is open and not counted
abbrev pub IsFree : Terrain → List ℕ → Cell → Type 0
IsFree g marks c = IsOpen g c × (slice_get marks c.0 ≡ Some 0)

-- There is a newest layer for each span, those of spans that were looked at lead to older ones that there are, and there are no more of these than
-- cells that are counted.
pub record AreLayers (g : Terrain) (known : List ℕ) (layers : Layers) (marks : List ℕ) : Type 0 where
  pub fit : length layers.newest.items ≡ g.height * stride g
  pub falling : AreFalling layers.older.items
  pub linked : (n : ℕ) → slice_get known n ≡ Some 1 → IsLinked layers n
  pub few : length layers.older.items + uncounted marks ≤ length g.cells

-- There is a word for each span. The free cells of a span that was looked at are those of its word, and no cell of another one is counted. Where there
-- are many cells there are layers.
pub record AreSpans (g : Terrain) (d : Distances) : Type 0 where
  pub marks_fit : length (marks_of g d) ≡ length g.cells
  pub known_fit : length d.known ≡ g.height * stride g
  pub free_fit : length d.free.items ≡ g.height * stride g
  pub here_fit : length d.here.words.items ≡ g.height * stride g
  pub next_fit : length d.next.words.items ≡ g.height * stride g
  pub free_only : (s : Span) (w i : ℕ) → IsSpan g s → slice_get d.known s.number ≡ Some 1 → slice_get d.free.items s.number ≡ Some w → IsSet w i → i < 64
      → (c : Cell) × IsCellAt g s i c × IsFree g (marks_of g d) c
  pub free_all : (s : Span) (w i : ℕ) (c : Cell) → IsSpan g s → slice_get d.known s.number ≡ Some 1 → slice_get d.free.items s.number ≡ Some w → IsCellAt g s i c → IsFree g (marks_of g d) c → IsSet w i
  pub looked : (s : Span) (i k : ℕ) (c : Cell) → IsSpan g s → IsCellAt g s i c → IsCounted (marks_of g d) c k → slice_get d.known s.number ≡ Some 1
  pub layered : d.few ≡ false → AreLayers g d.known d.layers (marks_of g d)
  pub here_listed : AreListed g d.known d.here.words.items d.here.spans.items
  pub next_listed : AreListed g d.known d.next.words.items d.next.spans.items

-- the flood of what is counted and waits
abbrev pub flood_of : Terrain → Distances → Flood
flood_of g d = record {
  goal = d.goal;
  toward = d.toward;
  level = d.level;
  marks = marks_of g d;
  here = λ c. Stands g d.known d.here.words.items c;
  next = λ c. Stands g d.known d.next.words.items c;
}

-- the same where cells of a span wait on this level that were taken out
abbrev pub flood_with : Terrain → Distances → Span → ℕ → Flood
flood_with g d s word = record {
  goal = d.goal;
  toward = d.toward;
  level = d.level;
  marks = marks_of g d;
  here = λ c. Stands g d.known d.here.words.items c ⊎ Holds g s word c;
  next = λ c. Stands g d.known d.next.words.items c;
}

-- what is counted and the aim stay, and nothing that waits is lost
pub record KeepsWaiting (g : Terrain) (old new : Distances) : Type 0 where
  pub goal : new.goal ≡ old.goal
  pub toward : new.toward ≡ old.toward
  pub level : new.level ≡ old.level
  pub marks : marks_of g new ≡ marks_of g old
  pub here : (c : Cell) → Stands g old.known old.here.words.items c → Stands g new.known new.here.words.items c
  pub next : (c : Cell) → Stands g old.known old.next.words.items c → Stands g new.known new.next.words.items c

-- of the cells that the word has in the span those that are free wait now: on this level where that is said, else on the one after the next
pub record HasEntered (g : Terrain) (s : Span) (word : ℕ) (closer : Bool) (old new : Distances) : Type 0 where
  pub kept : KeepsWaiting g old new
  pub here_only : (c : Cell) → Stands g new.known new.here.words.items c → Stands g old.known old.here.words.items c ⊎ ((closer ≡ true) × Holds g s word c × IsFree g (marks_of g old) c)
  pub next_only : (c : Cell) → Stands g new.known new.next.words.items c → Stands g old.known old.next.words.items c ⊎ ((closer ≡ false) × Holds g s word c × IsFree g (marks_of g old) c)
  pub entered : (c : Cell) → Holds g s word c → IsFree g (marks_of g old) c
      → ((closer ≡ true) × Stands g new.known new.here.words.items c) ⊎ ((closer ≡ false) × Stands g new.known new.next.words.items c)

-- a step from c to n leads closer to the place that is aimed at by one, or else farther away
abbrev pub IsStep : Terrain → Place → Bool → Cell → Cell → Type 0
IsStep g toward true c n = apart g toward n + 1 ≡ apart g toward c
IsStep g toward false c n = apart g toward n ≡ apart g toward c + 1

-- n is free, and on that side of a cell that the word has in the span
pub record IsLed (g : Terrain) (side : Side) (s : Span) (word : ℕ) (d : Distances) (closer : Bool) (n : Cell) : Type 0 where
  pub from : Cell
  pub held : Holds g s word from
  pub beside : IsBeside g side from n
  pub free : IsFree g (marks_of g d) n
  pub step : IsStep g d.toward closer from n

-- The free cells on that side of those that the word has in the span wait now, and no others do that did not before.
pub record HasSpreadTo (g : Terrain) (side : Side) (s : Span) (word : ℕ) (old new : Distances) : Type 0 where
  pub kept : KeepsWaiting g old new
  pub here_only : (n : Cell) → Stands g new.known new.here.words.items n → Stands g old.known old.here.words.items n ⊎ IsLed g side s word old true n
  pub next_only : (n : Cell) → Stands g new.known new.next.words.items n → Stands g old.known old.next.words.items n ⊎ IsLed g side s word old false n
  pub led : (c n : Cell) → Holds g s word c → IsBeside g side c n → IsFree g (marks_of g old) n
      → (Stands g new.known new.here.words.items n × IsStep g old.toward true c n) ⊎ (Stands g new.known new.next.words.items n × IsStep g old.toward false c n)

-- no free cell of the span lies on that side of one of the word that is farther from the place that is aimed at
abbrev pub IsShut : Terrain → Side → Span → ℕ → Distances → Type 0
IsShut g side s word d = (c n : Cell) → Holds g s word c → IsBeside g side c n → IsFree g (marks_of g d) n → IsStep g d.toward true c n → (i : ℕ) → IsCellAt g s i n → ⊥

-- the cells that the word has in the span are counted, with the moves that the level says, and no others
pub record HasCounted (g : Terrain) (s : Span) (word : ℕ) (old new : Distances) : Type 0 where
  pub counted : (c : Cell) (k : ℕ) → Holds g s word c → k + apart g old.toward c ≡ old.level → IsCounted (marks_of g new) c k
  pub still : (c : Cell) (k : ℕ) → IsCounted (marks_of g old) c k → IsCounted (marks_of g new) c k
  pub only : (c : Cell) (k : ℕ) → IsCounted (marks_of g new) c k → (Holds g s word c × (k + apart g old.toward c ≡ old.level)) ⊎ IsCounted (marks_of g old) c k
  pub goal : new.goal ≡ old.goal
  pub toward : new.toward ≡ old.toward
  pub level : new.level ≡ old.level
  pub known : new.known ≡ old.known
  pub here : new.here ≡ old.here
  pub next : new.next ≡ old.next
