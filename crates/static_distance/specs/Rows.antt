-- What waits more after a step of the flood, and where the cells of a word lead in their row: within their span, and out of it.
use Rattle.std.specs.Prelude.{ℕ, ◌⊎◌, Bool, true, false}
use Rattle.fleet_base.specs.declared.grid.Cell.{Cell}
use Rattle.fleet_base.specs.declared.grid.Side.{Side}
use Rattle.fleet_base.specs.declared.grid.Side.TheVariants.{Left, Right}
use Rattle.fleet_base.specs.Terrain.{Terrain}
use Rattle.static_distance.specs.declared.span.Span.{Span}
use Rattle.static_distance.specs.declared.distances.Distances.{Distances}
use Rattle.static_distance.specs.Spans.{IsCellAt, Stands, KeepsWaiting, IsLed}

-- The cells of `more` wait now beside those that did: those of `more true` on this level, and those of `more false` on the one after the next.
pub record HasMore (g : Terrain) (more : Bool → Cell → Type 0) (old new : Distances) : Type 0 where
  pub kept : KeepsWaiting g old new
  pub here_only : (n : Cell) → Stands g new.known new.here.words.items n → Stands g old.known old.here.words.items n ⊎ more true n
  pub next_only : (n : Cell) → Stands g new.known new.next.words.items n → Stands g old.known old.next.words.items n ⊎ more false n
  pub here_more : (n : Cell) → more true n → Stands g new.known new.here.words.items n
  pub next_more : (n : Cell) → more false n → Stands g new.known new.next.words.items n

-- the cell is one of the span
abbrev pub IsIn : Terrain → Span → Cell → Type 0
IsIn g s n = (i : ℕ) × IsCellAt g s i n

-- n is free, and to the left or to the right of a cell that the word has in the span
abbrev pub IsLedInRow : Terrain → Span → ℕ → Distances → Bool → Cell → Type 0
IsLedInRow g s word d closer n = IsLed g Left s word d closer n ⊎ IsLed g Right s word d closer n

-- the same where n is in the span, too
abbrev pub IsLedWithin : Terrain → Span → ℕ → Distances → Bool → Cell → Type 0
IsLedWithin g s word d closer n = IsIn g s n × IsLedInRow g s word d closer n

-- n is free, on that side of a cell that the word has in the span, and in another span
abbrev pub IsLedOut : Terrain → Side → Span → ℕ → Distances → Bool → Cell → Type 0
IsLedOut g side s word d closer n = IsLed g side s word d closer n × ¬ (IsIn g s n)
