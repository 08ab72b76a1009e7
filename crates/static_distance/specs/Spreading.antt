-- Counting moves to a goal level by level, a whole set of cells in one step. The levels are those of Levels; the cells that wait are
-- sets, given as predicates.
use Rattle.std.specs.Prelude.{◌≡◌, ℕ, ◌+◌, ◌≤◌, ◌⊎◌, List}
use Rattle.fleet_base.specs.declared.grid.Cell.{Cell}
use Rattle.fleet_base.specs.declared.grid.Side.{Side}
use Rattle.fleet_base.specs.Terrain.{Terrain, IsOpen, IsBeside}
use Rattle.static_distance.specs.declared.place.Place.{Place}
use Rattle.static_distance.specs.Distance.{IsWay}
use Rattle.static_distance.specs.Levels.{apart, IsCounted}

-- what is counted: `marks` has 1 plus the moves of a cell, or 0; `here` has cells that wait on this level, `next` those of the one after the next
pub record Flood : Type 1 where
  pub goal : Cell
  pub toward : Place
  pub level : ℕ
  pub marks : List ℕ
  pub here : Cell → Type 0
  pub next : Cell → Type 0

-- the cell waits to be counted, with k moves
abbrev pub IsWaiting : Terrain → Flood → Cell → ℕ → Type 0
IsWaiting g f c k = (f.here c × (k + apart g f.toward c ≡ f.level)) ⊎ (f.next c × (k + apart g f.toward c ≡ f.level + 2))

-- the cell was counted or waits, with j moves at most
abbrev pub IsKnown : Terrain → Flood → Cell → ℕ → Type 0
IsKnown g f c j = (k : ℕ) × (k ≤ j) × (IsCounted f.marks c k ⊎ IsWaiting g f c k)

-- the cell on that side of c is known with one move more
abbrev pub HasLed : Terrain → Flood → Cell → ℕ → Side → Type 0
HasLed g f c k side = (n : Cell) → IsBeside g side c n → IsOpen g n → IsKnown g f n (k + 1)

-- a way leads from the cell to the goal, and its moves are those that the level says
abbrev pub WaitsWell : Terrain → Flood → ℕ → Cell → Type 0
WaitsWell g f level c = (k : ℕ) × (k + apart g f.toward c ≡ level) × IsWay g f.goal c k

-- What is counted is a way's moves, and from each counted cell all cells beside it are known.
pub record IsFlood (g : Terrain) (f : Flood) : Type 0 where
  pub sound : (c : Cell) (k : ℕ) → IsCounted f.marks c k → IsWay g f.goal c k
  pub low : (c : Cell) (k : ℕ) → IsCounted f.marks c k → k + apart g f.toward c ≤ f.level
  pub here_well : (c : Cell) → f.here c → WaitsWell g f f.level c
  pub next_well : (c : Cell) → f.next c → WaitsWell g f (f.level + 2) c
  pub begun : IsOpen g f.goal → IsKnown g f f.goal 0
  pub led : (c : Cell) (k : ℕ) → IsCounted f.marks c k → (side : Side) → HasLed g f c k side

-- the cell was counted
abbrev pub HasCount : List ℕ → Cell → Type 0
HasCount marks c = (k : ℕ) × IsCounted marks c k

-- the cells of `batch` are counted now, and the cells beside them are counted or wait
pub record HasSpread (g : Terrain) (batch : Cell → Type 0) (old new : Flood) : Type 0 where
  pub goal : new.goal ≡ old.goal
  pub toward : new.toward ≡ old.toward
  pub level : new.level ≡ old.level
  pub batch_well : (c : Cell) → batch c → WaitsWell g old old.level c
  pub counted : (c : Cell) → batch c → (k : ℕ) → k + apart g old.toward c ≡ old.level → IsCounted new.marks c k
  pub still : (c : Cell) (k : ℕ) → IsCounted old.marks c k → IsCounted new.marks c k
  pub only : (c : Cell) (k : ℕ) → IsCounted new.marks c k → (batch c × (k + apart g old.toward c ≡ old.level)) ⊎ IsCounted old.marks c k
  pub here_well : (c : Cell) → new.here c → WaitsWell g old old.level c
  pub next_well : (c : Cell) → new.next c → WaitsWell g old (old.level + 2) c
  pub here_kept : (c : Cell) → old.here c → new.here c ⊎ HasCount new.marks c
  pub next_kept : (c : Cell) → old.next c → new.next c ⊎ HasCount new.marks c
  pub spread : (c n : Cell) (side : Side) → batch c → IsBeside g side c n → IsOpen g n
      → HasCount new.marks n ⊎ ((new.here n × (apart g old.toward n + 1 ≡ apart g old.toward c)) ⊎ (new.next n × (apart g old.toward n ≡ apart g old.toward c + 1)))
