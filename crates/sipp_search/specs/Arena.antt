-- The spots of the cells that a search has entered: where they stand, and how those of a cell are found.
use Rattle.std.specs.Prelude.{◌≡◌, ℕ, suc, ◌<◌, List, Option, Some, length, slice_get}
use Rattle.fleet_base.specs.declared.grid.Cell.{Cell}
use Rattle.fleet_base.specs.declared.request.Record.{Record}
use Rattle.fleet_base.specs.Terrain.{Terrain}
use Rattle.calendars.specs.Places.{place_in}
use Rattle.safe_intervals.specs.Safe.{IsIn, IsSafeInterval}
use Rattle.static_distance.specs.Distance.{IsDistance}
use Rattle.sipp_search.specs.declared.states.Spot.{Spot}

-- the spot is a safe interval of a known cell, with the static distance from there and the number of records before it
pub record IsOfArena (g : Terrain) (goal : Cell) (horizon : ℕ) (known : ℕ → Option (List Record)) (p : Spot) : Type 0 where
  pub records : List Record
  pub known_is : known p.cell.0 ≡ Some records
  pub safe : IsSafeInterval records horizon p.interval
  pub distance : IsDistance g goal p.cell p.left
  pub place_is : (t : ℕ) → IsIn t p.interval → place_in t records ≡ p.place

-- n is 1 plus the last place below the bound at which a spot of c stands, and 0 where none does
pub record IsLastOf (spots : List Spot) (bound : ℕ) (c : Cell) (n : ℕ) : Type 0 where
  pub none_later : (i : ℕ) (p : Spot) → i < bound → slice_get spots i ≡ Some p → p.cell ≡ c → i < n
  pub stands : (i : ℕ) → n ≡ suc i → (i < bound) × ((p : Spot) × (slice_get spots i ≡ Some p) × (p.cell ≡ c))

-- `newest` leads to the last spot of a cell, and each spot to the one of its cell before it
pub record AreChained (spots : List Spot) (newest : List ℕ) : Type 0 where
  pub last : (c : Cell) (n : ℕ) → slice_get newest c.0 ≡ Some n → IsLastOf spots (length spots) c n
  pub before : (j : ℕ) (p : Spot) → slice_get spots j ≡ Some p → IsLastOf spots j p.cell p.older

-- each spot once, and those of a cell are found from the newest one on
pub record IsArena (g : Terrain) (goal : Cell) (horizon : ℕ) (known : ℕ → Option (List Record)) (spots : List Spot) (newest : List ℕ) : Type 0 where
  pub each : (j : ℕ) (p : Spot) → slice_get spots j ≡ Some p → IsOfArena g goal horizon known p
  pub once : (i j : ℕ) (p r : Spot) → slice_get spots i ≡ Some p → slice_get spots j ≡ Some r → p.cell ≡ r.cell → p.interval ≡ r.interval → i ≡ j
  pub chained : AreChained spots newest

-- the spots of the cell come after fewer of its records than so many
abbrev pub ComeBefore : List Spot → Cell → ℕ → Type 0
ComeBefore spots c count = (i : ℕ) (p : Spot) → slice_get spots i ≡ Some p → p.cell ≡ c → p.place < count
