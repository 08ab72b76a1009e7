-- What the arena tells of its spots.
use Rattle.std.proofs.Common.{subst, sym, ◌∙◌}
use Rattle.std.proofs.lemmas.Option.{same_Some}
use Rattle.std.specs.Prelude.{◌≡◌, ℕ, false, List, Option, Some, slice_get}
use Rattle.fleet_base.specs.declared.grid.Cell.{Cell}
use Rattle.fleet_base.specs.declared.request.Record.{Record}
use Rattle.fleet_base.specs.declared.request.Request.{Request}
use Rattle.fleet_base.specs.Terrain.{Terrain}
use Rattle.calendars.specs.Records.{covers}
use Rattle.calendars.specs.Assignments.{Assignment, Agrees}
use Rattle.safe_intervals.specs.Safe.{IsIn, IsSafeInterval}
use Rattle.static_distance.specs.Distance.{IsDistance}
use Rattle.sipp_search.specs.declared.states.Spot.{Spot}
use Rattle.sipp_search.specs.Arena.{IsOfArena, IsArena}
use Rattle.sipp_search.specs.Progress.{AreSpots}

pub of_arena : (g : Terrain) (goal : Cell) (horizon : ℕ) (known : ℕ → Option (List Record)) (spots : List Spot) (newest : List ℕ) (i : ℕ) (p : Spot)
    → IsArena g goal horizon known spots newest → slice_get spots i ≡ Some p → IsOfArena g goal horizon known p
of_arena g goal horizon known spots newest i p arena at = arena.each i p at

pub free_of_arena : (g : Terrain) (goal : Cell) (horizon : ℕ) (known : ℕ → Option (List Record)) (p : Spot) → IsOfArena g goal horizon known p
    → (records : List Record) (t : ℕ) → known p.cell.0 ≡ Some records → IsIn t p.interval → covers records t ≡ false
free_of_arena g goal horizon known p of records t is inside =
    let same : of.records ≡ records = same_Some of.records records (sym of.known_is ∙ is) in
    subst (λ (rs : List Record). covers rs t ≡ false) same (of.safe.free t inside)

module _ (g : Terrain) (goal : Cell) (horizon : ℕ) (known : ℕ → Option (List Record)) (spots : List Spot) where
  -- the spots are right for each assignment that has the known calendars
  pub spots_right : (newest : List ℕ) (q : Request) (a : Assignment) → q.goal ≡ goal → IsArena g goal horizon known spots newest → Agrees a known → AreSpots g q horizon a spots
  spots_right newest q a goal_is arena agrees = record {
    safe = λ i p at.
        (let of = arena.each i p at in
        let records : a p.cell.0 ≡ of.records = agrees p.cell.0 of.records of.known_is in
        subst (λ (rs : List Record). IsSafeInterval rs horizon p.interval) (sym records) of.safe);
    distance = λ i p at. subst (λ (z : Cell). IsDistance g z p.cell p.left) (sym goal_is) (arena.each i p at).distance;
    once = λ i j p r at at' cells intervals. arena.once i j p r at at' cells intervals;
  }
