-- The stays of a walk: one for each maximal run of equal cells, in order of time.
use Rattle.std.specs.Prelude.{◌≡◌, ◌≢◌, ℕ, ◌+◌, ◌<◌, ◌≤◌, ◌⊎◌, List, Some, All, AllPairs}
use Rattle.std.specs.List.{Any}
use Rattle.fleet_base.specs.declared.grid.Cell.{Cell}
use Rattle.fleet_base.specs.declared.request.RouteId.{RouteId}
use Rattle.fleet_base.specs.declared.request.Record.{Record}
use Rattle.fleet_base.specs.declared.request.Stay.{Stay}
use Rattle.fleet_base.specs.declared.request.TheConstants.{FOREVER}
use Rattle.fleet_base.specs.TimedWalk.{TimedWalk, position}

-- the time is one of the record's: one that ends at `FOREVER` never ends
abbrev pub HoldsTime : Record → ℕ → Type 0
HoldsTime r t = (r.from ≤ t) × ((t ≤ r.to) ⊎ (r.to ≡ FOREVER))

-- the walk is in the cell at each time of the span, and not just before it nor just after it
pub record IsStay (w : TimedWalk) (id : RouteId) (s : Stay) : Type 0 where
  pub mark : s.span.id ≡ id
  pub some : s.span.from ≤ s.span.to
  pub within : (t : ℕ) → HoldsTime s.span t → position w t ≡ Some s.cell
  pub not_before : (t : ℕ) → t + 1 ≡ s.span.from → position w t ≢ Some s.cell
  pub not_after : s.span.to ≢ FOREVER → position w (s.span.to + 1) ≢ Some s.cell

-- maximal stays alone, each time of the walk in one of them, in rising order
pub record AreTheStays (w : TimedWalk) (id : RouteId) (stays : List Stay) : Type 0 where
  pub runs : All (IsStay w id) stays
  pub each_time : (t : ℕ) (c : Cell) → position w t ≡ Some c → Any (λ s. HoldsTime s.span t) stays
  pub in_order : AllPairs (λ a b. a.span.to < b.span.from) stays
