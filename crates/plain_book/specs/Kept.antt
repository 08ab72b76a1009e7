-- The calendars of a book have the records of the live routes' stays, and no others.
use Rattle.std.specs.Prelude.{◌≡◌, ℕ, ◌≤◌, List, [], length, map, All, slice_index_or}
use Rattle.std.specs.declared.cmp.Ordering.{Ordering}
use Rattle.std.specs.Ordering.{ordering_then, nat_cmp}
use Rattle.std.specs.List.Sorted.{IsStrictlySortedBy}
use Rattle.std.specs.Map.{keys_of}
use Rattle.fleet_base.specs.declared.request.RouteId.{RouteId}
use Rattle.fleet_base.specs.declared.request.Record.{Record}
use Rattle.fleet_base.specs.declared.request.Stay.{Stay}
use Rattle.fleet_base.specs.declared.request.Live.{Live}
use Rattle.fleet_base.specs.Terrain.{Terrain}
use Rattle.fleet_base.specs.TimedWalk.{TimedWalk}
use Rattle.fleet_base.specs.Stays.{IsStay, AreTheStays}
use Rattle.fleet_base.specs.Order.{IsAmong}
use Rattle.sipp_search.specs.Scratch.{Scratch}

-- the calendar of the cell of that number: outside the grid an empty one
abbrev pub records_at : List (List Record) → ℕ → List Record
records_at calendars c = slice_index_or calendars c []

-- the stay in the cell of that number
abbrev pub stay_in : ℕ → Record → Stay
stay_in c r = record { cell = record { 0 = c }; span = r }

-- the record is one of a live route's stays in the cell of that number
pub record IsRouteRecord (routes : List Live) (c : ℕ) (r : Record) : Type 0 where
  pub route : Live
  pub live : IsAmong route routes
  pub stay : IsStay route.walk route.id (stay_in c r)

-- each stay of the route has its record in the calendar of its cell
pub record IsPlaced (calendars : List (List Record)) (route : Live) : Type 0 where
  pub stays : List Stay
  pub are : AreTheStays route.walk route.id stays
  pub placed : (s : Stay) → IsAmong s stays → IsAmong s.span (records_at calendars s.cell.0)

-- the records of the live routes, and no others
pub record AreCalendarsOf (routes : List Live) (calendars : List (List Record)) : Type 0 where
  pub sound : (c : ℕ) (r : Record) → IsAmong r (records_at calendars c) → IsRouteRecord routes c r
  pub whole : (route : Live) → IsAmong route routes → IsPlaced calendars route

-- an entry of the map of walks by their ids, as a live route
abbrev pub live_of : RouteId × TimedWalk → Live
live_of e = record { id = e.0; walk = e.1 }

abbrev pub routes_of : List (RouteId × TimedWalk) → List Live
routes_of entries = map live_of entries

-- ids are in order by their stamps, then by their callers
abbrev pub id_cmp : RouteId → RouteId → Ordering
id_cmp a b = ordering_then (nat_cmp a.stamp b.stamp) (nat_cmp a.caller b.caller)

-- what is true of each book
pub record IsKept (g : Terrain) (horizon stamp : ℕ) (entries : List (RouteId × TimedWalk)) (calendars : List (List Record)) (searcher : Scratch) : Type 0 where
  pub in_range : (1 ≤ horizon) × (horizon ≤ 8000)
  pub size : length calendars ≡ length g.cells
  pub searches : searcher ≡ record { cells = length g.cells; horizon = horizon }
  pub ordered : IsStrictlySortedBy id_cmp (keys_of entries)
  pub stamps : All (λ r. r.id.stamp ≤ stamp) (routes_of entries)
  pub calendars_are : AreCalendarsOf (routes_of entries) calendars
