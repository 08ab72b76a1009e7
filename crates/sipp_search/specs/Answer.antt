-- What a search answers: the canonical walk, or that there is none, and the table of the states that it settled.
use Rattle.std.specs.Prelude.{◌≡◌, ℕ, zero, suc, ◌+◌, ◌≤◌, ◌⊎◌, List, Option, Some, None, length, slice_get}
use Rattle.fleet_base.specs.declared.grid.Cell.{Cell}
use Rattle.fleet_base.specs.declared.grid.Side.{Side}
use Rattle.fleet_base.specs.declared.request.Record.{Record}
use Rattle.fleet_base.specs.declared.request.Request.{Request}
use Rattle.fleet_base.specs.Terrain.{Terrain, IsBeside}
use Rattle.fleet_base.specs.TimedWalk.{TimedWalk, arrival}
use Rattle.fleet_base.specs.Planned.{IsWalkOf}
use Rattle.fleet_base.specs.Traffic.{IsFreeIn}
use Rattle.fleet_base.specs.Reach.{IsReachable}
use Rattle.fleet_base.specs.Canonical.{IsCanonical}
use Rattle.calendars.specs.Assignments.{Assignment, traffic_by}
use Rattle.safe_intervals.specs.declared.interval.Interval.{Interval}
use Rattle.safe_intervals.specs.Safe.{IsIn, IsSafeInterval, AreSafeIntervals}
use Rattle.static_distance.specs.Distance.{IsDistance}
use Rattle.sipp_search.specs.declared.answer.Settled.{Settled}
use Rattle.sipp_search.specs.declared.answer.Found.{Found}
use Rattle.sipp_search.specs.declared.answer.Found.TheVariants.{Route, NoRoute}

-- a cell, one of its safe intervals, and the least time in it at which the cell is reachable
pub record IsSettled (g : Terrain) (horizon : ℕ) (a : Assignment) (q : Request) (s : Settled) : Type 0 where
  pub safe : IsSafeInterval (a s.cell.0) horizon s.interval
  pub reachable : IsReachable g (traffic_by a) q s.cell s.arrival
  pub within : IsIn s.arrival s.interval
  pub least : (t : ℕ) → IsIn t s.interval → IsReachable g (traffic_by a) q s.cell t → s.arrival ≤ t

-- from there the goal could be reached by the limit, if nobody stood in the way
pub record IsDue (g : Terrain) (q : Request) (limit : ℕ) (s : Settled) : Type 0 where
  pub left : ℕ
  pub distance : IsDistance g q.goal s.cell left
  pub in_time : s.arrival + left ≤ limit

-- the table has exactly the settled states from which the goal could be reached by the limit, each once
pub record IsTable (g : Terrain) (horizon : ℕ) (a : Assignment) (q : Request) (limit : ℕ) (table : List Settled) : Type 0 where
  pub settled : (k : ℕ) (s : Settled) → slice_get table k ≡ Some s → IsSettled g horizon a q s
  pub due : (k : ℕ) (s : Settled) → slice_get table k ≡ Some s → IsDue g q limit s
  pub whole : (s : Settled) → IsSettled g horizon a q s → IsDue g q limit s → (k : ℕ) × (slice_get table k ≡ Some s)
  pub once : (j k : ℕ) (s r : Settled) → slice_get table j ≡ Some s → slice_get table k ≡ Some r
      → s.cell ≡ r.cell → s.interval ≡ r.interval → j ≡ k

-- the walk is the canonical one: a free walk of the request, and none arrives earlier
pub record IsRoute (g : Terrain) (horizon : ℕ) (a : Assignment) (q : Request) (w : TimedWalk) (table : List Settled) : Type 0 where
  pub canonical : IsCanonical g horizon (traffic_by a) q w
  pub walk_of : IsWalkOf g horizon q w
  pub free : IsFreeIn (traffic_by a) w
  pub least : (v : TimedWalk) → IsWalkOf g horizon q v → IsFreeIn (traffic_by a) v → arrival w ≤ arrival v
  pub settled : IsTable g horizon a q (arrival w) table

-- no walk of the request within the horizon is free
pub record IsNoRoute (g : Terrain) (horizon : ℕ) (a : Assignment) (q : Request) (table : List Settled) : Type 0 where
  pub none : (w : TimedWalk) → IsWalkOf g horizon q w → ¬ (IsFreeIn (traffic_by a) w)
  pub settled : IsTable g horizon a q horizon table

-- the walk is the canonical one: a free walk of the request, and none arrives earlier
pub record IsBestWalk (g : Terrain) (horizon : ℕ) (a : Assignment) (q : Request) (w : TimedWalk) : Type 0 where
  pub canonical : IsCanonical g horizon (traffic_by a) q w
  pub walk_of : IsWalkOf g horizon q w
  pub free : IsFreeIn (traffic_by a) w
  pub least : (v : TimedWalk) → IsWalkOf g horizon q v → IsFreeIn (traffic_by a) v → arrival w ≤ arrival v

-- the walk that was found is the best one; where none was, no walk of the request within the horizon is free
abbrev pub IsFoundWalk : Terrain → ℕ → Assignment → Request → Option TimedWalk → Type 0
IsFoundWalk g horizon a q (Some w) = IsBestWalk g horizon a q w
IsFoundWalk g horizon a q None = (w : TimedWalk) → IsWalkOf g horizon q w → ¬ (IsFreeIn (traffic_by a) w)

abbrev pub IsAnswerOf : Terrain → ℕ → Assignment → Request → Found → Type 0
IsAnswerOf g horizon a q (Route walk table) = IsRoute g horizon a q walk table
IsAnswerOf g horizon a q (NoRoute table) = IsNoRoute g horizon a q table

abbrev pub table_in : Found → List Settled
table_in (Route walk table) = table
table_in (NoRoute table) = table

-- the cell is the start, the goal, or one of the table's
abbrev pub IsAsked : Request → List Settled → Cell → Type 0
IsAsked q table c = (c ≡ q.start) ⊎ ((c ≡ q.goal) ⊎ ((k : ℕ) × (s : Settled) × (slice_get table k ≡ Some s) × (s.cell ≡ c)))

-- the cell of that number is one of these, or beside one
abbrev pub IsNeeded : Terrain → Request → List Settled → ℕ → Type 0
IsNeeded g q table c = (d : Cell) × IsAsked q table d × ((d.0 ≡ c) ⊎ ((side : Side) × (e : Cell) × IsBeside g side d e × (e.0 ≡ c)))

-- each known cell has its safe intervals in the lists
abbrev pub AreListsOf : (ℕ → Option (List Record)) → ℕ → (ℕ → List Interval) → Type 0
AreListsOf known horizon lists = (c : ℕ) (records : List Record) → known c ≡ Some records → AreSafeIntervals records horizon (lists c)

abbrev pub length_if_known : Option (List Record) → List Interval → ℕ
length_if_known None list = 0
length_if_known (Some records) list = length list

-- how many intervals the lists of the known cells below n have
abbrev pub interval_count : (ℕ → Option (List Record)) → (ℕ → List Interval) → ℕ → ℕ
interval_count known lists zero = 0
interval_count known lists (suc n) = length_if_known (known n) (lists n) + interval_count known lists n
