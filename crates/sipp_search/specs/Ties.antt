-- What reading back tells while some states of the last key aren't settled.
use Rattle.std.specs.Prelude.{◌≡◌, ℕ, ◌+◌, ◌*◌, ◌<◌, ◌≤◌, true, List, Option, Some, IsSome, length, slice_get, ⊤}
use Rattle.fleet_base.specs.declared.grid.Cell.{Cell}
use Rattle.fleet_base.specs.declared.grid.Side.{Side}
use Rattle.fleet_base.specs.declared.request.Record.{Record}
use Rattle.fleet_base.specs.declared.request.Request.{Request}
use Rattle.fleet_base.specs.Terrain.{Terrain, IsBeside}
use Rattle.fleet_base.specs.Reach.{Reached, IsArrival}
use Rattle.fleet_base.specs.Canonical.{CanPrecede, IsFirstBefore, IsEarliest}
use Rattle.calendars.specs.Assignments.{Assignment, Agrees, traffic_by}
use Rattle.static_distance.specs.Aim.{room, IsAimed}
use Rattle.static_distance.specs.Levels.{IsPlaceOf, between}
use Rattle.static_distance.specs.declared.place.Place.{Place}
use Rattle.sipp_search.specs.declared.states.Arena.{Arena}
use Rattle.sipp_search.specs.declared.ties.Ties.{Ties}
use Rattle.sipp_search.specs.declared.ties.Waiting.{Waiting}
use Rattle.sipp_search.specs.declared.ties.Told.{Told}
use Rattle.sipp_search.specs.declared.ties.Told.TheVariants.{Since, Never, Unclear}
use Rattle.static_distance.specs.Distance.{IsDistance}
use Rattle.sipp_search.specs.declared.states.State.{State}
use Rattle.sipp_search.specs.declared.states.Spot.{Spot}
use Rattle.sipp_search.specs.Marks.{queued}
use Rattle.sipp_search.specs.Progress.{IsUnderWay, HasSeen}
use Rattle.sipp_search.specs.Running.{IsSound}
use Rattle.sipp_search.specs.Back.{IsOn, NoneFrom}

-- t is the least time at which the goal is reached and the agent may end there
pub record IsFirstArrival (g : Terrain) (q : Request) (a : Assignment) (t : ℕ) : Type 0 where
  pub arrives : IsArrival g (traffic_by a) q t
  pub least : (s : ℕ) → IsArrival g (traffic_by a) q s → t ≤ s

-- the goal was taken at the floor of the queue: all states with a lower key are final
pub record IsPaused (g : Terrain) (q : Request) (horizon : ℕ) (known : ℕ → Option (List Record)) (size : ℕ) (arena : Arena) : Type 0 where
  pub sound : IsSound g q horizon known size arena
  pub in_time : arena.queue.floor ≤ horizon
  pub on : IsOn arena.states.items q.goal arena.queue.floor
  pub way : (a : Assignment) (x : ℕ) → Agrees a known → IsUnderWay g q horizon a arena.states.items arena.queue.floor x

-- what is kept of earlier questions has room for grids of that many cells
pub record HaveRoom (cells : ℕ) (ties : Ties) : Type 0 where
  pub from_start : room ties.from_start ≡ cells
  pub asked : length ties.asked ≡ cells

-- moves are counted from the start, whose place is known, and what was told of a cell at a time holds
pub record AreTies (g : Terrain) (q : Request) (known : ℕ → Option (List Record)) (ties : Ties) : Type 0 where
  pub fit : HaveRoom (length g.cells) ties
  pub place_is : IsPlaceOf g q.start ties.start
  pub near : (ties.start.column < 2048) × (ties.start.row < 2048)
  pub aimed : IsAimed g ties.from_start
  pub start_is : ties.from_start.goal ≡ q.start
  pub missed : (a : Assignment) (c : Cell) (u : ℕ) → Agrees a known → slice_get ties.asked c.0 ≡ Some (2 * u + 1) → ¬ (Reached g (traffic_by a) q.start q.depart c u)
  pub entered : (a : Assignment) (c : Cell) (u : ℕ) → Agrees a known → slice_get ties.asked c.0 ≡ Some (2 * u + 2) → IsEarliest g (traffic_by a) q c u u
  pub loaded : (c : Cell) (u : ℕ) → slice_get ties.asked c.0 ≡ Some (2 * u + 2) → IsSome (known c.0)

-- whether c is reached by u in the safe interval that holds it, and the least time of that
abbrev pub TellsArrival : Terrain → Request → Assignment → Cell → ℕ → Told → Type 0
TellsArrival g q a c u (Since hop) = (hop.cell ≡ c) × IsEarliest g (traffic_by a) q c u hop.time
TellsArrival g q a c u Never = ¬ (Reached g (traffic_by a) q.start q.depart c u)
TellsArrival g q a c u Unclear = ⊤

-- the cell n on that side of c can precede it, where c is entered at t, and is itself entered at s
pub record IsSideBack (g : Terrain) (q : Request) (a : Assignment) (c : Cell) (t : ℕ) (side : Side) (n : Cell) (s : ℕ) : Type 0 where
  pub before : ℕ
  pub time_is : t ≡ before + 1
  pub beside : IsBeside g side c n
  pub precedes : CanPrecede g (traffic_by a) q n c before
  pub earliest : IsEarliest g (traffic_by a) q n before s

abbrev pub TellsSide : Terrain → Request → Assignment → Cell → ℕ → Side → Told → Type 0
TellsSide g q a c t side (Since hop) = IsSideBack g q a c t side hop.cell hop.time
TellsSide g q a c t side Never = NoneFrom g q a c t side
TellsSide g q a c t side Unclear = ⊤

-- of the neighbours of c that can precede it, n is the first
pub record IsStepBack (g : Terrain) (q : Request) (a : Assignment) (c : Cell) (t : ℕ) (n : Cell) (s : ℕ) : Type 0 where
  pub before : ℕ
  pub time_is : t ≡ before + 1
  pub first : IsFirstBefore g (traffic_by a) q n c before
  pub earliest : IsEarliest g (traffic_by a) q n before s

abbrev pub TellsStep : Terrain → Request → Assignment → Cell → ℕ → Told → Type 0
TellsStep g q a c t (Since hop) = IsStepBack g q a c t hop.cell hop.time
TellsStep g q a c t Never = (side : Side) → NoneFrom g q a c t side
TellsStep g q a c t Unclear = ⊤

-- the cell's key at that time is the floor, and no state of it is known to be reached by then
pub record IsUnseenAt (g : Terrain) (q : Request) (states : List State) (floor : ℕ) (c : Cell) (t left : ℕ) : Type 0 where
  pub distance : IsDistance g q.goal c left
  pub key : t + left ≡ floor
  pub unseen : ¬ (HasSeen states c t)

-- where it was reached, the cell's calendar is known
abbrev pub LoadedWhereSince : (ℕ → Option (List Record)) → Told → Type 0
LoadedWhereSince known (Since hop) = IsSome (known hop.cell.0)
LoadedWhereSince known Never = ⊤
LoadedWhereSince known Unclear = ⊤

-- where it was reached, that was by then
abbrev pub EarlierThan : ℕ → Told → Type 0
EarlierThan t (Since hop) = hop.time + 1 ≤ t
EarlierThan t Never = ⊤
EarlierThan t Unclear = ⊤

-- so many moves lead from its place, since its arrival, to that place by t, if all cells are open
abbrev pub IsNear : Waiting → Place → ℕ → Type 0
IsNear one place t = one.arrival + between one.place place ≤ t

-- one of the list is that near
abbrev pub HasNear : List Waiting → Place → ℕ → Type 0
HasNear waiting place t = (j : ℕ) × (one : Waiting) × (slice_get waiting j ≡ Some one) × IsNear one place t

-- the places of the list are those of a grid
abbrev pub AreInGrid : List Waiting → Type 0
AreInGrid waiting = (j : ℕ) (one : Waiting) → slice_get waiting j ≡ Some one → (one.place.column < 2048) × (one.place.row < 2048)

-- the list has the cell's place with that arrival
abbrev pub IsListed : Terrain → List Waiting → Cell → ℕ → Type 0
IsListed g waiting c r = (j : ℕ) × (one : Waiting) × (slice_get waiting j ≡ Some one) × IsPlaceOf g c one.place × (one.arrival ≡ r)

-- each queued state whose key is the floor is in the list
pub record AreWaiting (g : Terrain) (states : List State) (floor : ℕ) (waiting : List Waiting) : Type 0 where
  pub in_grid : AreInGrid waiting
  pub listed : (i r : ℕ) (p : Spot) → slice_get states i ≡ Some (queued p r) → r + p.left ≡ floor → IsListed g waiting p.cell r

-- where the list is said to have all of them, it has
abbrev pub ListsWaiting : Terrain → List State → ℕ → Ties → Type 0
ListsWaiting g states floor ties = ties.few ≡ true → AreWaiting g states floor ties.waiting.items

-- the state at that place is queued with that key, and this is where it is and since when
abbrev pub IsWaiting : Terrain → List State → ℕ → ℕ → Waiting → Type 0
IsWaiting g states key i one = (p : Spot) × (slice_get states i ≡ Some (queued p one.arrival)) × (one.arrival + p.left ≡ key) × IsPlaceOf g p.cell one.place
    × (one.place.column < 2048) × (one.place.row < 2048)

-- nothing else is in the list
abbrev pub AreQueued : Terrain → List State → ℕ → List Waiting → Type 0
AreQueued g states floor waiting = (j : ℕ) (one : Waiting) → slice_get waiting j ≡ Some one
    → (i : ℕ) × (p : Spot) × (slice_get states i ≡ Some (queued p one.arrival)) × (one.arrival + p.left ≡ floor) × IsPlaceOf g p.cell one.place
