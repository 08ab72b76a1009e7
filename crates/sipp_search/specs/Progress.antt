-- What a search keeps between its steps, for one assignment of calendars.
use Rattle.std.specs.Prelude.{◌≡◌, ◌≢◌, ℕ, ◌+◌, ◌≤◌, ◌⊎◌, false, List, Some, slice_get}
use Rattle.fleet_base.specs.declared.grid.Cell.{Cell}
use Rattle.fleet_base.specs.declared.grid.Side.{Side}
use Rattle.fleet_base.specs.declared.request.Request.{Request}
use Rattle.fleet_base.specs.Terrain.{Terrain, IsOpen, IsBeside}
use Rattle.fleet_base.specs.Reach.{Reached}
use Rattle.calendars.specs.Records.{covers, is_exchange}
use Rattle.calendars.specs.Assignments.{Assignment, traffic_by}
use Rattle.safe_intervals.specs.Safe.{IsIn, IsSafeInterval}
use Rattle.static_distance.specs.Distance.{IsWay, IsDistance}
use Rattle.sipp_search.specs.declared.states.Spot.{Spot}
use Rattle.sipp_search.specs.declared.states.State.{State}
use Rattle.sipp_search.specs.Marks.{queued, final, final_count}

-- the move from b at t to the cell c beside it at t + 1 is free
pub record MayMove (g : Terrain) (a : Assignment) (b c : Cell) (t : ℕ) : Type 0 where
  pub side : Side
  pub beside : IsBeside g side b c
  pub opens : IsOpen g c
  pub untaken : covers (a c.0) (t + 1) ≡ false
  pub unbarred : is_exchange (a b.0) (a c.0) t ≡ false

-- a way of at most k moves leads from the cell to the goal
pub record IsWithin (g : Terrain) (goal c : Cell) (k : ℕ) : Type 0 where
  pub left : ℕ
  pub way : IsWay g goal c left
  pub below : left ≤ k

-- what a search needs of the static distance: a cell has one at most, and a move lowers it by 1 at most
pub record IsBound (g : Terrain) (goal : Cell) : Type 0 where
  pub opens : (c : Cell) (k : ℕ) → IsDistance g goal c k → IsOpen g c
  pub zero_at_goal : IsOpen g goal → IsDistance g goal goal 0
  pub once : (c : Cell) (j k : ℕ) → IsDistance g goal c j → IsDistance g goal c k → j ≡ k
  pub falls : (side : Side) (b c : Cell) (k : ℕ) → IsOpen g b → IsBeside g side b c → IsDistance g goal c k → IsWithin g goal b (k + 1)

-- a state of c that holds t was seen, with an arrival of at most t
pub record HasSeen (states : List State) (c : Cell) (t : ℕ) : Type 0 where
  pub place : ℕ
  pub spot : Spot
  pub arrival : ℕ
  pub stands : (slice_get states place ≡ Some (queued spot arrival)) ⊎ (slice_get states place ≡ Some (final spot arrival))
  pub cell_is : spot.cell ≡ c
  pub holds : IsIn t spot.interval
  pub early : arrival ≤ t

-- the same with a final arrival
pub record HasFinal (states : List State) (c : Cell) (t : ℕ) : Type 0 where
  pub place : ℕ
  pub spot : Spot
  pub arrival : ℕ
  pub stands : slice_get states place ≡ Some (final spot arrival)
  pub cell_is : spot.cell ≡ c
  pub holds : IsIn t spot.interval
  pub early : arrival ≤ t

-- the spots are safe intervals of cells, with their static distances, each once
pub record AreSpots (g : Terrain) (q : Request) (horizon : ℕ) (a : Assignment) (spots : List Spot) : Type 0 where
  pub safe : (i : ℕ) (p : Spot) → slice_get spots i ≡ Some p → IsSafeInterval (a p.cell.0) horizon p.interval
  pub distance : (i : ℕ) (p : Spot) → slice_get spots i ≡ Some p → IsDistance g q.goal p.cell p.left
  pub once : (i j : ℕ) (p r : Spot) → slice_get spots i ≡ Some p → slice_get spots j ≡ Some r
      → p.cell ≡ r.cell → p.interval ≡ r.interval → i ≡ j

-- the spot is reached at that time
pub record IsArrived (g : Terrain) (q : Request) (a : Assignment) (p : Spot) (r : ℕ) : Type 0 where
  pub reached : Reached g (traffic_by a) q.start q.depart p.cell r
  pub inside : IsIn r p.interval

-- what is known of a queued state: it was reached, and its key is from the cursor to the horizon
pub record IsQueuedWell (g : Terrain) (q : Request) (horizon : ℕ) (a : Assignment) (cursor : ℕ) (p : Spot) (r : ℕ) : Type 0 where
  pub arrived : IsArrived g q a p r
  pub after : cursor ≤ r + p.left
  pub in_time : r + p.left ≤ horizon

-- what is known of a final state: its arrival is the least one, and its key is at most the cursor
pub record IsFinalWell (g : Terrain) (q : Request) (a : Assignment) (cursor : ℕ) (p : Spot) (r : ℕ) : Type 0 where
  pub arrived : IsArrived g q a p r
  pub least : (t : ℕ) → IsArrived g q a p t → r ≤ t
  pub before : r + p.left ≤ cursor

-- each cell to which a move leads from the spot, from r on, was seen by then, as far as the horizon lets reach the goal
abbrev pub LeadsOn : Terrain → Request → ℕ → Assignment → List State → Spot → ℕ → Type 0
LeadsOn g q horizon a states p r = (t k : ℕ) (c : Cell) → r ≤ t → t ≤ p.interval.to → MayMove g a p.cell c t
    → IsWithin g q.goal c k → t + 1 + k ≤ horizon → HasSeen states c (t + 1)

abbrev pub AreQueuedWell : Terrain → Request → ℕ → Assignment → List State → ℕ → Type 0
AreQueuedWell g q horizon a states cursor = (i r : ℕ) (p : Spot) → slice_get states i ≡ Some (queued p r) → IsQueuedWell g q horizon a cursor p r

-- each final state but that of the place x leads on
abbrev pub EachLeadsBut : Terrain → Request → ℕ → Assignment → List State → ℕ → Type 0
EachLeadsBut g q horizon a states x = (i r : ℕ) (p : Spot) → i ≢ x → slice_get states i ≡ Some (final p r) → LeadsOn g q horizon a states p r

-- the start was seen at the departure, where it is free and the goal could be reached from it by the horizon
abbrev pub StartIsSeen : Terrain → Request → ℕ → Assignment → List State → Type 0
StartIsSeen g q horizon a states = (k : ℕ) → covers (a q.start.0) q.depart ≡ false → IsWithin g q.goal q.start k → q.depart + k ≤ horizon
    → HasSeen states q.start q.depart

-- the search is under way: all keys below the cursor are final, and the moves of all final states but that at x are made
pub record IsUnderWay (g : Terrain) (q : Request) (horizon : ℕ) (a : Assignment) (states : List State) (cursor x : ℕ) : Type 0 where
  pub start : StartIsSeen g q horizon a states
  pub queued_well : AreQueuedWell g q horizon a states cursor
  pub final_well : (i r : ℕ) (p : Spot) → slice_get states i ≡ Some (final p r) → IsFinalWell g q a cursor p r
  pub leads : EachLeadsBut g q horizon a states x

-- only arrivals of states that aren't final have changed, and none has become later
pub record Improves (old new : List State) : Type 0 where
  pub no_more : (i r : ℕ) (p : Spot) → slice_get new i ≡ Some (final p r) → slice_get old i ≡ Some (final p r)
  pub no_less : (i r : ℕ) (p : Spot) → slice_get old i ≡ Some (final p r) → slice_get new i ≡ Some (final p r)
  pub seen : (c : Cell) (t : ℕ) → HasSeen old c t → HasSeen new c t
  pub count : final_count new ≡ final_count old
