-- What a search keeps of its arena while it runs, and what its end is.
use Rattle.std.specs.Prelude.{◌≡◌, ℕ, ◌+◌, ◌++◌, ◌<◌, ◌≤◌, ◌⊎◌, List, Option, Some, None, IsSome, length, slice_get, slice_set}
use Rattle.fleet_base.specs.declared.grid.Cell.{Cell}
use Rattle.fleet_base.specs.declared.grid.Side.{Side}
use Rattle.fleet_base.specs.declared.request.Record.{Record}
use Rattle.fleet_base.specs.declared.request.Request.{Request}
use Rattle.fleet_base.specs.Terrain.{Terrain, IsBeside}
use Rattle.fleet_base.specs.Reach.{Reached, MayEnd}
use Rattle.calendars.specs.Assignments.{Assignment, Agrees, traffic_by}
use Rattle.safe_intervals.specs.Safe.{IsIn}
use Rattle.static_distance.specs.Aim.{room, IsAimed}
use Rattle.sipp_search.specs.declared.states.Spot.{Spot}
use Rattle.sipp_search.specs.declared.states.State.{State}
use Rattle.sipp_search.specs.declared.states.Arena.{Arena}
use Rattle.sipp_search.specs.declared.states.Taken.{Taken}
use Rattle.sipp_search.specs.declared.states.Mark.TheVariants.{Unseen}
use Rattle.sipp_search.specs.Marks.{spots_of, keys_of, queued, final}
use Rattle.sipp_search.specs.Arena.{IsArena}
use Rattle.sipp_search.specs.Progress.{IsBound, IsWithin, HasFinal, AreSpots, IsFinalWell}

-- what is asked is right, and the view has the cells of the grid
pub record IsReady (g : Terrain) (q : Request) (horizon size : ℕ) : Type 0 where
  pub bound : IsBound g q.goal
  pub size_is : size ≡ length g.cells
  pub in_range : horizon ≤ 8000

-- the parts of the arena fit together
pub record IsSound (g : Terrain) (q : Request) (horizon : ℕ) (known : ℕ → Option (List Record)) (size : ℕ) (arena : Arena) : Type 0 where
  pub paired : arena.queue.keys ≡ keys_of arena.states.items
  pub bound : arena.queue.bound ≡ horizon
  pub count : length arena.newest ≡ size
  pub arranged : IsArena g q.goal horizon known (spots_of arena.states.items) arena.newest
  pub aimed : IsAimed g arena.distances
  pub goal_is : arena.distances.goal ≡ q.goal
  pub room_is : room arena.distances ≡ length g.cells

-- the arena serves grids of that many cells up to the horizon, whatever is in it
pub record Serves (horizon cells : ℕ) (arena : Arena) : Type 0 where
  pub bound : arena.queue.bound ≡ horizon
  pub count : length arena.newest ≡ cells
  pub room_is : room arena.distances ≡ cells

-- whatever was known is still known
abbrev pub KeepsKnown : (ℕ → Option (List Record)) → (ℕ → Option (List Record)) → Type 0
KeepsKnown old new = (c : ℕ) → IsSome (old c) → new c ≡ old c

-- only the cell on that side of c was loaded
abbrev pub LoadsBeside : Terrain → Side → Cell → (ℕ → Option (List Record)) → (ℕ → Option (List Record)) → Type 0
LoadsBeside g side c old new = (n : ℕ) → IsSome (new n) → IsSome (old n) ⊎ ((d : Cell) × IsBeside g side c d × (d.0 ≡ n))

-- only cells beside c were loaded
abbrev pub LoadsAround : Terrain → Cell → (ℕ → Option (List Record)) → (ℕ → Option (List Record)) → Type 0
LoadsAround g c old new = (n : ℕ) → IsSome (new n) → IsSome (old n) ⊎ ((side : Side) × (d : Cell) × IsBeside g side c d × (d.0 ≡ n))

-- states were added that nobody has seen
pub record HasGrown (old new : List State) : Type 0 where
  pub fresh : List State
  pub unseen : (k : ℕ) (s : State) → slice_get fresh k ≡ Some s → s.mark ≡ Unseen
  pub grown : new ≡ old ++ fresh

-- spots keep their places
abbrev pub KeepsSpots : List State → List State → Type 0
KeepsSpots old new = (i : ℕ) (p : Spot) → slice_get (spots_of old) i ≡ Some p → slice_get (spots_of new) i ≡ Some p

-- the queued state of the least key, which is at most the limit, became final; the key is the new floor
pub record SettlesNext (old new : Arena) (limit : ℕ) (taken : Taken) : Type 0 where
  pub was : slice_get old.states.items taken.id ≡ Some (queued taken.spot taken.arrival)
  pub least : (j s : ℕ) (o : Spot) → slice_get old.states.items j ≡ Some (queued o s) → taken.arrival + taken.spot.left ≤ s + o.left
  pub in_limit : taken.arrival + taken.spot.left ≤ limit
  pub rises : old.queue.floor ≤ taken.arrival + taken.spot.left
  pub states_are : new.states.items ≡ slice_set old.states.items taken.id (final taken.spot taken.arrival)
  pub newest_are : new.newest ≡ old.newest
  pub distances_are : new.distances ≡ old.distances
  pub queue_is : new.queue ≡ record old.queue { keys = keys_of new.states.items; floor = taken.arrival + taken.spot.left }

-- each queued key is above the limit
abbrev pub AreAbove : List State → ℕ → Type 0
AreAbove states limit = (i r : ℕ) (p : Spot) → slice_get states i ≡ Some (queued p r) → limit < r + p.left

-- The search is over for a limit: each cell that is reached early enough has a final state, and each final arrival is right.
pub record IsOver (g : Terrain) (q : Request) (horizon : ℕ) (a : Assignment) (states : List State) (limit : ℕ) : Type 0 where
  pub spots : AreSpots g q horizon a (spots_of states)
  pub complete : (c : Cell) (t k : ℕ) → Reached g (traffic_by a) q.start q.depart c t → IsWithin g q.goal c k → t + k ≤ limit → HasFinal states c t
  pub final_well : (i r : ℕ) (p : Spot) → slice_get states i ≡ Some (final p r) → IsFinalWell g q a limit p r

-- t is the least arrival of a final state in which an agent may end
pub record EndsAt (q : Request) (a : Assignment) (states : List State) (t : ℕ) : Type 0 where
  pub place : ℕ
  pub spot : Spot
  pub stands : slice_get states place ≡ Some (final spot t)
  pub at_goal : spot.cell ≡ q.goal
  pub may_end : MayEnd (traffic_by a) q t
  pub least : (i r s : ℕ) (p : Spot) → slice_get states i ≡ Some (final p r) → p.cell ≡ q.goal → IsIn s p.interval → MayEnd (traffic_by a) q s → t ≤ r

-- what was found of an arrival at the goal
abbrev pub Ends : Request → Assignment → List State → Option ℕ → Type 0
Ends q a states (Some t) = EndsAt q a states t
Ends q a states None = (i r s : ℕ) (p : Spot) → slice_get states i ≡ Some (final p r) → p.cell ≡ q.goal → IsIn s p.interval → ¬ (MayEnd (traffic_by a) q s)

-- whether an agent may end in the spot, for each assignment that has the known calendars
abbrev pub MayEndIn : Request → (ℕ → Option (List Record)) → Spot → Type 0
MayEndIn q known p = (p.cell ≡ q.goal) × ((a : Assignment) → Agrees a known → (t : ℕ) → IsIn t p.interval → MayEnd (traffic_by a) q t)

abbrev pub NeverEndsIn : Request → (ℕ → Option (List Record)) → Spot → Type 0
NeverEndsIn q known p = (a : Assignment) → Agrees a known → p.cell ≡ q.goal → (t : ℕ) → IsIn t p.interval → ¬ (MayEnd (traffic_by a) q t)

-- the cell of that number was loaded for a final state: it is its cell, or beside it
abbrev pub IsLoadedFor : Terrain → List State → ℕ → Type 0
IsLoadedFor g states n = (i : ℕ) × (r : ℕ) × (p : Spot) × (slice_get states i ≡ Some (final p r)) × ((p.cell.0 ≡ n) ⊎ ((side : Side) × (d : Cell) × IsBeside g side p.cell d × (d.0 ≡ n)))

-- the state has just become final, and its key is the floor
pub record IsTaken (arena : Arena) (taken : Taken) : Type 0 where
  pub stands : slice_get arena.states.items taken.id ≡ Some (final taken.spot taken.arrival)
  pub inside : IsIn taken.arrival taken.spot.interval
  pub floor : arena.queue.floor ≡ taken.arrival + taken.spot.left

-- only cells of final states and cells beside them were loaded
abbrev pub LoadsFor : Terrain → (ℕ → Option (List Record)) → (ℕ → Option (List Record)) → List State → Type 0
LoadsFor g old new states = (n : ℕ) → IsSome (new n) → IsSome (old n) ⊎ IsLoadedFor g states n

-- only the cells of start and goal, those of final states and cells beside these were loaded
abbrev pub LoadsInAll : Terrain → Request → (ℕ → Option (List Record)) → (ℕ → Option (List Record)) → List State → Type 0
LoadsInAll g q old new states = (n : ℕ) → IsSome (new n) → IsSome (old n) ⊎ (((n ≡ q.start.0) ⊎ (n ≡ q.goal.0)) ⊎ IsLoadedFor g states n)
