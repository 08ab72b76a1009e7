-- What a walk of a request is, and which walk is the least one in a book of live routes.
use Rattle.std.specs.Prelude.{◌≡◌, ℕ, ◌+◌, ◌≤◌, List, Some, All}
use Rattle.fleet_base.specs.declared.grid.Cell.{Cell}
use Rattle.fleet_base.specs.declared.request.Live.{Live}
use Rattle.fleet_base.specs.declared.request.Request.{Request}
use Rattle.fleet_base.specs.Terrain.{Terrain, IsOpen}
use Rattle.fleet_base.specs.TimedWalk.{TimedWalk, position, arrival, IsStep, Meet}

-- the walk does what the request asks, on this grid and within this horizon
pub record IsWalkOf (g : Terrain) (horizon : ℕ) (q : Request) (w : TimedWalk) : Type 0 where
  pub departs : w.depart ≡ q.depart
  pub stays : w.stay ≡ q.stay
  pub starts : position w q.depart ≡ Some q.start
  pub arrives : position w (arrival w) ≡ Some q.goal
  pub opens : (t : ℕ) (c : Cell) → position w t ≡ Some c → IsOpen g c
  pub steps : (t : ℕ) (c d : Cell) → position w t ≡ Some c → position w (t + 1) ≡ Some d → IsStep g c d
  pub in_time : arrival w ≤ horizon

-- the walk meets no walk of the book
abbrev pub IsClearOf : TimedWalk → Live → Type 0
IsClearOf w r = ¬ (Meet w r.walk)

pub record IsFree (w : TimedWalk) (book : List Live) : Type 0 where
  pub clear : All (IsClearOf w) book

-- no free walk of the request arrives before the time t
pub record NoneBefore (g : Terrain) (horizon : ℕ) (q : Request) (book : List Live) (t : ℕ) : Type 0 where
  pub later : (w : TimedWalk) → IsWalkOf g horizon q w → IsFree w book → t ≤ arrival w

-- no walk of the request is free
pub record NoneFree (g : Terrain) (horizon : ℕ) (q : Request) (book : List Live) : Type 0 where
  pub never : (w : TimedWalk) → IsWalkOf g horizon q w → ¬ (IsFree w book)

-- a free walk of the request, and none arrives earlier
pub record IsLeast (g : Terrain) (horizon : ℕ) (q : Request) (book : List Live) (w : TimedWalk) : Type 0 where
  pub walk_of : IsWalkOf g horizon q w
  pub free : IsFree w book
  pub least : NoneBefore g horizon q book (arrival w)
