-- Which live routes a book can go on from.
use Rattle.std.specs.Prelude.{◌≡◌, ◌≢◌, ℕ, ◌≤◌, List, All, AllPairs, IsPermutation}
use Rattle.fleet_base.specs.declared.request.Request.{Request}
use Rattle.fleet_base.specs.declared.request.Live.{Live}
use Rattle.fleet_base.specs.Terrain.{Terrain}
use Rattle.fleet_base.specs.TimedWalk.{TimedWalk, Meet}
use Rattle.fleet_base.specs.Planned.{IsWalkOf}
use Rattle.plain_book.specs.BookState.{BookState}

-- the walk is a walk of some request on the grid within the horizon
pub record IsWalkOn (g : Terrain) (horizon : ℕ) (w : TimedWalk) : Type 0 where
  pub request : Request
  pub walk_of : IsWalkOf g horizon request w

-- walks on the grid, of which no two meet, with ids that differ and no stamp above the last one
pub record AreLive (g : Terrain) (horizon : ℕ) (routes : List Live) (stamp : ℕ) : Type 0 where
  pub walks : All (λ r. IsWalkOn g horizon r.walk) routes
  pub apart : AllPairs (λ r s. ¬ (Meet r.walk s.walk)) routes
  pub ids : AllPairs (λ r s. r.id ≢ s.id) routes
  pub stamps : All (λ r. r.id.stamp ≤ stamp) routes

-- the book has exactly these routes
pub record HasRoutes (s : BookState) (g : Terrain) (horizon : ℕ) (routes : List Live) (stamp era : ℕ) : Type 0 where
  pub routes_are : IsPermutation s.routes routes
  pub rest_is : s ≡ record { grid = g; horizon = horizon; routes = s.routes; stamp = stamp; era = era }
