-- What a book of one thread stands for, and the histories that lead to it.
use Rattle.std.specs.Prelude.{◌≡◌, ℕ, ◌≤◌, List, All, IsPermutation}
use Rattle.fleet_base.specs.declared.request.Live.{Live}
use Rattle.fleet_base.specs.Terrain.{Terrain}
use Rattle.fleet_base.specs.History.{Past}

-- the grid and the horizon, the live routes in no promised order, the last stamp, and the number of cancels
pub record BookState : Type 0 where
  pub grid : Terrain
  pub horizon : ℕ
  pub routes : List Live
  pub stamp : ℕ
  pub era : ℕ

-- the past leads to this state: the same live routes and era, and no stamp above the book's
pub record LeadsTo (p : Past) (s : BookState) : Type 0 where
  pub routes : IsPermutation p.book s.routes
  pub era : p.era ≡ s.era
  pub stamps : All (λ id. id.stamp ≤ s.stamp) p.replies
  pub live_stamps : All (λ r. r.id.stamp ≤ s.stamp) s.routes

-- the grid and the horizon never change
pub record IsOnSameGrid (old new : BookState) : Type 0 where
  pub grid : new.grid ≡ old.grid
  pub horizon : new.horizon ≡ old.horizon
