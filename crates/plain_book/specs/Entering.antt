-- A route that comes into a book.
use Rattle.std.specs.Prelude.{◌≡◌, ◌≢◌, ℕ, ◌<◌, List, ◌∷◌, All, IsPermutation, max}
use Rattle.fleet_base.specs.declared.grid.Cell.{Cell}
use Rattle.fleet_base.specs.declared.request.RouteId.{RouteId}
use Rattle.fleet_base.specs.declared.request.Live.{Live}
use Rattle.fleet_base.specs.TimedWalk.{TimedWalk}
use Rattle.fleet_base.specs.Planned.{IsFree}
use Rattle.plain_book.specs.BookState.{BookState}

-- a walk over so many cells that meets no live route, with an id that no live route has
pub record MayEnter (routes : List Live) (cells : ℕ) (id : RouteId) (w : TimedWalk) : Type 0 where
  pub inside : All (λ (c : Cell). c.0 < cells) w.cells
  pub free : IsFree w routes
  pub new_id : All (λ r. r.id ≢ id) routes

-- the route is live too, and the stamp is no lower than its own
pub record HasEntered (old : BookState) (id : RouteId) (w : TimedWalk) (new : BookState) : Type 0 where
  pub routes_are : IsPermutation new.routes (record { id = id; walk = w } ∷ old.routes)
  pub rest_is : new ≡ record old { routes = new.routes; stamp = max old.stamp id.stamp }
