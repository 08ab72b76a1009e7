-- What a search among calendars gives, and what that means among live routes.
use Rattle.std.specs.Prelude.{ℕ, Option, Some, None}
use Rattle.fleet_base.specs.declared.request.Request.{Request}
use Rattle.fleet_base.specs.Terrain.{Terrain}
use Rattle.fleet_base.specs.TimedWalk.{TimedWalk}
use Rattle.fleet_base.specs.Planned.{IsWalkOf, NoneFree}
use Rattle.fleet_base.specs.Traffic.{Traffic, IsFreeIn}
use Rattle.fleet_base.specs.Canonical.{IsCanonical}
use Rattle.plain_book.specs.BookState.{BookState}
use Rattle.plain_book.specs.Replies.{IsCanonicalIn}

-- the canonical walk in the traffic, or that no walk is free there
abbrev pub FindsWalk : Terrain → ℕ → Traffic → Request → Option TimedWalk → Type 0
FindsWalk g horizon traffic q (Some w) = IsCanonical g horizon traffic q w
FindsWalk g horizon traffic q None = (w : TimedWalk) → IsWalkOf g horizon q w → ¬ (IsFreeIn traffic w)

-- the canonical walk among the live routes, or that no walk is free there
abbrev pub PlansWalk : BookState → Request → Option TimedWalk → Type 0
PlansWalk s q (Some w) = IsCanonicalIn s q w
PlansWalk s q None = NoneFree s.grid s.horizon q s.routes
