-- What lets a route come into a book, and what its coming makes of an answer.
use Rattle.std.proofs.Common.{◌≡◌, ◌≢◌, ℕ, ◌+◌, ◌≤◌, Option, Some, List, ◌∷◌, length, refl, sym, ap, subst, ◌∙◌, arith, max}
use Rattle.std.specs.Prelude.{All, IsPermutation}
use Rattle.std.proofs.lemmas.List.Elements.{All-weaker}
use Rattle.fleet_base.specs.declared.request.Live.{Live}
use Rattle.fleet_base.specs.declared.request.RouteId.{RouteId}
use Rattle.fleet_base.specs.declared.request.Request.{Request}
use Rattle.fleet_base.specs.TimedWalk.{TimedWalk}
use Rattle.plain_book.specs.BookState.{BookState}
use Rattle.plain_book.specs.Replies.{IsCanonicalIn, IsCommit}
use Rattle.plain_book.specs.Entering.{MayEnter, HasEntered}
use Rattle.plain_book.specs.Found.{PlansWalk}
use Rattle.plain_book.proofs.Keeping.{walk_inside}

-- a walk that was found in a book is one in the same book
pub still_canonical : (s t : BookState) (q : Request) (found : Option TimedWalk) (w : TimedWalk) → t ≡ s → found ≡ Some w → PlansWalk s q found → IsCanonicalIn t q w
still_canonical s t q found w same is planned =
    subst (λ (b : BookState). IsCanonicalIn b q w) (sym same) (subst (λ (f : Option TimedWalk). PlansWalk s q f) is planned)

-- the walk of a plan, with the next stamp
pub planned_may_enter : (s : BookState) (q : Request) (w copy : TimedWalk) (id : RouteId) → All (λ (r : Live). r.id.stamp ≤ s.stamp) s.routes → IsCanonicalIn s q w → copy ≡ w → id.stamp ≡ s.stamp + 1
    → MayEnter s.routes (length s.grid.cells) id copy
planned_may_enter s q w copy id stamps is same next = subst (λ (v : TimedWalk). MayEnter s.routes (length s.grid.cells) id v) (sym same) (record {
  inside = walk_inside s.grid s.horizon q w is.least.walk_of;
  free = is.least.free;
  new_id = All-weaker (λ (r : Live). r.id.stamp ≤ s.stamp) (λ r. r.id ≢ id) (λ r below one. let stamp : r.id.stamp ≡ id.stamp = ap (λ (i : RouteId). i.stamp) one in omega arith) s.routes stamps;
})

abbrev pub with_stamp : BookState → List Live → ℕ → BookState
with_stamp s routes n = record s { routes = routes; stamp = n }

pub commit_of_entering : (old new : BookState) (caller : ℕ) (q : Request) (id : RouteId) (era : ℕ) (w copy : TimedWalk) → IsCanonicalIn old q w → copy ≡ w
    → id ≡ record { stamp = old.stamp + 1; caller = caller } → HasEntered old id copy new → era ≡ new.era → IsCommit old caller q id era q w new
commit_of_entering old new caller q id era w copy is same id_is has era_is =
    let next : id.stamp ≡ old.stamp + 1 = ap (λ (i : RouteId). i.stamp) id_is in
    let last : max old.stamp id.stamp ≡ old.stamp + 1 = omega arith in
    record {
      id_is = id_is;
      in_era = era_is ∙ ap (λ (s : BookState). s.era) has.rest_is;
      request_is = refl;
      walk_is = is;
      routes_are = subst (λ (v : TimedWalk). IsPermutation new.routes (record { id = id; walk = v } ∷ old.routes)) same has.routes_are;
      rest_is = has.rest_is ∙ ap (λ (n : ℕ). with_stamp old new.routes n) last;
    }
