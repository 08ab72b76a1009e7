-- What a book answers to a request and to a cancel, and what it is afterwards.
use Rattle.std.specs.Prelude.{◌≡◌, ℕ, ◌+◌, List, ◌∷◌, IsPermutation, filter}
use Rattle.std.proofs.Common.{not}
use Rattle.fleet_base.specs.declared.request.RouteId.{RouteId}
use Rattle.fleet_base.specs.declared.request.Request.{Request}
use Rattle.fleet_base.specs.declared.request.Entry.{Entry}
use Rattle.fleet_base.specs.declared.request.Entry.TheVariants.{Commit, Cancel, NoRoute}
use Rattle.fleet_base.specs.declared.request.Live.{Live}
use Rattle.fleet_base.specs.TimedWalk.{TimedWalk}
use Rattle.fleet_base.specs.Planned.{IsLeast, NoneFree}
use Rattle.fleet_base.specs.History.{same_id, IsLive}
use Rattle.fleet_base.specs.Traffic.{traffic_of}
use Rattle.fleet_base.specs.Canonical.{IsCanonical}
use Rattle.plain_book.specs.BookState.{BookState}

-- the canonical walk of the request among the routes, in whichever order they stand
pub record IsCanonicalIn (s : BookState) (q : Request) (w : TimedWalk) : Type 0 where
  pub canonical : (book : List Live) → IsPermutation book s.routes → IsCanonical s.grid s.horizon (traffic_of book) q w
  pub least : IsLeast s.grid s.horizon q s.routes w

-- the next stamp, the book's era and the canonical walk, which is live afterwards
pub record IsCommit (old : BookState) (caller : ℕ) (q : Request) (id : RouteId) (era : ℕ) (asked : Request) (w : TimedWalk) (new : BookState) : Type 0 where
  pub id_is : id ≡ record { stamp = old.stamp + 1; caller = caller }
  pub in_era : era ≡ old.era
  pub request_is : asked ≡ q
  pub walk_is : IsCanonicalIn old q w
  pub routes_are : IsPermutation new.routes (record { id = id; walk = w } ∷ old.routes)
  pub rest_is : new ≡ record old { routes = new.routes; stamp = old.stamp + 1 }

-- the next stamp and the book's era, where no walk of the request is free
pub record IsRefusal (old : BookState) (caller : ℕ) (q : Request) (stamp c era : ℕ) (asked : Request) (new : BookState) : Type 0 where
  pub stamp_is : stamp ≡ old.stamp + 1
  pub caller_is : c ≡ caller
  pub in_era : era ≡ old.era
  pub request_is : asked ≡ q
  pub none_free : NoneFree old.grid old.horizon q old.routes
  pub rest_is : new ≡ record old { stamp = old.stamp + 1 }

-- the answer to a caller's request: the book before it and after it
abbrev pub IsReplyTo : BookState → ℕ → Request → Entry → BookState → Type 0
IsReplyTo old caller q (Commit id era asked w) new = IsCommit old caller q id era asked w new
IsReplyTo old caller q (Cancel id era) new = ⊥
IsReplyTo old caller q (NoRoute stamp c era asked) new = IsRefusal old caller q stamp c era asked new

-- the cancel of a live route: that route alone is gone, and the era is one higher
pub record EndsRoute (old : BookState) (id : RouteId) (e : Entry) (new : BookState) : Type 0 where
  pub entry_is : e ≡ Cancel id old.era
  pub was_live : IsLive id old.routes
  pub routes_are : IsPermutation new.routes (filter (λ r. not (same_id r.id id)) old.routes)
  pub rest_is : new ≡ record old { routes = new.routes; era = old.era + 1 }
