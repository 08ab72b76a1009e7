-- A book that takes in its routes one after another.
use Rattle.std.proofs.Common.{◌≡◌, ◌≢◌, ℕ, ◌<◌, ◌≤◌, List, [], ◌∷◌, ◌++◌, length, refl, sym, ap, subst, ◌∙◌, arith, max, get_or, length-append}
use Rattle.std.proofs.Common.{inl}
use Rattle.std.proofs.lemmas.List.Elements.{All-weaker}
use Rattle.std.specs.Prelude.{All, AllPairs}
use Rattle.std.proofs.lemmas.List.{get_or_append_left}
use Rattle.std.proofs.lemmas.List.Sorted.{All-permutation, IsPermutation-sym, IsPermutation-trans, IsPermutation-cons, IsPermutation-to_front}
use Rattle.fleet_base.specs.declared.request.Live.{Live}
use Rattle.fleet_base.specs.Terrain.{Terrain}
use Rattle.fleet_base.specs.TimedWalk.{Meet}
use Rattle.fleet_base.specs.Planned.{IsClearOf}
use Rattle.fleet_base.specs.Order.{IsAmong}
use Rattle.fleet_base.proofs.WalkLemmas.{Meet-sym}
use Rattle.plain_book.specs.BookState.{BookState}
use Rattle.plain_book.specs.Resuming.{IsWalkOn, AreLive, HasRoutes}
use Rattle.plain_book.specs.Entering.{MayEnter, HasEntered}
use Rattle.plain_book.proofs.Members.{among_all, among_right}
use Rattle.plain_book.proofs.Keeping.{walk_inside}
use Rattle.plain_book.proofs.Entering.{with_stamp}

at_middle : {X : Type 0} (front : List X) (x : X) (back : List X) (d : X) → get_or (front ++ x ∷ back) (length front) d ≡ x
at_middle [] x back d = refl
at_middle (y ∷ front) x back d = at_middle front x back d

-- what holds of each pair holds of each one before an element and that one
before_middle : {X : Type 0} (R : X → X → Type 0) (all front : List X) (x : X) (back : List X) → front ++ x ∷ back ≡ all → AllPairs R all → All (λ y. R y x) front
before_middle R all front x back same pairs k d below =
    let long : length front < length (front ++ x ∷ back) = omega (arith, length-append front (x ∷ back)) in
    let pair : R (get_or (front ++ x ∷ back) k d) (get_or (front ++ x ∷ back) (length front) d) =
    subst (λ l. AllPairs R l) (sym same) pairs k (length front) d below long in
    subst (λ y. R y x) (get_or_append_left front (x ∷ back) d k below) (subst (λ y. R (get_or (front ++ x ∷ back) k d) y) (at_middle front x back d) pair)

module _ (g : Terrain) (horizon stamp era : ℕ) (routes first rest : List Live) (live : Live) (book : BookState) (are : AreLive g horizon routes stamp) (parts : first ++ live ∷ rest ≡ routes)
    (has : HasRoutes book g horizon first stamp era) where
  is_among : IsAmong live routes
  is_among = subst (λ (l : List Live). IsAmong live l) parts (among_right live first (live ∷ rest) (inl refl))

  in_book : (P : Live → Type 0) → All P first → All P book.routes
  in_book P all = All-permutation P first book.routes (IsPermutation-sym book.routes first has.routes_are) all

  pub next_may_enter : MayEnter book.routes (length book.grid.cells) live.id live.walk
  next_may_enter =
      let on : IsWalkOn g horizon live.walk = among_all (λ (r : Live). IsWalkOn g horizon r.walk) live routes are.walks is_among in
      record {
        inside = subst (λ (s : BookState). All (λ c. c.0 < length s.grid.cells) live.walk.cells) (sym has.rest_is) (walk_inside g horizon on.request live.walk on.walk_of);
        free = record {
          clear = in_book (IsClearOf live.walk) (All-weaker (λ (r : Live). ¬ (Meet r.walk live.walk)) (IsClearOf live.walk) (λ r apart met. apart (Meet-sym live.walk r.walk met)) first
              (before_middle (λ (r s : Live). ¬ (Meet r.walk s.walk)) routes first live rest parts are.apart));
        };
        new_id = in_book (λ r. r.id ≢ live.id) (before_middle (λ (r s : Live). r.id ≢ s.id) routes first live rest parts are.ids);
      }

  pub next_entered : (new : BookState) → HasEntered book live.id live.walk new → HasRoutes new g horizon (first ++ live ∷ []) stamp era
  next_entered new entered =
      let low : live.id.stamp ≤ stamp = among_all (λ (r : Live). r.id.stamp ≤ stamp) live routes are.stamps is_among in
      let last : max stamp live.id.stamp ≡ stamp = omega arith in
      record {
        routes_are = IsPermutation-trans new.routes (live ∷ book.routes) (first ++ live ∷ []) entered.routes_are
            (IsPermutation-trans (live ∷ book.routes) (live ∷ first) (first ++ live ∷ []) (IsPermutation-cons live book.routes first has.routes_are)
            (IsPermutation-sym (first ++ live ∷ []) (live ∷ first) (IsPermutation-to_front first live)));
        rest_is = entered.rest_is
            ∙ (ap (λ (s : BookState). with_stamp s new.routes (max s.stamp live.id.stamp)) has.rest_is
            ∙ ap (λ (n : ℕ). with_stamp (record { grid = g; horizon = horizon; routes = []; stamp = n; era = era }) new.routes n) last);
      }
