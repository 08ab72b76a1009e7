-- The beginning of a search: nothing is seen but the start.
use Rattle.std.proofs.Common.{arith, subst, sym, ap, ◌∙◌, inl, inr, set}
use Rattle.std.proofs.lemmas.Option.{same_Some, none-some}
use Rattle.std.specs.Prelude.{◌≡◌, ℕ, zero, suc, ◌+◌, ◌<◌, ◌≤◌, ◌++◌, ◌∷◌, [], false, List, Option, Some, IsSome, slice_get, replicate}
use Rattle.fleet_base.specs.declared.grid.Cell.{Cell}
use Rattle.fleet_base.specs.declared.request.Record.{Record}
use Rattle.fleet_base.specs.declared.request.Request.{Request}
use Rattle.fleet_base.specs.Terrain.{Terrain}
use Rattle.fleet_base.specs.Reach.{Reached, begin}
use Rattle.calendars.specs.Places.{place_in}
use Rattle.calendars.specs.Records.{covers, InOrder}
use Rattle.calendars.specs.Assignments.{Assignment, Agrees, traffic_by}
use Rattle.safe_intervals.specs.declared.interval.Interval.{Interval}
use Rattle.safe_intervals.specs.Safe.{IsIn, IsSafeInterval, IsGapAt, NoneSafeAt}
use Rattle.static_distance.specs.Distance.{IsDistance, move}
use Rattle.static_distance.proofs.Ways.{way_open, distance_once, goal_distance}
use Rattle.sipp_search.specs.declared.states.Spot.{Spot}
use Rattle.sipp_search.specs.declared.states.State.{State}
use Rattle.sipp_search.specs.declared.states.Mark.TheVariants.{Unseen, Queued, Final}
use Rattle.sipp_search.specs.Marks.{spots_of, unseen, queued, final, offered}
use Rattle.sipp_search.specs.Arena.{IsOfArena, IsArena}
use Rattle.sipp_search.specs.Progress.{IsBound, AreSpots, IsUnderWay, StartIsSeen, IsQueuedWell}
use Rattle.sipp_search.specs.Running.{HasGrown}
use Rattle.sipp_search.proofs.Lists.{append_cases, stands_map}
use Rattle.sipp_search.proofs.Chains.{records_known}
use Rattle.sipp_search.proofs.Places.{since_gap}
use Rattle.sipp_search.proofs.Marking.{AreUnseen, offered_improves, offered_well, offered_seen}

-- static distances are such as a search needs
pub bound_of : (g : Terrain) (goal : Cell) → IsBound g goal
bound_of g goal = record {
  opens = λ c k is. way_open g is.way;
  zero_at_goal = λ opened. goal_distance g goal opened;
  once = λ c j k one two. distance_once g goal c j k one two;
  falls = λ side b c k opened beside is. record { left = k + 1; way = move side opened beside is.way; below = omega arith };
}

pub nothing_unseen : (states : List State) → states ≡ [] → AreUnseen states
nothing_unseen states none k s at = absurd (none-some s (rw none at at))

pub grown_unseen : (old new : List State) → AreUnseen old → HasGrown old new → AreUnseen new
grown_unseen old new before grows k s at =
    let there : slice_get (old ++ grows.fresh) k ≡ Some s = rw grows.grown at at in
    elim (append_cases old grows.fresh k s there) [ inl here ↦ before k s here | inr add ↦ grows.unseen add.0 s add.2 ]

pub unseen_not_final : (states : List State) → AreUnseen states → (i r : ℕ) (p : Spot) → slice_get states i ≡ Some (final p r) → ⊥
unseen_not_final states none i r p at = let bad : Final r ≡ Unseen = none i (final p r) at in cc

unseen_not_queued : (states : List State) → AreUnseen states → (i r : ℕ) (p : Spot) → slice_get states i ≡ Some (queued p r) → ⊥
unseen_not_queued states none i r p at = let bad : Queued r ≡ Unseen = none i (queued p r) at in cc

-- the spot from which a search begins
abbrev pub start_spot : Request → Interval → ℕ → ℕ → Spot
start_spot q i left place = record { cell = q.start; interval = i; left = left; place = place; older = 0 }

pub start_of_arena : (g : Terrain) (q : Request) (horizon : ℕ) (known : ℕ → Option (List Record)) (i : Interval) (left place : ℕ) → IsSome (known q.start.0)
    → ((records : List Record) → known q.start.0 ≡ Some records → IsSafeInterval records horizon i) → IsDistance g q.goal q.start left
    → ((records : List Record) (t : ℕ) → known q.start.0 ≡ Some records → IsIn t i → place_in t records ≡ place) → IsOfArena g q.goal horizon known (start_spot q i left place)
start_of_arena g q horizon known i left place is safe distance places =
    let there = records_known (known q.start.0) is in
    record { records = there.0; known_is = there.1; safe = safe there.0 there.1; distance = distance; place_is = λ t inside. places there.0 t there.1 inside }

module _ (g : Terrain) (q : Request) (horizon : ℕ) (a : Assignment) where
  -- where the start can't be left, nothing need be seen
  pub idle_way : (states : List State) (x : ℕ) → AreUnseen states → StartIsSeen g q horizon a states → IsUnderWay g q horizon a states 0 x
  idle_way states x none start = record {
    start = start;
    queued_well = λ i r p at. absurd (unseen_not_queued states none i r p at);
    final_well = λ i r p at. absurd (unseen_not_final states none i r p at);
    leads = λ i r p ne at. absurd (unseen_not_final states none i r p at);
  }

  pub start_too_far : (states : List State) (left : ℕ) → IsDistance g q.goal q.start left → horizon < q.depart + left → StartIsSeen g q horizon a states
  start_too_far states left is far k free within in_time =
      absurd (let low : left ≤ within.left = is.least within.left within.way in omega (arith, within.below))

  pub start_too_late : (states : List State) → horizon < q.depart → StartIsSeen g q horizon a states
  start_too_late states late k free within in_time = absurd (omega arith)

  pub start_taken : (states : List State) (known : ℕ → Option (List Record)) (records : List Record) → Agrees a known → known q.start.0 ≡ Some records
      → ¬ (covers records q.depart ≡ false) → StartIsSeen g q horizon a states
  start_taken states known records agrees is taken k free within in_time =
      absurd (taken (subst (λ (rs : List Record). covers rs q.depart ≡ false) (agrees q.start.0 records is) free))

  -- the start is taken at the departure where no safe interval, or a later one, comes after as many records
  pub gap_missed : (states : List State) (known : ℕ → Option (List Record)) (records : List Record) (place : ℕ) → Agrees a known → known q.start.0 ≡ Some records
      → NoneSafeAt records horizon place → place_in q.depart records ≡ place → q.depart ≤ horizon → StartIsSeen g q horizon a states
  gap_missed states known records place agrees is none place_is within = start_taken states known records agrees is (λ free. none q.depart within free place_is)

  pub gap_later : (states : List State) (known : ℕ → Option (List Record)) (records : List Record) (place : ℕ) (i : Interval) → Agrees a known → known q.start.0 ≡ Some records
      → InOrder records → IsGapAt records horizon place i → place_in q.depart records ≡ place → q.depart < i.from → StartIsSeen g q horizon a states
  gap_later states known records place i agrees is order gap place_is early =
      start_taken states known records agrees is (λ free. (let since : i.from ≤ q.depart = since_gap records horizon place i order gap q.depart free place_is in omega arith))

  -- the start is queued at the departure
  pub begun_way : (states : List State) (x j : ℕ) (s : State) → IsBound g q.goal → AreUnseen states → AreSpots g q horizon a (spots_of states) → slice_get states j ≡ Some s
      → s.spot.cell ≡ q.start → IsIn q.depart s.spot.interval → q.depart + s.spot.left ≤ horizon → IsUnderWay g q horizon a (set states j (offered s q.depart)) 0 x
  begun_way states x j s bound none spots at cell inside in_time = record {
    start = λ k free within le. offered_seen states j q.depart s at q.start q.depart cell inside (omega arith) (λ r mark. (let bad : Final r ≡ Unseen = sym mark ∙ none j s at in absurd (cc)));
    queued_well = offered_well states j q.depart s at g q horizon a 0 (λ i r p h. absurd (unseen_not_queued states none i r p h)) well;
    final_well = λ i r p h. absurd (unseen_not_final states none i r p ((offered_improves states j q.depart s at).no_more i r p h));
    leads = λ i r p ne h. absurd (unseen_not_final states none i r p ((offered_improves states j q.depart s at).no_more i r p h));
  }
    where
      stands : slice_get (spots_of states) j ≡ Some s.spot
      stands = stands_map (λ (z : State). z.spot) states j s at

      well : IsQueuedWell g q horizon a 0 s.spot q.depart
      well =
          let distance : IsDistance g q.goal q.start s.spot.left = subst (λ (z : Cell). IsDistance g q.goal z s.spot.left) cell (spots.distance j s.spot stands) in
          let safe : IsSafeInterval (a q.start.0) horizon s.spot.interval = subst (λ (z : Cell). IsSafeInterval (a z.0) horizon s.spot.interval) cell (spots.safe j s.spot stands) in
          let here : Reached g (traffic_by a) q.start q.depart q.start q.depart = begin (bound.opens q.start s.spot.left distance) (safe.free q.depart inside) in
          record {
            arrived = record { reached = subst (λ (z : Cell). Reached g (traffic_by a) q.start q.depart z q.depart) (sym cell) here; inside = inside };
            after = omega arith;
            in_time = in_time;
          }

-- Nothing is entered.
zeros : (n c k : ℕ) → slice_get (replicate n 0) c ≡ Some k → k ≡ 0
zeros zero c k at = absurd (none-some k at)
zeros (suc n) zero k at = sym (same_Some 0 k at)
zeros (suc n) (suc c) k at = zeros n c k at

pub empty_arena_right : (g : Terrain) (goal : Cell) (horizon : ℕ) (known : ℕ → Option (List Record)) (n : ℕ) (spots : List Spot) (newest : List ℕ) → spots ≡ [] → newest ≡ replicate n 0
    → IsArena g goal horizon known spots newest
empty_arena_right g goal horizon known n spots newest none empty = record {
  each = λ j p at. absurd (none-some p (rw none at at));
  once = λ i j p r at at' cells intervals. absurd (none-some p (rw none at at));
  chained = record {
    last = λ c k at. record {
      none_later = λ i p low here cell. absurd (none-some p (rw none at here));
      stands = λ i is. (let nothing : k ≡ 0 = zeros n c.0 k (rw empty at at) in absurd (omega arith));
    };
    before = λ j p at. absurd (none-some p (rw none at at));
  };
}

-- the first state of all
pub first_state : (states states' : List State) (s : State) → states ≡ [] → states' ≡ states ++ s ∷ [] → states' ≡ s ∷ []
first_state states states' s none is = rw none at is

pub one_unseen : (states : List State) (p : Spot) → states ≡ unseen p ∷ [] → AreUnseen states
one_unseen states p is k s at = alone k (rw is at at)
  where
    alone : (i : ℕ) → slice_get (unseen p ∷ []) i ≡ Some s → s.mark ≡ Unseen
    alone zero here = sym (ap (λ (z : State). z.mark) (same_Some (unseen p) s here))
    alone (suc i) here = absurd (none-some s here)

pub no_spot : (states : List State) → states ≡ [] → (i : ℕ) (r : Spot) → slice_get (spots_of states) i ≡ Some r → ⊥
no_spot states none i r at = none-some r (rw none at at)
