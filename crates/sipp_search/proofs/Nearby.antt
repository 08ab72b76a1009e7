-- A state of the last key that no move was seen to reach is reached from a queued one of that key, if at all: each state on the
-- way between them has that key too, and a final one has led on.
use Rattle.std.proofs.Common.{arith, subst, sym, ap, ◌∙◌, inl, inr}
use Rattle.std.proofs.lemmas.Bool.{cases_lt}
use Rattle.std.proofs.lemmas.Option.{slice_get_within, slice_get-get_or, same_Some}
use Rattle.std.specs.Prelude.{◌≡◌, ◌≢◌, ℕ, ◌+◌, ◌++◌, ◌∷◌, [], ◌<◌, ◌≤◌, ◌⊎◌, false, List, Option, Some, length, slice_get, slice_index_or}
use Rattle.fleet_base.specs.declared.grid.Cell.{Cell}
use Rattle.fleet_base.specs.declared.grid.Side.{Side}
use Rattle.fleet_base.specs.declared.request.Record.{Record}
use Rattle.fleet_base.specs.declared.request.Request.{Request}
use Rattle.fleet_base.specs.Terrain.{Terrain, IsBeside}
use Rattle.fleet_base.specs.Reach.{begin, step}
use Rattle.calendars.specs.Records.{covers}
use Rattle.calendars.specs.Assignments.{Assignment, Agrees}
use Rattle.static_distance.specs.declared.place.Place.{Place}
use Rattle.static_distance.specs.Distance.{IsDistance}
use Rattle.static_distance.specs.Levels.{IsPlaceOf, apart}
use Rattle.static_distance.proofs.Places.{low_apart}
use Rattle.static_distance.proofs.Ways.{way_open}
use Rattle.sipp_search.specs.declared.states.Spot.{Spot}
use Rattle.sipp_search.specs.declared.states.State.{State}
use Rattle.sipp_search.specs.declared.states.Arena.{Arena}
use Rattle.sipp_search.specs.declared.ties.Ties.{Ties}
use Rattle.sipp_search.specs.declared.ties.Waiting.{Waiting}
use Rattle.sipp_search.specs.Marks.{spots_of, queued, key_by_mark, key_of, keys_of}
use Rattle.sipp_search.specs.Progress.{IsBound, MayMove, IsWithin, HasSeen, HasFinal, AreSpots, IsUnderWay}
use Rattle.sipp_search.specs.Running.{IsSound}
use Rattle.sipp_search.specs.Ties.{IsPaused, IsUnseenAt, HasNear, AreInGrid, IsListed, IsWaiting, AreWaiting, ListsWaiting, AreQueued}
use Rattle.sipp_search.proofs.Lists.{stands_map, stands_left, append_cases, slice_get-append_right}
use Rattle.sipp_search.proofs.Moves.{IsReached, reached_free, reached_open, move_of_step, falls_back}
use Rattle.sipp_search.proofs.Closing.{final_waits}
use Rattle.sipp_search.proofs.Paused.{spot_seen, seen_of, final_below, leads, near_by, spots}

-- a queued state of that key whose cell is near enough for c to be reached from it by t
pub record HasNearState (g : Terrain) (states : List State) (key : ℕ) (c : Cell) (t : ℕ) : Type 0 where
  pub place : ℕ
  pub spot : Spot
  pub arrival : ℕ
  pub stands : slice_get states place ≡ Some (queued spot arrival)
  pub key_is : arrival + spot.left ≡ key
  pub near : (from : Place) → IsPlaceOf g spot.cell from → arrival + apart g from c ≤ t

-- All states whose keys are below the cursor are final.
module _ (g : Terrain) (q : Request) (horizon : ℕ) (a : Assignment) (bound : IsBound g q.goal) (states : List State) (cursor : ℕ)
    (spots : AreSpots g q horizon a (spots_of states)) (way : (x : ℕ) → IsUnderWay g q horizon a states cursor x) (in_time : cursor ≤ horizon) where
  -- a move makes what is near no farther than the time that it takes
  near_on : (side : Side) (c d : Cell) (t : ℕ) → IsBeside g side c d → HasNearState g states cursor c t → HasNearState g states cursor d (t + 1)
  near_on side c d t beside has = record {
    place = has.place;
    spot = has.spot;
    arrival = has.arrival;
    stands = has.stands;
    key_is = has.key_is;
    near = λ from of. omega (arith, has.near from of, low_apart g from side c d beside);
  }

  -- a queued state that was seen by then is near, where its key is the cursor
  near_here : (c : Cell) (t k : ℕ) (seen : HasSeen states c t) → slice_get states seen.place ≡ Some (queued seen.spot seen.arrival) → IsWithin g q.goal c k → t + k ≤ cursor
      → HasNearState g states cursor c t
  near_here c t k seen at within low =
      let mine : IsDistance g q.goal c seen.spot.left =
      subst (λ (z : Cell). IsDistance g q.goal z seen.spot.left) seen.cell_is (spots.distance seen.place seen.spot (spot_seen states c t seen)) in
      let less : seen.spot.left ≤ within.left = mine.least within.left within.way in
      let after : cursor ≤ seen.arrival + seen.spot.left = ((way 0).queued_well seen.place seen.arrival seen.spot at).after in
      record {
        place = seen.place;
        spot = seen.spot;
        arrival = seen.arrival;
        stands = at;
        key_is = omega (arith, within.below, seen.early);
        near = λ from of. (let of' : IsPlaceOf g c from = subst (λ (z : Cell). IsPlaceOf g z from) seen.cell_is of in omega (arith, of'.0, of'.1, seen.early));
      }

  -- what is reached by the cursor was seen, or a queued state is near
  pub seen_or_nearby : {c : Cell} {t : ℕ} (k : ℕ) → IsReached g q a c t → IsWithin g q.goal c k → t + k ≤ cursor → HasSeen states c t ⊎ HasNearState g states cursor c t
  seen_or_nearby k (begin opened untaken) within low = inl ((way 0).start k untaken within (omega arith))
  seen_or_nearby k (step {c} {d} {t} before moves opened clear) within low = elim moves [
    | inl same ↦
        let here : IsWithin g q.goal c k = subst (λ (z : Cell). IsWithin g q.goal z k) same within in
        let had : HasFinal states c t = final_below g q horizon a bound states cursor spots way in_time c t k before here (omega arith) in
        let free : covers (a c.0) (t + 1) ≡ false = subst (λ (z : Cell). covers (a z.0) (t + 1) ≡ false) same clear.untaken in
        let later : HasFinal states c (t + 1) =
        final_waits g q horizon a bound states cursor 0 spots (way 0) (leads g q horizon a bound states cursor spots way in_time) c t had (omega arith) (reached_free g q a before) free in
        inl (subst (λ (z : Cell). HasSeen states z (t + 1)) (sym same) (seen_of states c (t + 1) later))
    | inr beside ↦
        let m : MayMove g a c d t = move_of_step g q a c d t beside.0 beside.1 opened clear in
        let here : IsWithin g q.goal c (k + 1) = falls_back g q a k m (reached_open g q a before) within in
        elim (seen_or_nearby (k + 1) before here (omega arith)) [
          | inr near ↦ inr (near_on beside.0 c d t beside.1 near)
          | inl seen ↦ elim seen.stands [
            | inl at ↦ inr (near_on beside.0 c d t beside.1 (near_here c t (k + 1) seen at here (omega arith)))
            | inr at ↦
                let m' : MayMove g a seen.spot.cell d t = subst (λ (z : Cell). MayMove g a z d t) (sym seen.cell_is) m in
                inl (leads g q horizon a bound states cursor spots way in_time seen.place seen.arrival seen.spot at t k d seen.early seen.holds.1 m' within (omega arith))
          ]
        ]
  ]

-- a cell that no move was seen to reach isn't reached, where no queued state of the last key is near
pub paused_far : (g : Terrain) (q : Request) (horizon : ℕ) (known : ℕ → Option (List Record)) (size : ℕ) (arena : Arena) (bound : IsBound g q.goal)
    → IsPaused g q horizon known size arena → (a : Assignment) → Agrees a known → (waiting : List Waiting) (c : Cell) (place : Place) (u left : ℕ)
    → AreWaiting g arena.states.items arena.queue.floor waiting → IsPlaceOf g c place → IsUnseenAt g q arena.states.items arena.queue.floor c u left
    → (HasNear waiting place u → ⊥) → IsReached g q a c u → ⊥
paused_far g q horizon known size arena bound paused a agrees waiting c place u left are of unseen none reached =
    elim (seen_or_nearby g q horizon a bound arena.states.items arena.queue.floor (spots g q horizon known size arena bound paused a agrees) (λ x. paused.way a x agrees) paused.in_time left reached
    (near_by g q.goal c left unseen.distance) (omega (arith, unseen.key))) [
      | inl seen ↦ unseen.unseen seen
      | inr near ↦
          let found = are.listed near.place near.arrival near.spot near.stands near.key_is in
          let less = near.near found.1.place found.3 in
          none (found.0, found.1, found.2, omega (arith, less, found.4, of.0, of.1))
    ]

pub state_there : (xs : List State) (i : ℕ) (s d : State) → s ≡ slice_index_or xs i d → i < length xs → slice_get xs i ≡ Some s
state_there xs i s d is less = slice_get-get_or xs i d less ∙ ap (λ (z : State). Some z) (sym is)

-- the cell of a state is one of the grid
pub state_inside : (g : Terrain) (q : Request) (horizon : ℕ) (known : ℕ → Option (List Record)) (size : ℕ) (arena : Arena) (i : ℕ) (s : State) → IsSound g q horizon known size arena
    → slice_get arena.states.items i ≡ Some s → s.spot.cell.0 < length g.cells
state_inside g q horizon known size arena i s sound at =
    let of = sound.arranged.each i s.spot (stands_map (λ (z : State). z.spot) arena.states.items i s at) in
    slice_get_within g.cells s.spot.cell.0 _ (way_open g of.distance.way)

-- more distances are known
pub waiting_counted : (g : Terrain) (old new : Arena) (ties : Ties) → ListsWaiting g old.states.items old.queue.floor ties → new.states ≡ old.states → new.queue ≡ old.queue
    → ListsWaiting g new.states.items new.queue.floor ties
waiting_counted g old new ties lists states queue = rw (states, queue) lists

-- the list stays as it was
pub waiting_kept : (g : Terrain) (states : List State) (floor : ℕ) (old new : Ties) → ListsWaiting g states floor old → new.waiting ≡ old.waiting → new.few ≡ old.few
    → ListsWaiting g states floor new
waiting_kept g states floor old new lists waiting few all = rw waiting (lists (sym few ∙ all))

only_one : (one other : Waiting) (x : ℕ) → slice_get (one ∷ []) x ≡ Some other → one ≡ other
only_one one other x at = let e : x ≡ 0 = omega (arith, slice_get_within (one ∷ []) x other at) in same_Some one other (rw e at at)

-- The list, while the ids are gone through.
module _ (g : Terrain) (states : List State) (floor : ℕ) (ids : List ℕ) where
  -- those of the first n ids that wait are in the list
  pub record AreListed (n : ℕ) (waiting : List Waiting) : Type 0 where
    pub in_grid : AreInGrid waiting
    pub only : AreQueued g states floor waiting
    pub listed : (j i r : ℕ) (p : Spot) → j < n → slice_get ids j ≡ Some i → slice_get states i ≡ Some (queued p r) → r + p.left ≡ floor → IsListed g waiting p.cell r

  pub none_listed : (waiting : List Waiting) → waiting ≡ [] → AreListed 0 waiting
  none_listed waiting none = record { in_grid = λ j one at. absurd (nobody j one at); only = λ j one at. absurd (nobody j one at); listed = λ j i r p before. absurd (omega (arith, before)) }
    where
      nobody : (j : ℕ) (one : Waiting) → slice_get waiting j ≡ Some one → ⊥
      nobody j one at = omega (arith, slice_get_within waiting j one at, ap length none)

  pub all_listed : (n : ℕ) (keys : List (Option ℕ)) (waiting : List Waiting) → length ids ≤ n → keys ≡ keys_of states
      → ((id : ℕ) → slice_get keys id ≡ Some (Some floor) → (place : ℕ) × (slice_get ids place ≡ Some id)) → AreListed n waiting → AreWaiting g states floor waiting
  all_listed n keys waiting all paired there are = record {
    in_grid = are.in_grid;
    listed = λ i r p at key.
        (let has : slice_get keys i ≡ Some (Some floor) = rw paired (stands_map key_of states i (queued p r) at ∙ ap (λ (k : ℕ). Some (Some k)) key) in
        let found = there i has in
        are.listed found.0 i r p (omega (arith, all, slice_get_within ids found.0 i found.1)) found.1 at key);
  }

  module _ (n x : ℕ) (waiting : List Waiting) (are : AreListed n waiting) (place_is : slice_get ids n ≡ Some x) where
    pub one_listed : (one : Waiting) → IsWaiting g states floor x one → AreListed (n + 1) (waiting ++ one ∷ [])
    one_listed one of = record {
      in_grid = λ j other at'. elim (append_cases waiting (one ∷ []) j other at') [
        | inl before ↦ are.in_grid j other before
        | inr last ↦ subst (λ (z : Waiting). (z.place.column < 2048) × (z.place.row < 2048)) (only_one one other last.0 last.2) (of.4, of.5)
      ];
      only = λ j other at'. elim (append_cases waiting (one ∷ []) j other at') [
        | inl before ↦ are.only j other before
        | inr last ↦ subst (λ (z : Waiting). (i : ℕ) × (p : Spot) × (slice_get states i ≡ Some (queued p z.arrival)) × (z.arrival + p.left ≡ floor) × IsPlaceOf g p.cell z.place)
            (only_one one other last.0 last.2) (x, of.0, of.1, of.2, of.3)
      ];
      listed = λ j i r p less at_id at' key. elim (cases_lt j n) [
        | inl before ↦
            let old = are.listed j i r p before at_id at' key in
            (old.0, old.1, stands_left waiting (one ∷ []) old.0 old.1 old.2, old.3, old.4)
        | inr here ↦
            let last : j ≡ n = omega (arith, less, here) in
            let e : i ≡ x = same_Some i x (sym (rw last at at_id) ∙ place_is) in
            let same : queued p r ≡ queued of.0 one.arrival = same_Some (queued p r) (queued of.0 one.arrival) (sym (rw e at at') ∙ of.1) in
            let times : r + 0 ≡ one.arrival + 0 = same_Some (r + 0) (one.arrival + 0) (ap (λ (z : State). key_by_mark z.mark 0) same) in
            let cell : of.0.cell ≡ p.cell = sym (ap (λ (z : State). z.spot.cell) same) in
            (length waiting + 0, one, slice_get-append_right waiting (one ∷ []) 0, subst (λ (z : Cell). IsPlaceOf g z one.place) cell of.3, omega (arith, times))
      ];
    }

    pub same_listed : ((p : Spot) (r : ℕ) → slice_get states x ≡ Some (queued p r) → r + p.left ≢ floor) → AreListed (n + 1) waiting
    same_listed none = record {
      in_grid = are.in_grid;
      only = are.only;
      listed = λ j i r p less at_id at' key. elim (cases_lt j n) [
        | inl before ↦ are.listed j i r p before at_id at' key
        | inr here ↦
            let last : j ≡ n = omega (arith, less, here) in
            let e : i ≡ x = same_Some i x (sym (rw last at at_id) ∙ place_is) in
            absurd (none p r (rw e at at') key)
      ];
    }
