-- What the states tell once the goal is taken, while others of the same key are still queued or not yet seen.
use Rattle.std.proofs.Common.{arith, subst, sym, ap, ◌∙◌, refl, inl, inr, set}
use Rattle.std.proofs.lemmas.List.{length-set}
use Rattle.std.proofs.lemmas.Bool.{cases_lt, false≢true}
use Rattle.std.specs.Bool.{OnTrue}
use Rattle.std.proofs.lemmas.Option.{same_Some}
use Rattle.std.specs.Prelude.{Bool, true, not, ◌≡◌, ℕ, ◌+◌, ◌*◌, ◌<◌, ◌≤◌, ◌⊎◌, false, List, Option, Some, None, is_some, IsSome, IfSome, IfNone, length, slice_get}
use Rattle.fleet_base.specs.declared.grid.Cell.{Cell}
use Rattle.fleet_base.specs.declared.grid.Side.{Side}
use Rattle.fleet_base.specs.declared.request.Record.{Record}
use Rattle.fleet_base.specs.declared.request.Request.{Request}
use Rattle.fleet_base.specs.Terrain.{Terrain, IsBeside}
use Rattle.fleet_base.specs.Reach.{begin, step}
use Rattle.fleet_base.specs.Canonical.{IsEarliest, CanPrecede}
use Rattle.fleet_base.proofs.TrafficLemmas.{same_cells}
use Rattle.fleet_base.proofs.ReachLemmas.{walk_from_steps, steps_from_walk}
use Rattle.calendars.specs.Records.{covers, is_exchange}
use Rattle.calendars.specs.Assignments.{Assignment, Agrees, traffic_by}
use Rattle.safe_intervals.specs.declared.interval.Interval.{Interval}
use Rattle.safe_intervals.specs.Safe.{IsIn, IsSafeInterval}
use Rattle.safe_intervals.proofs.SafeLemmas.{in_one}
use Rattle.static_distance.specs.Distance.{IsWay, IsDistance, there, move}
use Rattle.sipp_search.specs.declared.states.Spot.{Spot}
use Rattle.sipp_search.specs.declared.states.State.{State}
use Rattle.sipp_search.specs.declared.states.Arena.{Arena}
use Rattle.sipp_search.specs.declared.ties.Ties.{Ties}
use Rattle.sipp_search.specs.Marks.{spots_of, queued, final, final_count}
use Rattle.sipp_search.specs.Answer.{AreListsOf, interval_count}
use Rattle.sipp_search.specs.Arena.{IsArena}
use Rattle.sipp_search.specs.Progress.{IsBound, IsWithin, HasSeen, HasFinal, AreSpots, IsUnderWay}
use Rattle.sipp_search.specs.Running.{IsReady, IsSound, KeepsKnown, EndsAt}
use Rattle.sipp_search.specs.Back.{NoneFrom}
use Rattle.sipp_search.specs.Ties.{IsFirstArrival, IsPaused, IsUnseenAt, AreTies, IsSideBack, IsStepBack}
use Rattle.sipp_search.proofs.Lists.{stands_map, set_cases}
use Rattle.sipp_search.proofs.Moves.{IsReached, reached_free, reached_open, wait_until}
use Rattle.sipp_search.proofs.Closing.{EachLeads, complete, taken_least, final_waits}
use Rattle.sipp_search.proofs.Ending.{lead_each, states_within, lists_before, interval_grows}
use Rattle.sipp_search.proofs.Backward.{back_beside, last_step, earliest_of}
use Rattle.sipp_search.proofs.Moving.{agrees_before, some_of}
use Rattle.sipp_search.proofs.Blocks.{spots_right}
use Rattle.sipp_search.proofs.Chains.{sound_known, same_interval}

-- what follows where a truth value is false
pub on_not : (b : Bool) (P : Type 0) → ((b ≡ true → ⊥) → P) → OnTrue (not b) P
on_not true P follows = tt
on_not false P follows = follows (λ e. false≢true e)

-- what follows where a truth value is true
pub on_true : (b : Bool) (P : Type 0) → (b ≡ true → P) → OnTrue b P
on_true true P follows = follows refl
on_true false P follows = tt

-- what holds of a value, where there is one
pub some_holds : {X : Type 0} (o : Option X) (P : X → Type 0) → true ≡ is_some o → IfSome o P → (x : X) × P x
some_holds (Some x) P is holds = (x, holds)
some_holds None P is holds = absurd (false≢true (sym is))

-- The moves from the start.
module _ (g : Terrain) (q : Request) (a : Assignment) where
  pub way_from_start : {c : Cell} {t : ℕ} → IsReached g q a c t → (k : ℕ) × IsWay g q.start c k × (q.depart + k ≤ t)
  way_from_start (begin opened untaken) = (0, there opened, omega arith)
  way_from_start (step {c} {d} {t} before moves opened clear) =
      let way = way_from_start before in
      elim moves [
        | inl same ↦ (way.0, subst (λ (z : Cell). IsWay g q.start z way.0) (sym same) way.1, omega (arith, way.2))
        | inr beside ↦
            let back = back_beside g q a beside.0 c d beside.1 in
            (way.0 + 1, move back.0 opened back.1 way.1, omega (arith, way.2))
      ]

-- a cell that is reached with a final arrival was seen
pub seen_of : (states : List State) (c : Cell) (t : ℕ) → HasFinal states c t → HasSeen states c t
seen_of states c t has = record {
  place = has.place;
  spot = has.spot;
  arrival = has.arrival;
  stands = inr has.stands;
  cell_is = has.cell_is;
  holds = has.holds;
  early = has.early;
}

pub spot_seen : (states : List State) (c : Cell) (t : ℕ) (seen : HasSeen states c t) → slice_get (spots_of states) seen.place ≡ Some seen.spot
spot_seen states c t seen = elim seen.stands [
  | inl at ↦ stands_map (λ (z : State). z.spot) states seen.place (queued seen.spot seen.arrival) at
  | inr at ↦ stands_map (λ (z : State). z.spot) states seen.place (final seen.spot seen.arrival) at
]

-- What the state of a cell that holds a time tells of it.
module _ (states : List State) (c : Cell) (t j : ℕ) (s : State) (at : slice_get states j ≡ Some s) (cell : s.spot.cell ≡ c) (inside : IsIn t s.spot.interval) where
  seen_here : (r : ℕ) → (s ≡ queued s.spot r) ⊎ (s ≡ final s.spot r) → r ≤ t → HasSeen states c t
  seen_here r marks early = record {
    place = j;
    spot = s.spot;
    arrival = r;
    stands = elim marks [ inl is ↦ inl (at ∙ ap (λ (z : State). Some z) is) | inr is ↦ inr (at ∙ ap (λ (z : State). Some z) is) ];
    cell_is = cell;
    holds = inside;
    early = early;
  }

  pub seen_some : (o : Option ℕ) → IfSome o (λ r. ((s ≡ queued s.spot r) ⊎ (s ≡ final s.spot r)) × (r ≤ t)) → IfSome o (λ r. (seen : HasSeen states c t) × (seen.arrival ≡ r))
  unfolding seen_here
  seen_some (Some r) told = (seen_here r told.0 told.1, refl)
  seen_some None told = tt

  late_here : (g : Terrain) (q : Request) (horizon : ℕ) (known : ℕ → Option (List Record)) (newest : List ℕ) → IsArena g q.goal horizon known (spots_of states) newest
      → ((r : ℕ) → s ≡ queued s.spot r → t < r) → ((r : ℕ) → s ≡ final s.spot r → t < r) → HasSeen states c t → ⊥
  late_here g q horizon known newest arena not_queued not_final seen =
      let here : slice_get (spots_of states) j ≡ Some s.spot = stands_map (λ (z : State). z.spot) states j s at in
      let there = spot_seen states c t seen in
      let interval : seen.spot.interval ≡ s.spot.interval =
      same_interval g q.goal horizon known seen.spot s.spot t (arena.each seen.place seen.spot there) (arena.each j s.spot here) (seen.cell_is ∙ sym cell) seen.holds inside in
      let place : seen.place ≡ j = arena.once seen.place j seen.spot s.spot there here (seen.cell_is ∙ sym cell) interval in
      elim seen.stands [
        | inl at' ↦
            let same : queued seen.spot seen.arrival ≡ s = same_Some (queued seen.spot seen.arrival) s (sym (rw place at at') ∙ at) in
            let less : t < seen.arrival = not_queued seen.arrival (sym same ∙ ap (λ (z : State). queued z.spot seen.arrival) same) in
            omega (arith, seen.early)
        | inr at' ↦
            let same : final seen.spot seen.arrival ≡ s = same_Some (final seen.spot seen.arrival) s (sym (rw place at at') ∙ at) in
            let less : t < seen.arrival = not_final seen.arrival (sym same ∙ ap (λ (z : State). final z.spot seen.arrival) same) in
            omega (arith, seen.early)
      ]

  pub seen_none : (o : Option ℕ) (newest : List ℕ) → IfNone o ((r : ℕ) → s ≡ queued s.spot r → t < r) → IfNone o ((r : ℕ) → s ≡ final s.spot r → t < r)
      → IfNone o ((g : Terrain) (q : Request) (horizon : ℕ) (known : ℕ → Option (List Record)) → IsArena g q.goal horizon known (spots_of states) newest → HasSeen states c t → ⊥)
  seen_none (Some r) newest not_queued not_final = tt
  seen_none None newest not_queued not_final = λ g q horizon known arena seen. late_here g q horizon known newest arena not_queued not_final seen

pub near_by : (g : Terrain) (goal c : Cell) (left : ℕ) → IsDistance g goal c left → IsWithin g goal c left
near_by g goal c left distance = record { left = left; way = distance.way; below = omega arith }

-- All states whose keys are below the cursor are final.
module _ (g : Terrain) (q : Request) (horizon : ℕ) (a : Assignment) (bound : IsBound g q.goal) (states : List State) (cursor : ℕ)
    (spots : AreSpots g q horizon a (spots_of states)) (way : (x : ℕ) → IsUnderWay g q horizon a states cursor x) (in_time : cursor ≤ horizon) where
  spot_at : (i : ℕ) (s : State) → slice_get states i ≡ Some s → slice_get (spots_of states) i ≡ Some s.spot
  spot_at i s at = stands_map (λ (z : State). z.spot) states i s at

  pub leads : EachLeads g q horizon a states
  leads = lead_each g q horizon a states cursor way

  pub final_below : (c : Cell) (t k : ℕ) → IsReached g q a c t → IsWithin g q.goal c k → t + k < cursor → HasFinal states c t
  final_below c t k reached within less =
      complete g q horizon a bound states cursor 0 spots (way 0) leads (t + k) (λ i r p at. omega (arith, ((way 0).queued_well i r p at).after)) (omega arith) k reached within (omega arith)

  -- a state that is known by then tells since when its cell is reached
  pub earliest_known : (i r u : ℕ) (p : Spot) (c : Cell) → (slice_get states i ≡ Some (queued p r)) ⊎ (slice_get states i ≡ Some (final p r)) → p.cell ≡ c → IsIn u p.interval
      → r ≤ u → u + p.left ≤ cursor → IsEarliest g (traffic_by a) q c u r
  earliest_known i r u p c known cell inside early low = elim known [
    | inl at ↦
        let well = (way 0).queued_well i r p at in
        earliest_of g q a horizon c u r p (spots.safe i p (spot_at i (queued p r) at)) cell inside early well.arrived
        (taken_least g q horizon a bound states cursor 0 spots (way 0) leads i r p at (λ j s o at'. omega (arith, ((way 0).queued_well j s o at').after)))
    | inr at ↦
        let well = (way 0).final_well i r p at in
        earliest_of g q a horizon c u r p (spots.safe i p (spot_at i (final p r) at)) cell inside early well.arrived well.least
  ]

  -- what is known of a cell by then tells since when it is reached
  pub earliest_seen : (c : Cell) (u left : ℕ) (seen : HasSeen states c u) → IsDistance g q.goal c left → u + left ≤ cursor → IsEarliest g (traffic_by a) q c u seen.arrival
  earliest_seen c u left seen distance low =
      let mine : IsDistance g q.goal c seen.spot.left =
      subst (λ (z : Cell). IsDistance g q.goal z seen.spot.left) seen.cell_is (spots.distance seen.place seen.spot (spot_seen states c u seen)) in
      let same : seen.spot.left ≡ left = bound.once c seen.spot.left left mine distance in
      earliest_known seen.place seen.arrival u seen.spot c seen.stands seen.cell_is seen.holds seen.early (omega arith)

  -- a cell that isn't known to be reached by then isn't reached, where its key is below the cursor
  pub never_below : (c : Cell) (u left : ℕ) → IsDistance g q.goal c left → (HasSeen states c u → ⊥) → u + left < cursor → IsReached g q a c u → ⊥
  never_below c u left distance unseen low reached = unseen (seen_of states c u (final_below c u left reached (near_by g q.goal c left distance) low))

  -- a cell of the key of the cursor that isn't known to be reached by then is entered then, or not reached
  pub never_beside : (c : Cell) (u left : ℕ) → IsUnseenAt g q states cursor c u left → ((side : Side) → NoneFrom g q a c u side) → IsReached g q a c u → ⊥
  never_beside c u left unseen none reached = elim (last_step g q a reached (λ v time before. waits v time before)) [
    | inr by ↦ none by.side by.from by.before by.beside by.time_is by.precedes
    | inl start ↦ begins start.0 start.1
  ]
    where
      near : IsWithin g q.goal c left
      near = near_by g q.goal c left unseen.distance

      waits : (v : ℕ) → u ≡ v + 1 → IsReached g q a c v → ⊥
      waits v time before =
          let has : HasFinal states c v = final_below c v left before near (omega (arith, unseen.key)) in
          let free : covers (a c.0) (v + 1) ≡ false = subst (λ (n : ℕ). covers (a c.0) n ≡ false) time (reached_free g q a reached) in
          let later : HasFinal states c (v + 1) =
          final_waits g q horizon a bound states cursor 0 spots (way 0) leads c v has (omega (arith, unseen.key)) (reached_free g q a before) free in
          unseen.unseen (seen_of states c u (subst (λ (n : ℕ). HasFinal states c n) (sym time) later))

      begins : c ≡ q.start → u ≡ q.depart → ⊥
      begins at_start at_depart =
          let free : covers (a q.start.0) q.depart ≡ false =
          subst (λ (n : ℕ). covers (a q.start.0) n ≡ false) at_depart (subst (λ (z : Cell). covers (a z.0) u ≡ false) at_start (reached_free g q a reached)) in
          let near' : IsWithin g q.goal q.start left = subst (λ (z : Cell). IsWithin g q.goal z left) at_start near in
          let seen : HasSeen states q.start q.depart = (way 0).start left free near' (omega (arith, unseen.key)) in
          unseen.unseen (subst (λ (n : ℕ). HasSeen states c n) (sym at_depart) (subst (λ (z : Cell). HasSeen states z q.depart) (sym at_start) seen))

  -- a cell of the key of the cursor that is entered then is reached since then
  pub earliest_entered : (c n : Cell) (u v left : ℕ) (side : Side) → IsUnseenAt g q states cursor c u left → u ≡ v + 1 → IsBeside g side c n → CanPrecede g (traffic_by a) q n c v
      → IsEarliest g (traffic_by a) q c u u
  earliest_entered c n u v left side unseen time beside can = record {
    before = omega arith;
    reachable = walk_from_steps g q (traffic_by a) reached;
    untaken = λ x low high. (let e : u ≡ x = omega arith in subst (λ (n : ℕ). covers (a c.0) n ≡ false) e (reached_free g q a reached));
    earliest = λ s early reachable untaken. elim (cases_lt s u) [
      | inr since ↦ since
      | inl before ↦
          let has : HasFinal states c s = final_below c s left (steps_from_walk g q (traffic_by a) c s reachable) (near_by g q.goal c left unseen.distance) (omega (arith, unseen.key)) in
          absurd (unseen.unseen (seen_of states c u (stays has (omega arith) untaken)))
    ];
  }
    where
      reached : IsReached g q a c u
      reached =
          let back = back_beside g q a side c n beside in
          let from : IsReached g q a n v = steps_from_walk g q (traffic_by a) n v can.reachable in
          subst (λ (m : ℕ). IsReached g q a c m) (sym time) (step from (inr (back.0, back.1)) (bound.opens c left unseen.distance) can.clear)

      stays : {s : ℕ} → HasFinal states c s → s ≤ u → ((x : ℕ) → s ≤ x → x ≤ u → covers (a c.0) x ≡ false) → HasFinal states c u
      stays {s} has early untaken =
          let safe : IsSafeInterval (a has.spot.cell.0) horizon has.spot.interval = spots.safe has.place has.spot (spot_at has.place (final has.spot has.arrival) has.stands) in
          let safe' : IsSafeInterval (a c.0) horizon has.spot.interval = subst (λ (z : Cell). IsSafeInterval (a z.0) horizon has.spot.interval) has.cell_is safe in
          record {
            place = has.place;
            spot = has.spot;
            arrival = has.arrival;
            stands = has.stands;
            cell_is = has.cell_is;
            holds = in_one (a c.0) horizon has.spot.interval s u safe' has.holds early (omega (arith, unseen.key)) untaken;
            early = omega (arith, has.early);
          }

  -- the first end is the first arrival
  pub first_arrival : EndsAt q a states cursor → IsFirstArrival g q a cursor
  first_arrival ends = record {
    arrives = record {
      reachable = walk_from_steps g q (traffic_by a)
          (subst (λ (z : Cell). IsReached g q a z cursor) ends.at_goal ((way 0).final_well ends.place cursor ends.spot ends.stands).arrived.reached);
      may_end = ends.may_end;
    };
    least = λ s is. elim (cases_lt s cursor) [
      | inr since ↦ since
      | inl before ↦
          let reached : IsReached g q a q.goal s = steps_from_walk g q (traffic_by a) q.goal s is.reachable in
          let zero_left : IsWithin g q.goal q.goal 0 = record { left = 0; way = (bound.zero_at_goal (reached_open g q a reached)).way; below = omega arith } in
          let has = final_below q.goal s 0 reached zero_left (omega arith) in
          let le : cursor ≤ has.arrival = ends.least has.place has.arrival s has.spot has.stands has.cell_is has.holds is.may_end in
          omega (arith, has.early)
    ];
  }

-- more cells are known
pub paused_kept : (g : Terrain) (q : Request) (horizon : ℕ) (known known' : ℕ → Option (List Record)) (size size' : ℕ) (arena : Arena) → IsPaused g q horizon known size arena
    → KeepsKnown known known' → size' ≡ size → IsPaused g q horizon known' size' arena
paused_kept g q horizon known known' size size' arena paused kept same = record {
  sound = rw same (sound_known g q horizon known known' size arena kept paused.sound);
  in_time = paused.in_time;
  on = paused.on;
  way = λ a x agrees. paused.way a x (agrees_before a known known' kept agrees);
}

-- more distances are known
pub paused_counted : (g : Terrain) (q : Request) (horizon : ℕ) (known : ℕ → Option (List Record)) (size : ℕ) (old new : Arena) → IsPaused g q horizon known size old
    → IsSound g q horizon known size new → new.states ≡ old.states → new.queue ≡ old.queue → IsPaused g q horizon known size new
paused_counted g q horizon known size old new paused sound states queue = record {
  sound = sound;
  in_time = rw queue paused.in_time;
  on = rw (states, queue) paused.on;
  way = λ a x agrees. rw (states, queue) (paused.way a x agrees);
}

-- The same facts of an arena, for an assignment that has the known calendars.
module _ (g : Terrain) (q : Request) (horizon : ℕ) (known : ℕ → Option (List Record)) (size : ℕ) (arena : Arena) (bound : IsBound g q.goal)
    (paused : IsPaused g q horizon known size arena) (a : Assignment) (agrees : Agrees a known) where
  pub spots : AreSpots g q horizon a (spots_of arena.states.items)
  spots = spots_right g q.goal horizon known (spots_of arena.states.items) arena.newest q a refl paused.sound.arranged agrees

  way : (x : ℕ) → IsUnderWay g q horizon a arena.states.items arena.queue.floor x
  way x = paused.way a x agrees

  pub paused_seen : (c : Cell) (u left : ℕ) (seen : HasSeen arena.states.items c u) → IsDistance g q.goal c left → u + left ≤ arena.queue.floor → IsEarliest g (traffic_by a) q c u seen.arrival
  paused_seen c u left seen distance low = earliest_seen g q horizon a bound arena.states.items arena.queue.floor spots way paused.in_time c u left seen distance low

  pub paused_below : (c : Cell) (u left : ℕ) → IsDistance g q.goal c left → (HasSeen arena.states.items c u → ⊥) → u + left < arena.queue.floor → IsReached g q a c u → ⊥
  paused_below c u left distance unseen low reached = never_below g q horizon a bound arena.states.items arena.queue.floor spots way paused.in_time c u left distance unseen low reached

  pub paused_beside : (c : Cell) (u left : ℕ) → IsUnseenAt g q arena.states.items arena.queue.floor c u left → ((side : Side) → NoneFrom g q a c u side) → IsReached g q a c u → ⊥
  paused_beside c u left unseen none reached = never_beside g q horizon a bound arena.states.items arena.queue.floor spots way paused.in_time c u left unseen none reached

  pub paused_entered : (c n : Cell) (u s left : ℕ) → IsUnseenAt g q arena.states.items arena.queue.floor c u left → IsStepBack g q a c u n s → IsEarliest g (traffic_by a) q c u u
  paused_entered c n u s left unseen back =
      earliest_entered g q horizon a bound arena.states.items arena.queue.floor spots way paused.in_time c n u back.before left back.first.side unseen back.time_is back.first.beside back.first.precedes

  -- a state's cell is free while its interval holds the time
  pub paused_free : (i : ℕ) (s : State) (c : Cell) (u : ℕ) → slice_get arena.states.items i ≡ Some s → s.spot.cell ≡ c → IsIn u s.spot.interval → covers (a c.0) u ≡ false
  paused_free i s c u at cell inside =
      subst (λ (z : Cell). covers (a z.0) u ≡ false) cell ((spots.safe i s.spot (stands_map (λ (z : State). z.spot) arena.states.items i s at)).free u inside)

  pub paused_goal : IsEarliest g (traffic_by a) q q.goal arena.queue.floor arena.queue.floor
  paused_goal =
      let on = paused.on in
      let well = (way 0).final_well on.place arena.queue.floor on.spot on.stands in
      let at = stands_map (λ (z : State). z.spot) arena.states.items on.place (final on.spot arena.queue.floor) on.stands in
      earliest_of g q a horizon q.goal arena.queue.floor arena.queue.floor on.spot (spots.safe on.place on.spot at) on.cell_is well.arrived.inside (omega arith) well.arrived well.least

-- a cell that was seen is known
pub seen_loaded : (g : Terrain) (q : Request) (horizon : ℕ) (known : ℕ → Option (List Record)) (size : ℕ) (arena : Arena) (c : Cell) (u : ℕ) → IsSound g q horizon known size arena
    → HasSeen arena.states.items c u → IsSome (known c.0)
seen_loaded g q horizon known size arena c u sound seen =
    let of = sound.arranged.each seen.place seen.spot (spot_seen arena.states.items c u seen) in
    subst (λ (z : Cell). IsSome (known z.0)) seen.cell_is (some_of (known seen.spot.cell.0) of.records of.known_is)

pub some_kept : (known known' : ℕ → Option (List Record)) (c : ℕ) → KeepsKnown known known' → IsSome (known c) → IsSome (known' c)
some_kept known known' c kept is = rw (kept c is) is

pub ready_kept : (g : Terrain) (q : Request) (horizon size size' : ℕ) → size' ≡ size → IsReady g q horizon size → IsReady g q horizon size'
ready_kept g q horizon size size' same ready = record { bound = ready.bound; size_is = same ∙ ready.size_is; in_range = ready.in_range }

pub ties_kept : (g : Terrain) (q : Request) (known known' : ℕ → Option (List Record)) (ties : Ties) → KeepsKnown known known' → AreTies g q known ties → AreTies g q known' ties
ties_kept g q known known' ties kept are = record {
  fit = are.fit;
  place_is = are.place_is;
  near = are.near;
  aimed = are.aimed;
  start_is = are.start_is;
  missed = λ a c u agrees at. are.missed a c u (agrees_before a known known' kept agrees) at;
  entered = λ a c u agrees at. are.entered a c u (agrees_before a known known' kept agrees) at;
  loaded = λ c u at. some_kept known known' c.0 kept (are.loaded c u at);
}

-- a number that is kept of a cell, where what it tells holds
pub ties_told : (g : Terrain) (q : Request) (known : ℕ → Option (List Record)) (ties : Ties) (c : Cell) (n : ℕ) (now : List ℕ) → AreTies g q known ties → c.0 < length g.cells
    → now ≡ set ties.asked c.0 n → ((a : Assignment) (u : ℕ) → Agrees a known → n ≡ 2 * u + 1 → IsReached g q a c u → ⊥)
    → ((a : Assignment) (u : ℕ) → Agrees a known → n ≡ 2 * u + 2 → IsEarliest g (traffic_by a) q c u u) → ((u : ℕ) → n ≡ 2 * u + 2 → IsSome (known c.0))
    → AreTies g q known (record ties { asked = now })
ties_told g q known ties c n now are within is never earliest some = record {
  fit = record { from_start = are.fit.from_start; asked = ap length is ∙ (length-set ties.asked c.0 n ∙ are.fit.asked) };
  place_is = are.place_is;
  near = are.near;
  aimed = are.aimed;
  start_is = are.start_is;
  missed = λ a d v agrees at.
      elim (cases d (2 * v + 1) at) [
        | inr other ↦ are.missed a d v agrees other
        | inl same ↦ λ reached. never a v agrees same.1 (subst (λ (z : Cell). IsReached g q a z v) same.0 reached)
      ];
  entered = λ a d v agrees at.
      elim (cases d (2 * v + 2) at) [
        | inr other ↦ are.entered a d v agrees other
        | inl same ↦ subst (λ (z : Cell). IsEarliest g (traffic_by a) q z v v) (sym same.0) (earliest a v agrees same.1)
      ];
  loaded = λ d v at.
      elim (cases d (2 * v + 2) at) [
        | inr other ↦ are.loaded d v other
        | inl same ↦ subst (λ (z : Cell). IsSome (known z.0)) (sym same.0) (some v same.1)
      ];
}
  where
    cases : (d : Cell) (m : ℕ) → slice_get now d.0 ≡ Some m → ((d ≡ c) × (n ≡ m)) ⊎ (slice_get ties.asked d.0 ≡ Some m)
    cases d m at =
        let at' : slice_get (set ties.asked c.0 n) d.0 ≡ Some m = rw is at at in
        elim (set_cases ties.asked c.0 d.0 n m (omega (arith, within, are.fit.asked)) at') [
          | inl same ↦ inl (same_cells d c same.0, same.1)
          | inr other ↦ inr other.1
        ]

pub ties_missed : (g : Terrain) (q : Request) (known : ℕ → Option (List Record)) (ties : Ties) (c : Cell) (u : ℕ) (now : List ℕ) → AreTies g q known ties → c.0 < length g.cells
    → now ≡ set ties.asked c.0 (2 * u + 1) → ((a : Assignment) → Agrees a known → IsReached g q a c u → ⊥) → AreTies g q known (record ties { asked = now })
ties_missed g q known ties c u now are within is never =
    ties_told g q known ties c (2 * u + 1) now are within is
    (λ a v agrees e reached. (let time : v ≡ u = omega (arith, e) in never a agrees (subst (λ (n : ℕ). IsReached g q a c n) time reached))) (λ a v agrees e. absurd (omega (arith, e)))
    (λ v e. absurd (omega (arith, e)))

pub ties_entered : (g : Terrain) (q : Request) (known : ℕ → Option (List Record)) (ties : Ties) (c : Cell) (u : ℕ) (now : List ℕ) → AreTies g q known ties → c.0 < length g.cells
    → now ≡ set ties.asked c.0 (2 * u + 2) → ((a : Assignment) → Agrees a known → IsEarliest g (traffic_by a) q c u u) → IsSome (known c.0) → AreTies g q known (record ties { asked = now })
ties_entered g q known ties c u now are within is earliest some =
    ties_told g q known ties c (2 * u + 2) now are within is (λ a v agrees e reached. absurd (omega (arith, e)))
    (λ a v agrees e. (let time : u ≡ v = omega (arith, e) in subst (λ (n : ℕ). IsEarliest g (traffic_by a) q c n n) time (earliest a agrees))) (λ v e. some)

-- a neighbour that is reached, and from which the move is free
pub side_found : (g : Terrain) (q : Request) (a : Assignment) (c n : Cell) (t u s : ℕ) (side : Side) → t ≡ u + 1 → IsBeside g side c n → IsEarliest g (traffic_by a) q n u s
    → covers (a c.0) t ≡ false → is_exchange (a n.0) (a c.0) u ≡ false → IsSideBack g q a c t side n s
side_found g q a c n t u s side time beside earliest free unbarred = record {
  before = u;
  time_is = time;
  beside = beside;
  precedes = record {
    reachable = walk_from_steps g q (traffic_by a)
        (wait_until g q a n s u (steps_from_walk g q (traffic_by a) n s earliest.reachable) earliest.before (λ x low high. earliest.untaken x low high));
    clear = record {
      untaken = subst (λ (m : ℕ). covers (a c.0) m ≡ false) time free;
      unbarred = λ differ. unbarred;
    };
  };
  earliest = earliest;
}

-- a cell that is read back and that no side leads to is the start at the departure
pub start_of : (g : Terrain) (q : Request) (a : Assignment) (c : Cell) (u s : ℕ) → IsEarliest g (traffic_by a) q c u s → ((side : Side) → NoneFrom g q a c s side)
    → (c ≡ q.start) × (s ≡ q.depart)
start_of g q a c u s earliest none =
    let reached : IsReached g q a c s = steps_from_walk g q (traffic_by a) c s earliest.reachable in
    elim (last_step g q a reached (λ v time before. earlier v time before)) [
      | inl start ↦ start
      | inr by ↦ absurd (none by.side by.from by.before by.beside by.time_is by.precedes)
    ]
  where
    earlier : (v : ℕ) → s ≡ v + 1 → IsReached g q a c v → ⊥
    earlier v time before =
        let free : (x : ℕ) → v ≤ x → x ≤ u → covers (a c.0) x ≡ false = λ x low high. elim (cases_lt x s) [
          | inr later ↦ earliest.untaken x later high
          | inl first ↦ let e : v ≡ x = omega (arith, time) in subst (λ (n : ℕ). covers (a c.0) n ≡ false) e (reached_free g q a before)
        ] in
        let le : s ≤ v = earliest.earliest v (omega (arith, earliest.before, time)) (walk_from_steps g q (traffic_by a) before) free in
        omega (arith, time)

pub count_kept : (g : Terrain) (q : Request) (horizon : ℕ) (known known' : ℕ → Option (List Record)) (size size' : ℕ) (arena : Arena) (lists : ℕ → List Interval)
    → size ≡ length g.cells → IsSound g q horizon known size arena → KeepsKnown known known' → size' ≡ size → AreListsOf known' horizon lists
    → final_count arena.states.items ≤ interval_count known' lists size'
count_kept g q horizon known known' size size' arena lists size_is sound kept same are =
    let within = states_within g q horizon known size arena lists size_is sound (lists_before known known' horizon lists kept are) in
    let grows = interval_grows known known' lists size kept in
    rw same (omega (arith, within, grows))
