-- One round of the search, and its end.
use Rattle.std.proofs.Common.{arith, subst, sym, ap, ◌∙◌, refl, inl, inr, set}
use Rattle.std.proofs.lemmas.List.{length-map}
use Rattle.std.proofs.lemmas.Option.{slice_get_within, same_Some, none-some}
use Rattle.std.specs.Prelude.{◌≡◌, ℕ, zero, suc, ◌+◌, ◌<◌, ◌≤◌, ◌⊎◌, List, [], Option, Some, None, IsSome, IfSome, IfNone, length, slice_get, unwrap_or}
use Rattle.fleet_base.specs.declared.grid.Cell.{Cell}
use Rattle.fleet_base.specs.declared.request.Record.{Record}
use Rattle.fleet_base.specs.declared.request.Request.{Request}
use Rattle.fleet_base.specs.Terrain.{Terrain}
use Rattle.fleet_base.specs.Reach.{MayEnd}
use Rattle.calendars.specs.Assignments.{Assignment, Agrees, traffic_by}
use Rattle.safe_intervals.specs.declared.interval.Interval.{Interval}
use Rattle.safe_intervals.specs.Safe.{IsIn}
use Rattle.static_distance.specs.Distance.{IsDistance}
use Rattle.bucket_queue.specs.Queue.{Queue}
use Rattle.sipp_search.specs.declared.states.Spot.{Spot}
use Rattle.sipp_search.specs.declared.states.State.{State}
use Rattle.sipp_search.specs.declared.states.Mark.TheVariants.{Queued, Final}
use Rattle.sipp_search.specs.declared.states.Arena.{Arena}
use Rattle.sipp_search.specs.declared.states.Taken.{Taken}
use Rattle.sipp_search.specs.Marks.{spots_of, queued, final, final_count}
use Rattle.sipp_search.specs.Answer.{AreListsOf, length_if_known, interval_count}
use Rattle.sipp_search.specs.Progress.{IsBound, AreSpots, IsUnderWay, Improves}
use Rattle.sipp_search.specs.Running.{IsSound, KeepsKnown, LoadsAround, SettlesNext, AreAbove, IsOver, EndsAt, Ends, MayEndIn, NeverEndsIn, LoadsFor}
use Rattle.sipp_search.proofs.Lists.{slice_get-set_at, slice_get-set_other, set_cases}
use Rattle.sipp_search.proofs.Closing.{EachLeads, complete}
use Rattle.sipp_search.proofs.Marking.{count-set, count_within, settled_way, spots-set}
use Rattle.sipp_search.proofs.Counts.{spots_counted}
use Rattle.sipp_search.proofs.Moving.{some_of}

module _ (g : Terrain) (q : Request) (horizon : ℕ) (a : Assignment) where
  pub lead_each : (states : List State) (cursor : ℕ) → ((x : ℕ) → IsUnderWay g q horizon a states cursor x) → EachLeads g q horizon a states
  lead_each states cursor way i r p at = (way (suc i)).leads i r p (λ e. (let no_way : ⊥ = omega arith in no_way)) at

  -- nothing is queued up to the limit: the search is over
  pub over_now : IsBound g q.goal → (states : List State) (cursor limit : ℕ) → AreSpots g q horizon a (spots_of states) → ((x : ℕ) → IsUnderWay g q horizon a states cursor x)
      → AreAbove states limit → cursor ≤ limit → limit ≤ horizon → IsOver g q horizon a states limit
  over_now bound states cursor limit spots way above low in_time = record {
    spots = spots;
    complete = λ c t k reached near le. complete g q horizon a bound states cursor 0 spots (way 0) (lead_each states cursor way) limit above in_time k reached near le;
    final_well = λ i r p at. (let well = (way 0).final_well i r p at in record { arrived = well.arrived; least = well.least; before = omega (arith, well.before) });
  }

  -- the taken state has become final
  pub settled_next_way : IsBound g q.goal → (old new : Arena) (limit : ℕ) (taken : Taken) → AreSpots g q horizon a (spots_of old.states.items)
      → ((x : ℕ) → IsUnderWay g q horizon a old.states.items old.queue.floor x) → SettlesNext old new limit taken
      → IsUnderWay g q horizon a new.states.items new.queue.floor taken.id
  settled_next_way bound old new limit taken spots way settles =
      let floor : taken.arrival + taken.spot.left ≡ new.queue.floor = sym (ap (λ (z : Queue). z.floor) settles.queue_is) in
      subst (λ (n : ℕ). IsUnderWay g q horizon a new.states.items n taken.id) floor
      (subst (λ (xs : List State). IsUnderWay g q horizon a xs (taken.arrival + taken.spot.left) taken.id) (sym settles.states_are)
      (settled_way g q horizon a bound old.states.items old.queue.floor 0 taken.id taken.arrival taken.spot spots (way 0) (lead_each old.states.items old.queue.floor way) settles.was settles.least))

pub settled_spots : (old new : Arena) (limit : ℕ) (taken : Taken) → SettlesNext old new limit taken → spots_of new.states.items ≡ spots_of old.states.items
settled_spots old new limit taken settles =
    ap spots_of settles.states_are ∙ spots-set old.states.items taken.id (queued taken.spot taken.arrival) (Final taken.arrival) settles.was

pub settled_count : (old new : Arena) (limit : ℕ) (taken : Taken) → SettlesNext old new limit taken → final_count new.states.items ≡ final_count old.states.items + 1
settled_count old new limit taken settles =
    ap final_count settles.states_are ∙ (let e = count-set old.states.items taken.id (queued taken.spot taken.arrival) (final taken.spot taken.arrival) settles.was in omega arith)

pub settled_stands : (old new : Arena) (limit : ℕ) (taken : Taken) → SettlesNext old new limit taken → slice_get new.states.items taken.id ≡ Some (final taken.spot taken.arrival)
settled_stands old new limit taken settles =
    rw settles.states_are (slice_get-set_at old.states.items taken.id (final taken.spot taken.arrival) (slice_get_within old.states.items taken.id (queued taken.spot taken.arrival) settles.was))

pub settled_sound : (g : Terrain) (q : Request) (horizon : ℕ) (known : ℕ → Option (List Record)) (size : ℕ) (old new : Arena) (limit : ℕ) (taken : Taken)
    → IsSound g q horizon known size old → SettlesNext old new limit taken → IsSound g q horizon known size new
settled_sound g q horizon known size old new limit taken sound settles = record {
  paired = ap (λ (z : Queue). z.keys) settles.queue_is;
  bound = ap (λ (z : Queue). z.bound) settles.queue_is ∙ sound.bound;
  count = rw settles.newest_are sound.count;
  arranged = rw (settled_spots old new limit taken settles, settles.newest_are) sound.arranged;
  aimed = rw settles.distances_are sound.aimed;
  goal_is = rw settles.distances_are sound.goal_is;
  room_is = rw settles.distances_are sound.room_is;
}

-- The final states of a round are those of before and one more.
pub record HasOneMore (old new : List State) (id r : ℕ) (p : Spot) : Type 0 where
  pub only : (i s : ℕ) (o : Spot) → slice_get new i ≡ Some (final o s) → (slice_get old i ≡ Some (final o s)) ⊎ ((p ≡ o) × (r ≡ s))
  pub kept : (i s : ℕ) (o : Spot) → slice_get old i ≡ Some (final o s) → slice_get new i ≡ Some (final o s)
  pub there : slice_get new id ≡ Some (final p r)

pub one_more_of : (old mid : Arena) (new : List State) (limit : ℕ) (taken : Taken) → SettlesNext old mid limit taken → Improves mid.states.items new
    → HasOneMore old.states.items new taken.id taken.arrival taken.spot
one_more_of old mid new limit taken settles better = record {
  only = λ i s o at.
      (let before : slice_get (set old.states.items taken.id (final taken.spot taken.arrival)) i ≡ Some (final o s) = rw settles.states_are at (better.no_more i s o at) in
      elim (set_cases old.states.items taken.id i (final taken.spot taken.arrival) (final o s) here before) [
        | inr other ↦ inl other.1
        | inl same ↦
            let marks : Final taken.arrival ≡ Final s = ap (λ (z : State). z.mark) same.1 in
            let time : taken.arrival ≡ s = cc in
            inr (ap (λ (z : State). z.spot) same.1, time)
      ]);
  kept = λ i s o at.
      (let ne : i ≡ taken.id → ⊥ = λ e. clash i s o at e in
      better.no_less i s o (rw settles.states_are (slice_get-set_other old.states.items taken.id i (final taken.spot taken.arrival) ne ∙ at)));
  there = better.no_less taken.id taken.arrival taken.spot (settled_stands old mid limit taken settles);
}
  where
    here : taken.id < length old.states.items
    here = slice_get_within old.states.items taken.id (queued taken.spot taken.arrival) settles.was

    clash : (i s : ℕ) (o : Spot) → slice_get old.states.items i ≡ Some (final o s) → i ≡ taken.id → ⊥
    clash i s o at e =
        let at' : slice_get old.states.items taken.id ≡ Some (final o s) = rw e at at in
        let same : queued taken.spot taken.arrival ≡ final o s = same_Some (queued taken.spot taken.arrival) (final o s) (sym settles.was ∙ at') in
        let marks : Queued taken.arrival ≡ Final s = ap (λ (z : State). z.mark) same in
        cc

-- no way is left at the goal
pub goal_left : (g : Terrain) (goal : Cell) → IsBound g goal → (c : Cell) (k : ℕ) → c ≡ goal → IsDistance g goal c k → k ≡ 0
goal_left g goal bound c k same distance =
    let here : IsDistance g goal goal k = subst (λ (z : Cell). IsDistance g goal z k) same distance in
    bound.once goal k 0 here (bound.zero_at_goal (bound.opens goal k here))

module _ (q : Request) (a : Assignment) (old new : List State) (id r : ℕ) (p : Spot) (more : HasOneMore old new id r p) where
  pub ends_kept : (t : ℕ) → EndsAt q a old t → (p.cell ≡ q.goal → t ≤ r) → EndsAt q a new t
  ends_kept t ends later = record {
    place = ends.place;
    spot = ends.spot;
    stands = more.kept ends.place t ends.spot ends.stands;
    at_goal = ends.at_goal;
    may_end = ends.may_end;
    least = λ i s u o at goal inside may. elim (more.only i s o at) [
      | inl before ↦ ends.least i s u o before goal inside may
      | inr same ↦ (let time : r ≡ s = same.1 in let le : t ≤ r = later (ap (λ (z : Spot). z.cell) same.0 ∙ goal) in omega arith)
    ];
  }

  pub ends_found : Ends q a old None → p.cell ≡ q.goal → ((t : ℕ) → IsIn t p.interval → MayEnd (traffic_by a) q t) → IsIn r p.interval → EndsAt q a new r
  ends_found none goal may inside = record {
    place = id;
    spot = p;
    stands = more.there;
    at_goal = goal;
    may_end = may r inside;
    least = λ i s u o at goal' inside' may'. elim (more.only i s o at) [
      | inl before ↦ absurd (none i s u o before goal' inside' may')
      | inr same ↦ (let time : r ≡ s = same.1 in omega arith)
    ];
  }

  pub ends_none : Ends q a old None → (p.cell ≡ q.goal → (t : ℕ) → IsIn t p.interval → ¬ (MayEnd (traffic_by a) q t)) → Ends q a new None
  ends_none none never i s u o at goal inside may = elim (more.only i s o at) [
    | inl before ↦ none i s u o before goal inside may
    | inr same ↦ never (ap (λ (z : Spot). z.cell) same.0 ∙ goal) u (subst (λ (z : Spot). IsIn u z.interval) (sym same.0) inside) may
  ]

pub loads_for : (g : Terrain) (first mid last : ℕ → Option (List Record)) (old new : List State) (id r : ℕ) (p : Spot) → HasOneMore old new id r p
    → LoadsFor g first mid old → LoadsAround g p.cell mid last → LoadsFor g first last new
loads_for g first mid last old new id r p more before around n is = elim (around n is) [
  | inr beside ↦ inr (id, r, p, more.there, inr beside)
  | inl known ↦ elim (before n known) [
    | inl old' ↦ inl old'
    | inr for ↦ inr (for.0, for.1, for.2, more.kept for.0 for.1 for.2 for.3, for.4)
  ]
]

-- How many states there are.
pub lists_before : (old new : ℕ → Option (List Record)) (horizon : ℕ) (lists : ℕ → List Interval) → KeepsKnown old new → AreListsOf new horizon lists → AreListsOf old horizon lists
lists_before old new horizon lists kept are c records is = are c records (kept c (some_of (old c) records is) ∙ is)

length_grows : (old new : Option (List Record)) (list : List Interval) → (IsSome old → new ≡ old) → length_if_known old list ≤ length_if_known new list
length_grows None new list kept = omega arith
length_grows (Some records) new list kept = rw (kept refl) (omega arith)

pub interval_grows : (old new : ℕ → Option (List Record)) (lists : ℕ → List Interval) (n : ℕ) → KeepsKnown old new → interval_count old lists n ≤ interval_count new lists n
interval_grows old new lists zero kept = omega arith
interval_grows old new lists (suc n) kept = omega (arith, length_grows (old n) (new n) (lists n) (kept n), interval_grows old new lists n kept)

pub states_within : (g : Terrain) (q : Request) (horizon : ℕ) (known : ℕ → Option (List Record)) (size : ℕ) (arena : Arena) (lists : ℕ → List Interval)
    → size ≡ length g.cells → IsSound g q horizon known size arena → AreListsOf known horizon lists → final_count arena.states.items ≤ interval_count known lists size
states_within g q horizon known size arena lists size_is sound are =
    let all : length (spots_of arena.states.items) ≤ interval_count known lists size =
    spots_counted g q.goal horizon known lists size (spots_of arena.states.items) size_is sound.arranged.each sound.arranged.once are in
    omega (arith, count_within arena.states.items, length-map arena.states.items (λ (z : State). z.spot))

-- a queued arrival lies in its interval: what holds for every assignment holds for one
pub queued_inside : (g : Terrain) (q : Request) (horizon : ℕ) (known : ℕ → Option (List Record)) (states : List State) (cursor i r : ℕ) (p : Spot)
    → ((a : Assignment) (x : ℕ) → Agrees a known → IsUnderWay g q horizon a states cursor x) → slice_get states i ≡ Some (queued p r) → IsIn r p.interval
queued_inside g q horizon known states cursor i r p way at =
    ((way (λ c. unwrap_or (known c) []) 0 (λ c records is. rw is refl)).queued_well i r p at).arrived.inside

-- What a round makes of the first arrival that was found.
module _ (horizon floor arrival left : ℕ) (before : floor ≤ arrival + left) where
  abbrev pub IsFirstEnd : Option ℕ → Option ℕ → Type 0
  IsFirstEnd found next = IfSome found (λ t. next ≡ Some t) × (found ≡ None → IfSome next (λ t. (t ≡ arrival) × (left ≡ 0)))

  pub low_next : (found next : Option ℕ) → IsFirstEnd found next → arrival + left ≤ unwrap_or found horizon → arrival + left ≤ unwrap_or next horizon
  low_next (Some t) next is low = rw is.0 low
  low_next None None is low = low
  low_next None (Some t) is low = let end = is.1 refl in omega (arith, end.0, end.1)

  pub time_next : (found next : Option ℕ) → IsFirstEnd found next → arrival + left ≤ unwrap_or found horizon → unwrap_or found horizon ≤ horizon → unwrap_or next horizon ≤ horizon
  time_next (Some t) next is low in_time = rw is.0 in_time
  time_next None None is low in_time = in_time
  time_next None (Some t) is low in_time = let end = is.1 refl in omega (arith, end.0)

  pub reached_next : (found next : Option ℕ) → IsFirstEnd found next → ((t : ℕ) → found ≡ Some t → t ≤ floor) → (t : ℕ) → next ≡ Some t → t ≤ arrival + left
  reached_next (Some u) next is reached t e = let same : u ≡ t = same_Some u t (sym is.0 ∙ e) in omega (arith, reached u refl)
  reached_next None None is reached t e = absurd (none-some t e)
  reached_next None (Some u) is reached t e = let same : u ≡ t = same_Some u t e in let end = is.1 refl in omega (arith, end.0)

pub ends_next : (q : Request) (a : Assignment) (known : ℕ → Option (List Record)) (old new : List State) (id r floor : ℕ) (p : Spot) (found next : Option ℕ) → HasOneMore old new id r p
    → Agrees a known → IsIn r p.interval → floor ≤ r + p.left → (p.cell ≡ q.goal → p.left ≡ 0) → ((t : ℕ) → found ≡ Some t → t ≤ floor)
    → IfSome found (λ t. next ≡ Some t) → (found ≡ None → IfSome next (λ t. (t ≡ r) × MayEndIn q known p)) → (found ≡ None → IfNone next (NeverEndsIn q known p))
    → Ends q a old found → Ends q a new next
ends_next q a known old new id r floor p (Some t) next more agrees inside rises left reached kept may never ends =
    subst (λ (o : Option ℕ). Ends q a new o) (sym kept) (ends_kept q a old new id r p more t ends (λ goal. omega (arith, left goal, reached t refl)))
ends_next q a known old new id r floor p None None more agrees inside rises left reached kept may never ends =
    ends_none q a old new id r p more ends (λ goal t at. never refl a agrees goal t at)
ends_next q a known old new id r floor p None (Some t) more agrees inside rises left reached kept may never ends =
    let end = may refl in
    subst (λ (n : ℕ). EndsAt q a new n) (sym end.0) (ends_found q a old new id r p more ends end.1.0 (λ u at. end.1.1 a agrees u at) inside)
