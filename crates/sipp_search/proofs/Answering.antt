-- What a search that is over answers: the table, the route, or that there is none.
use Rattle.std.proofs.Common.{arith, subst, sym, ap, ◌∙◌, refl, inl, inr}
use Rattle.std.proofs.lemmas.Bool.{cases_lt}
use Rattle.std.proofs.lemmas.Option.{same_Some, none-some}
use Rattle.std.specs.Prelude.{◌≡◌, ℕ, zero, suc, ◌+◌, ◌≤◌, ◌⊎◌, ◌++◌, [], ◌∷◌, List, Option, Some, None, IsSome, length, slice_get}
use Rattle.fleet_base.specs.declared.grid.Cell.{Cell}
use Rattle.fleet_base.specs.declared.request.Record.{Record}
use Rattle.fleet_base.specs.declared.request.Request.{Request}
use Rattle.fleet_base.specs.Terrain.{Terrain}
use Rattle.fleet_base.specs.TimedWalk.{TimedWalk, arrival}
use Rattle.fleet_base.specs.Reach.{IsArrival}
use Rattle.fleet_base.specs.Canonical.{ReadsBack}
use Rattle.fleet_base.proofs.ReachLemmas.{ReachesBy, walk_from_steps, steps_from_walk}
use Rattle.fleet_base.proofs.ArrivalLemmas.{arrival_from_walk, walk_of_arrival, free_of_arrival}
use Rattle.fleet_base.proofs.CanonicalLemmas.{reads_walk, walk_on}
use Rattle.calendars.specs.Assignments.{Assignment, traffic_by}
use Rattle.safe_intervals.specs.declared.interval.Interval.{Interval}
use Rattle.safe_intervals.specs.Safe.{IsIn, IsSafeInterval}
use Rattle.safe_intervals.proofs.SafeLemmas.{safe_once}
use Rattle.static_distance.specs.Distance.{IsDistance}
use Rattle.sipp_search.specs.declared.answer.Settled.{Settled}
use Rattle.sipp_search.specs.declared.states.Spot.{Spot}
use Rattle.sipp_search.specs.declared.states.State.{State}
use Rattle.sipp_search.specs.declared.states.Mark.{Mark}
use Rattle.sipp_search.specs.declared.states.Mark.TheVariants.{Unseen, Queued, Final}
use Rattle.sipp_search.specs.Marks.{spots_of, final, one_if_final, final_count}
use Rattle.sipp_search.specs.Answer.{IsSettled, IsDue, IsTable, IsRoute, IsNoRoute, IsBestWalk, IsAsked, IsNeeded}
use Rattle.sipp_search.specs.Progress.{IsBound, IsWithin, HasFinal}
use Rattle.sipp_search.specs.Running.{IsOver, EndsAt, Ends, IsLoadedFor, LoadsFor, LoadsInAll}
use Rattle.sipp_search.specs.Ties.{IsFirstArrival}
use Rattle.sipp_search.specs.Tabled.{settled_of, entry_by, entry_of, table_from}
use Rattle.sipp_search.proofs.Lists.{stands_map}
use Rattle.sipp_search.proofs.Moves.{IsReached, reached_open}
use Rattle.sipp_search.proofs.Marking.{marked}
use Rattle.sipp_search.proofs.Backward.{reads_length}

-- The entries of the table, by their places.
record IsEntry (states : List State) (s : Settled) : Type 0 where
  pub place : ℕ
  pub spot : Spot
  pub stands : slice_get states place ≡ Some (final spot s.arrival)
  pub cell_is : spot.cell ≡ s.cell
  pub interval_is : spot.interval ≡ s.interval

further : (x : State) (xs : List State) (s : Settled) → IsEntry xs s → IsEntry (x ∷ xs) s
further x xs s e = record { place = suc e.place; spot = e.spot; stands = e.stands; cell_is = e.cell_is; interval_is = e.interval_is }

entry_at : (states : List State) (k : ℕ) (s : Settled) → slice_get (table_from states) k ≡ Some s → IsEntry states s
entry_at [] k s at = absurd (none-some s at)
entry_at (x ∷ xs) k s at = go (λ j h. entry_at xs j s h) x.spot x.mark k refl at
  where
    go : ((j : ℕ) → slice_get (table_from xs) j ≡ Some s → IsEntry xs s) → (p : Spot) (m : Mark) (k : ℕ) → x ≡ marked p m → slice_get (entry_by p m ++ table_from xs) k ≡ Some s → IsEntry (x ∷ xs) s
    go rest p Unseen k is at = further x xs s (rest k at)
    go rest p (Queued r) k is at = further x xs s (rest k at)
    go rest p (Final r) (suc k) is at = further x xs s (rest k at)
    go rest p (Final r) zero is at =
        let same : settled_of p r ≡ s = same_Some (settled_of p r) s at in
        record {
          place = 0;
          spot = p;
          stands = ap (λ (z : State). Some z) is ∙ ap (λ (z : Settled). Some (final p z.arrival)) same;
          cell_is = ap (λ (z : Settled). z.cell) same;
          interval_is = ap (λ (z : Settled). z.interval) same;
        }

pub at_entry : (states : List State) (i r : ℕ) (p : Spot) → slice_get states i ≡ Some (final p r) → (k : ℕ) × (slice_get (table_from states) k ≡ Some (settled_of p r))
at_entry [] i r p at = absurd (none-some (final p r) at)
at_entry (x ∷ xs) zero r p at =
    let same : x ≡ final p r = same_Some x (final p r) at in
    (0, ap (λ (z : State). slice_get (entry_of z ++ table_from xs) 0) same)
at_entry (x ∷ xs) (suc i) r p at = go (at_entry xs i r p at) x.spot x.mark
  where
    go : (k : ℕ) × (slice_get (table_from xs) k ≡ Some (settled_of p r)) → (o : Spot) (m : Mark) → (k : ℕ) × (slice_get (entry_by o m ++ table_from xs) k ≡ Some (settled_of p r))
    go e o Unseen = e
    go e o (Queued s) = e
    go e o (Final s) = (suc e.0, e.1)

abbrev IsOnce : List State → Type 0
IsOnce states = (i j r s : ℕ) (p o : Spot) → slice_get states i ≡ Some (final p r) → slice_get states j ≡ Some (final o s) → p.cell ≡ o.cell → p.interval ≡ o.interval → i ≡ j

once_later : (x : State) (xs : List State) → IsOnce (x ∷ xs) → IsOnce xs
once_later x xs once i j r s p o at at' cells intervals = let e : suc i ≡ suc j = once (suc i) (suc j) r s p o at at' cells intervals in omega arith

entries_once : (states : List State) → IsOnce states → (j k : ℕ) (s r : Settled) → slice_get (table_from states) j ≡ Some s → slice_get (table_from states) k ≡ Some r
    → s.cell ≡ r.cell → s.interval ≡ r.interval → j ≡ k
entries_once [] once j k s r at at' cell interval = absurd (none-some s at)
entries_once (x ∷ xs) once j k s r at at' cell interval =
    go (λ m n h h'. entries_once xs (once_later x xs once) m n s r h h' cell interval) x.spot x.mark j k refl at at'
  where
    apart : (p : Spot) (t : ℕ) (u : Settled) → x ≡ final p t → p.cell ≡ u.cell → p.interval ≡ u.interval → IsEntry xs u → ⊥
    apart p t u is cells intervals e =
        let same : 0 ≡ suc e.place = once 0 (suc e.place) t u.arrival p e.spot (ap (λ (z : State). Some z) is) e.stands (cells ∙ sym e.cell_is) (intervals ∙ sym e.interval_is) in
        omega arith

    go : ((j k : ℕ) → slice_get (table_from xs) j ≡ Some s → slice_get (table_from xs) k ≡ Some r → j ≡ k) → (p : Spot) (m : Mark) (j k : ℕ) → x ≡ marked p m
        → slice_get (entry_by p m ++ table_from xs) j ≡ Some s → slice_get (entry_by p m ++ table_from xs) k ≡ Some r → j ≡ k
    go rest p Unseen j k is h h' = rest j k h h'
    go rest p (Queued t) j k is h h' = rest j k h h'
    go rest p (Final t) zero zero is h h' = refl
    go rest p (Final t) zero (suc k) is h h' =
        let same : settled_of p t ≡ s = same_Some (settled_of p t) s h in
        absurd (apart p t r is (ap (λ (z : Settled). z.cell) same ∙ cell) (ap (λ (z : Settled). z.interval) same ∙ interval) (entry_at xs k r h'))
    go rest p (Final t) (suc j) zero is h h' =
        let same : settled_of p t ≡ r = same_Some (settled_of p t) r h' in
        absurd (apart p t s is (ap (λ (z : Settled). z.cell) same ∙ sym cell) (ap (λ (z : Settled). z.interval) same ∙ sym interval) (entry_at xs j s h))
    go rest p (Final t) (suc j) (suc k) is h h' = ap suc (rest j k h h')

module _ (g : Terrain) (q : Request) (horizon : ℕ) (a : Assignment) (bound : IsBound g q.goal) (states : List State) where
  spot_at : (i r : ℕ) (p : Spot) → slice_get states i ≡ Some (final p r) → slice_get (spots_of states) i ≡ Some p
  spot_at i r p at = stands_map (λ (z : State). z.spot) states i (final p r) at

  pub table_right : (limit : ℕ) → limit ≤ horizon → IsOver g q horizon a states limit → IsTable g horizon a q limit (table_from states)
  table_right limit in_time over = record {
    settled = λ k s at. is_settled s (entry_at states k s at);
    due = λ k s at. is_due s (entry_at states k s at);
    whole = λ s settled due. holds s settled due;
    once = entries_once states (λ i j r s p o at at' cells intervals. over.spots.once i j p o (spot_at i r p at) (spot_at j s o at') cells intervals);
  }
    where
      is_settled : (s : Settled) → IsEntry states s → IsSettled g horizon a q s
      is_settled s e =
          let well = over.final_well e.place s.arrival e.spot e.stands in
          let safe : IsSafeInterval (a e.spot.cell.0) horizon e.spot.interval = over.spots.safe e.place e.spot (spot_at e.place s.arrival e.spot e.stands) in
          record {
            safe = subst (λ (z : Cell). IsSafeInterval (a z.0) horizon s.interval) e.cell_is (subst (λ (z : Interval). IsSafeInterval (a e.spot.cell.0) horizon z) e.interval_is safe);
            reachable = walk_from_steps g q (traffic_by a) (subst (λ (z : Cell). IsReached g q a z s.arrival) e.cell_is well.arrived.reached);
            within = subst (λ (z : Interval). IsIn s.arrival z) e.interval_is well.arrived.inside;
            least = λ t inside reachable. well.least t (record {
              reached = subst (λ (z : Cell). IsReached g q a z t) (sym e.cell_is) (steps_from_walk g q (traffic_by a) s.cell t reachable);
              inside = subst (λ (z : Interval). IsIn t z) (sym e.interval_is) inside;
            });
          }

      is_due : (s : Settled) → IsEntry states s → IsDue g q limit s
      is_due s e = record {
        left = e.spot.left;
        distance = subst (λ (z : Cell). IsDistance g q.goal z e.spot.left) e.cell_is (over.spots.distance e.place e.spot (spot_at e.place s.arrival e.spot e.stands));
        in_time = (over.final_well e.place s.arrival e.spot e.stands).before;
      }

      holds : (s : Settled) → IsSettled g horizon a q s → IsDue g q limit s → (k : ℕ) × (slice_get (table_from states) k ≡ Some s)
      holds s settled due =
          let reached : IsReached g q a s.cell s.arrival = steps_from_walk g q (traffic_by a) s.cell s.arrival settled.reachable in
          let has = over.complete s.cell s.arrival due.left reached (record { left = due.left; way = due.distance.way; below = omega arith }) due.in_time in
          let well = over.final_well has.place has.arrival has.spot has.stands in
          let safe : IsSafeInterval (a s.cell.0) horizon has.spot.interval =
          subst (λ (z : Cell). IsSafeInterval (a z.0) horizon has.spot.interval) has.cell_is (over.spots.safe has.place has.spot (spot_at has.place has.arrival has.spot has.stands)) in
          let interval : has.spot.interval ≡ s.interval = safe_once (a s.cell.0) horizon has.spot.interval s.interval s.arrival safe settled.safe has.holds settled.within in
          let late : s.arrival ≤ has.arrival = settled.least has.arrival (subst (λ (z : Interval). IsIn has.arrival z) interval well.arrived.inside)
          (walk_from_steps g q (traffic_by a) (subst (λ (z : Cell). IsReached g q a z has.arrival) has.cell_is well.arrived.reached)) in
          let time : has.arrival ≡ s.arrival = omega (arith, has.early) in
          let entry = at_entry states has.place has.arrival has.spot has.stands in
          let same : settled_of has.spot has.arrival ≡ s =
          ap (λ (z : Cell). record { cell = z; interval = has.spot.interval; arrival = has.arrival }) has.cell_is
          ∙ (ap (λ (z : Interval). record { cell = s.cell; interval = z; arrival = has.arrival }) interval
          ∙ ap (λ (n : ℕ). record { cell = s.cell; interval = s.interval; arrival = n }) time) in
          (entry.0, entry.1 ∙ ap (λ (z : Settled). Some z) same)

  -- no arrival at the goal comes before the first end
  arrival_final : (limit s : ℕ) → IsOver g q horizon a states limit → IsArrival g (traffic_by a) q s → s ≤ limit → HasFinal states q.goal s
  arrival_final limit s over is low =
      let reached : IsReached g q a q.goal s = steps_from_walk g q (traffic_by a) q.goal s is.reachable in
      let zero_left : IsWithin g q.goal q.goal 0 = record { left = 0; way = (bound.zero_at_goal (reached_open g q a reached)).way; below = omega arith } in
      over.complete q.goal s 0 reached zero_left (omega arith)

  pub arrival_least : (t s : ℕ) → IsOver g q horizon a states t → EndsAt q a states t → IsArrival g (traffic_by a) q s → t ≤ s
  arrival_least t s over ends is = elim (cases_lt s t) [
    | inr since ↦ since
    | inl before ↦
        let has = arrival_final t s over is (omega arith) in
        let le : t ≤ has.arrival = ends.least has.place has.arrival s has.spot has.stands has.cell_is has.holds is.may_end in
        omega (arith, has.early)
  ]

  pub end_arrives : (t : ℕ) → IsOver g q horizon a states t → EndsAt q a states t → IsArrival g (traffic_by a) q t
  end_arrives t over ends = record {
    reachable = walk_from_steps g q (traffic_by a)
        (subst (λ (z : Cell). IsReached g q a z t) ends.at_goal (over.final_well ends.place t ends.spot ends.stands).arrived.reached);
    may_end = ends.may_end;
  }

  abbrev walk_with : List Cell → TimedWalk
  walk_with cells = record { depart = q.depart; cells = cells; stay = q.stay }

  route_with : (t : ℕ) (cells : List Cell) → t ≤ horizon → IsOver g q horizon a states t → EndsAt q a states t → ReadsBack g (traffic_by a) q q.goal t cells
      → IsRoute g horizon a q (walk_with cells) (table_from states)
  route_with t cells in_time over ends reads =
      let traffic = traffic_by a in
      let len = reads_length g traffic q reads in
      let time : t ≡ arrival (walk_with cells) = omega (arith, len.0, len.1) in
      let is = end_arrives t over ends in
      let by : ReachesBy g q traffic q.goal t (walk_on g traffic q cells) = reads_walk g traffic q reads is.reachable in
      record {
        canonical = record {
          departs = refl;
          stays = refl;
          in_time = omega arith;
          ends = subst (λ (n : ℕ). IsArrival g traffic q n) time is;
          least = λ s other. (let le : t ≤ s = arrival_least t s over ends other in omega arith);
          reads = subst (λ (n : ℕ). ReadsBack g traffic q q.goal n cells) time reads;
        };
        walk_of = walk_of_arrival g q traffic t (walk_on g traffic q cells) by is.may_end horizon in_time;
        free = free_of_arrival g q traffic t (walk_on g traffic q cells) by is.may_end;
        least = λ v walk free. (let le : t ≤ arrival v = arrival_least t (arrival v) over ends (arrival_from_walk g horizon q traffic v walk free) in omega arith);
        settled = subst (λ (n : ℕ). IsTable g horizon a q n (table_from states)) time (table_right t in_time over);
      }

  pub route_right : (t : ℕ) (cells : List Cell) (w : TimedWalk) (table : List Settled) → t ≤ horizon → IsOver g q horizon a states t → EndsAt q a states t
      → ReadsBack g (traffic_by a) q q.goal t cells → w ≡ record { depart = q.depart; cells = cells; stay = q.stay } → table ≡ table_from states → IsRoute g horizon a q w table
  route_right t cells w table in_time over ends reads walk_is table_is =
      subst (λ (v : TimedWalk). IsRoute g horizon a q v table) (sym walk_is)
      (subst (λ (xs : List Settled). IsRoute g horizon a q (walk_with cells) xs) (sym table_is) (route_with t cells in_time over ends reads))

  pub none_right : (table : List Settled) → IsOver g q horizon a states horizon → Ends q a states None → table ≡ table_from states → IsNoRoute g horizon a q table
  none_right table over none table_is = record {
    none = λ w walk free.
        (let is = arrival_from_walk g horizon q (traffic_by a) w walk free in
        let has = arrival_final horizon (arrival w) over is walk.in_time in
        none has.place has.arrival (arrival w) has.spot has.stands has.cell_is has.holds is.may_end);
    settled = subst (λ (xs : List Settled). IsTable g horizon a q horizon xs) (sym table_is) (table_right horizon (omega arith) over);
  }

-- the table has one entry for each final state
pub table_length : (states : List State) → length (table_from states) ≡ final_count states
table_length [] = refl
table_length (x ∷ xs) = (let rest = table_length xs in entries x.spot x.mark rest) where
  entries : (p : Spot) (m : Mark) → length (table_from xs) ≡ final_count xs → length (entry_by p m ++ table_from xs) ≡ one_if_final m + final_count xs
  entries p Unseen rest = omega (arith, rest)
  entries p (Queued r) rest = omega (arith, rest)
  entries p (Final r) rest = omega (arith, rest)

-- what was loaded for a final state is needed
pub needed : (g : Terrain) (q : Request) (states : List State) (table : List Settled) (n : ℕ) → table ≡ table_from states → IsLoadedFor g states n → IsNeeded g q table n
needed g q states table n table_is (i, r, p, at, for) =
    let entry = at_entry states i r p at in
    let there : slice_get table entry.0 ≡ Some (settled_of p r) = rw table_is entry.1 in
    let asked : IsAsked q table p.cell = inr (inr (entry.0, settled_of p r, there, refl)) in
    (p.cell, asked, for)

pub needed_first : (g : Terrain) (q : Request) (table : List Settled) (n : ℕ) → (n ≡ q.start.0) ⊎ (n ≡ q.goal.0) → IsNeeded g q table n
needed_first g q table n (inl e) = (q.start, inl refl, inl (sym e))
needed_first g q table n (inr e) = (q.goal, inr (inl refl), inl (sym e))

-- what was loaded at the beginning, and then for final states
pub loads_all : (g : Terrain) (q : Request) (states : List State) (first begun last : ℕ → Option (List Record))
    → ((n : ℕ) → IsSome (begun n) → IsSome (first n) ⊎ ((n ≡ q.start.0) ⊎ (n ≡ q.goal.0))) → LoadsFor g begun last states → LoadsInAll g q first last states
loads_all g q states first begun last begins loads n is = elim (loads n is) [
  | inr for ↦ inr (inr for)
  | inl known ↦ elim (begins n known) [ inl before ↦ inl before | inr asked ↦ inr (inl asked) ]
]

pub loads_needed : (g : Terrain) (q : Request) (states : List State) (table : List Settled) (first last : ℕ → Option (List Record)) → table ≡ table_from states → LoadsInAll g q first last states
    → (n : ℕ) → IsSome (last n) → IsSome (first n) ⊎ IsNeeded g q table n
loads_needed g q states table first last table_is loads n is = elim (loads n is) [
  | inl before ↦ inl before
  | inr now ↦ elim now [ inl asked ↦ inr (needed_first g q table n asked) | inr for ↦ inr (needed g q states table n table_is for) ]
]

-- the walk that is read back from the first arrival is the best one
pub best_walk : (g : Terrain) (horizon : ℕ) (a : Assignment) (q : Request) (t : ℕ) (cells : List Cell) (w : TimedWalk) → t ≤ horizon → IsFirstArrival g q a t
    → ReadsBack g (traffic_by a) q q.goal t cells → w ≡ record { depart = q.depart; cells = cells; stay = q.stay } → IsBestWalk g horizon a q w
best_walk g horizon a q t cells w in_time first reads walk_is = subst (λ (v : TimedWalk). IsBestWalk g horizon a q v) (sym walk_is) best
  where
    walk : TimedWalk
    walk = record { depart = q.depart; cells = cells; stay = q.stay }

    best : IsBestWalk g horizon a q walk
    best =
        let len = reads_length g (traffic_by a) q reads in
        let time : t ≡ arrival walk = omega (arith, len.0, len.1) in
        let by : ReachesBy g q (traffic_by a) q.goal t (walk_on g (traffic_by a) q cells) = reads_walk g (traffic_by a) q reads first.arrives.reachable in
        record {
          canonical = record {
            departs = refl;
            stays = refl;
            in_time = omega arith;
            ends = subst (λ (n : ℕ). IsArrival g (traffic_by a) q n) time first.arrives;
            least = λ s other. (let le : t ≤ s = first.least s other in omega arith);
            reads = subst (λ (n : ℕ). ReadsBack g (traffic_by a) q q.goal n cells) time reads;
          };
          walk_of = walk_of_arrival g q (traffic_by a) t (walk_on g (traffic_by a) q cells) by first.arrives.may_end horizon in_time;
          free = free_of_arrival g q (traffic_by a) t (walk_on g (traffic_by a) q cells) by first.arrives.may_end;
          least = λ v of free. (let le : t ≤ arrival v = first.least (arrival v) (arrival_from_walk g horizon q (traffic_by a) v of free) in omega arith);
        }
