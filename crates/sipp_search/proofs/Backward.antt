-- Reading back: the neighbour from which a cell was entered, and the walk.
use Rattle.std.proofs.Common.{arith, subst, sym, ap, ◌∙◌, refl, inl, inr, append_assoc}
use Rattle.std.proofs.lemmas.Bool.{cases_lt, false≢true}
use Rattle.std.proofs.lemmas.List.{append-nil, reverse-append, length-append, length-replicate}
use Rattle.std.proofs.lemmas.Option.{same_Some}
use Rattle.std.specs.Prelude.{◌≡◌, ℕ, zero, suc, ◌+◌, ◌-◌, ◌≤◌, ◌⊎◌, ◌++◌, ◌∷◌, [], false, true, List, Option, Some, None, IsSome, IfSome, IfNone, length, slice_get, replicate, reverse}
use Rattle.fleet_base.specs.declared.grid.Cell.{Cell}
use Rattle.fleet_base.specs.declared.grid.Side.{Side}
use Rattle.fleet_base.specs.declared.request.Record.{Record}
use Rattle.fleet_base.specs.declared.request.Request.{Request}
use Rattle.fleet_base.specs.Terrain.{Terrain, IsBeside}
use Rattle.fleet_base.specs.Traffic.{Traffic}
use Rattle.fleet_base.specs.Reach.{begin, step}
use Rattle.fleet_base.specs.Canonical.{CanPrecede, IsUntaken, IsEarliest, IsFirstBefore, ReadsBack, whole, hop}
use Rattle.fleet_base.proofs.ReachLemmas.{walk_from_steps, steps_from_walk}
use Rattle.fleet_base.proofs.CanonicalLemmas.{step_back}
use Rattle.calendars.specs.Records.{covers, is_exchange}
use Rattle.calendars.specs.Assignments.{Assignment, traffic_by}
use Rattle.safe_intervals.specs.Safe.{IsIn, IsSafeInterval}
use Rattle.static_distance.specs.Distance.{IsDistance}
use Rattle.sipp_search.specs.declared.states.Spot.{Spot}
use Rattle.sipp_search.specs.declared.states.State.{State}
use Rattle.sipp_search.specs.declared.states.Arena.{Arena}
use Rattle.sipp_search.specs.Marks.{spots_of, final}
use Rattle.sipp_search.specs.Progress.{IsBound, IsWithin, IsArrived, HasFinal}
use Rattle.sipp_search.specs.Running.{IsSound, IsOver}
use Rattle.sipp_search.specs.Back.{IsOn, IsHopFrom, ReadsOn}
use Rattle.sipp_search.proofs.Lists.{stands_map}
use Rattle.sipp_search.proofs.Moves.{IsReached, reached_free, reached_open, wait_until, beside_differs}
use Rattle.sipp_search.proofs.Chains.{known_some, one_place}

-- What the arena tells of a final state.
module _ (g : Terrain) (q : Request) (horizon : ℕ) (known : ℕ → Option (List Record)) (size : ℕ) (arena : Arena) (sound : IsSound g q horizon known size arena) where
  spot_stands : (i r : ℕ) (p : Spot) → slice_get arena.states.items i ≡ Some (final p r) → slice_get (spots_of arena.states.items) i ≡ Some p
  spot_stands i r p at = stands_map (λ (z : State). z.spot) arena.states.items i (final p r) at

  pub final_known : (i r : ℕ) (p : Spot) (c : Cell) → slice_get arena.states.items i ≡ Some (final p r) → p.cell ≡ c → IsSome (known c.0)
  final_known i r p c at same =
      let of = sound.arranged.each i p (spot_stands i r p at) in
      let number : p.cell.0 ≡ c.0 = ap (λ (z : Cell). z.0) same in
      rw (← number) (known_some (known p.cell.0) of.records of.known_is)

  -- of the states of a cell one holds the time
  pub alone_final : (i : ℕ) (s : State) (c : Cell) (t : ℕ) → slice_get arena.states.items i ≡ Some s → s.spot.cell ≡ c → IsIn t s.spot.interval → (has : HasFinal arena.states.items c t)
      → s ≡ final s.spot has.arrival
  alone_final i s c t at cell inside has =
      let stands : slice_get (spots_of arena.states.items) i ≡ Some s.spot = stands_map (λ (z : State). z.spot) arena.states.items i s at in
      let place : has.place ≡ i =
      one_place g q.goal horizon known (spots_of arena.states.items) arena.newest has.place i has.spot s.spot t sound.arranged (spot_stands has.place has.arrival has.spot has.stands) stands
      (has.cell_is ∙ sym cell) has.holds inside in
      let here : slice_get arena.states.items i ≡ Some (final has.spot has.arrival) = subst (λ (k : ℕ). slice_get arena.states.items k ≡ Some (final has.spot has.arrival)) place has.stands in
      let same : s ≡ final has.spot has.arrival = same_Some s (final has.spot has.arrival) (sym at ∙ here) in
      same ∙ ap (λ (z : Spot). final z has.arrival) (sym (ap (λ (z : State). z.spot) same))

-- a cell that has no state for the time has no final one
pub none_final : (states : List State) (c : Cell) (t : ℕ) → ((i : ℕ) (p : Spot) → slice_get (spots_of states) i ≡ Some p → p.cell ≡ c → IsIn t p.interval → ⊥) → HasFinal states c t → ⊥
none_final states c t none has =
    none has.place has.spot (stands_map (λ (z : State). z.spot) states has.place (final has.spot has.arrival) has.stands) has.cell_is has.holds

pub none_holds : (o : Option ℕ) (P : Type 0) → P → IfNone o P
none_holds (Some n) P holds = tt
none_holds None P holds = holds

-- what the state that holds the time tells of the cell
pub arrival_some : (states : List State) (c : Cell) (t i : ℕ) (s : State) (o : Option ℕ) → slice_get states i ≡ Some s → s.spot.cell ≡ c
    → IfSome o (λ r. (s ≡ final s.spot r) × IsIn t s.spot.interval × (r ≤ t)) → IfSome o (λ r. (has : HasFinal states c t) × (has.arrival ≡ r))
arrival_some states c t i s None at cell told = tt
arrival_some states c t i s (Some r) at cell told = (
  record {
    place = i;
    spot = s.spot;
    arrival = r;
    stands = at ∙ ap (λ (z : State). Some z) told.0;
    cell_is = cell;
    holds = told.1;
    early = told.2;
  },
  refl,
)

pub arrival_none : (g : Terrain) (q : Request) (horizon : ℕ) (arena : Arena) (c : Cell) (t i : ℕ) (s : State) (o : Option ℕ) → slice_get arena.states.items i ≡ Some s → s.spot.cell ≡ c
    → IsIn t s.spot.interval → IfNone o ((r : ℕ) → s ≡ final s.spot r → IsIn t s.spot.interval → r ≤ t → ⊥)
    → IfNone o ((known : ℕ → Option (List Record)) (size : ℕ) → IsSound g q horizon known size arena → HasFinal arena.states.items c t → ⊥)
arrival_none g q horizon arena c t i s (Some r) at cell inside none = tt
arrival_none g q horizon arena c t i s None at cell inside none = λ known size sound has.
    none has.arrival (alone_final g q horizon known size arena sound i s c t at cell inside has) inside has.early

-- How cells are reached.
module _ (g : Terrain) (q : Request) (a : Assignment) where
  pub back_beside : (side : Side) (c n : Cell) → IsBeside g side c n → (other : Side) × IsBeside g other n c
  back_beside side c n beside = elim (step_back g side c n beside) [
    | inl same ↦ absurd (beside_differs g side c n beside same)
    | inr found ↦ found
  ]

  -- a state is entered by a move, unless it is the start at the departure
  pub record EnteredBy (c : Cell) (t : ℕ) : Type 0 where
    pub side : Side
    pub from : Cell
    pub before : ℕ
    pub time_is : t ≡ before + 1
    pub beside : IsBeside g side c from
    pub precedes : CanPrecede g (traffic_by a) q from c before

  pub last_step : {c : Cell} {t : ℕ} → IsReached g q a c t → ((u : ℕ) → t ≡ u + 1 → IsReached g q a c u → ⊥) → ((c ≡ q.start) × (t ≡ q.depart)) ⊎ EnteredBy c t
  last_step (begin opened untaken) not_before = inl (refl, refl)
  last_step (step {c = n} {d = c} {t = u} before moves opened clear) not_before = elim moves [
    | inl same ↦ absurd (not_before u refl (subst (λ (z : Cell). IsReached g q a z u) (sym same) before))
    | inr beside ↦
        let back = back_beside beside.0 n c beside.1 in
        inr (record { side = back.0; from = n; before = u; time_is = refl; beside = back.1; precedes = record { reachable = walk_from_steps g q (traffic_by a) before; clear = clear } })
  ]

  -- what is known of a state tells since when its cell is reached
  pub earliest_of : (horizon : ℕ) (c : Cell) (u r : ℕ) (p : Spot) → IsSafeInterval (a p.cell.0) horizon p.interval → p.cell ≡ c → IsIn u p.interval → r ≤ u
      → IsArrived g q a p r → ((t : ℕ) → IsArrived g q a p t → r ≤ t) → IsEarliest g (traffic_by a) q c u r
  earliest_of horizon c u r p safe' cell_is holds early arrived least =
      let safe : IsSafeInterval (a c.0) horizon p.interval = subst (λ (z : Cell). IsSafeInterval (a z.0) horizon p.interval) cell_is safe' in
      record {
        before = early;
        reachable = walk_from_steps g q (traffic_by a) (subst (λ (z : Cell). IsReached g q a z r) cell_is arrived.reached);
        untaken = λ x low high. safe.free x (omega (arith, arrived.inside.0), omega (arith, holds.1));
        earliest = λ v le reachable untaken.
            (let reached : IsReached g q a c v = steps_from_walk g q (traffic_by a) c v reachable in
            let there : IsReached g q a p.cell v = subst (λ (z : Cell). IsReached g q a z v) (sym cell_is) reached in
            least v (record { reached = there; inside = (since safe v le untaken, omega (arith, holds.1)) }));
      }
    where
      since : IsSafeInterval (a c.0) horizon p.interval → (v : ℕ) → v ≤ u → IsUntaken (traffic_by a) c v u → p.interval.from ≤ v
      since safe v le untaken = elim (cases_lt v p.interval.from) [
        | inr ok ↦ ok
        | inl early ↦ elim safe.begins [
          | inl start ↦ absurd (omega arith)
          | inr edge ↦
              let free : covers (a c.0) (p.interval.from - 1) ≡ false = untaken (p.interval.from - 1) (omega arith) (omega (arith, holds.0)) in
              absurd (false≢true (sym free ∙ edge.1))
        ]
      ]

-- Once the search is over, final states tell what is reachable.
module _ (g : Terrain) (q : Request) (horizon : ℕ) (a : Assignment) (bound : IsBound g q.goal) (states : List State) (limit : ℕ) (over : IsOver g q horizon a states limit) where
  interval_safe : (i r : ℕ) (p : Spot) → slice_get states i ≡ Some (final p r) → IsSafeInterval (a p.cell.0) horizon p.interval
  interval_safe i r p at = over.spots.safe i p (stands_map (λ (z : State). z.spot) states i (final p r) at)

  pub on_reached : (c : Cell) (t : ℕ) → IsOn states c t → IsReached g q a c t
  on_reached c t on = subst (λ (z : Cell). IsReached g q a z t) on.cell_is (over.final_well on.place t on.spot on.stands).arrived.reached

  -- the agent can wait until the time
  pub final_reached : (c : Cell) (u : ℕ) → HasFinal states c u → IsReached g q a c u
  final_reached c u has =
      let well = over.final_well has.place has.arrival has.spot has.stands in
      let safe = interval_safe has.place has.arrival has.spot has.stands in
      subst (λ (z : Cell). IsReached g q a z u) has.cell_is
      (wait_until g q a has.spot.cell has.arrival u well.arrived.reached has.early (λ x low high. safe.free x (omega (arith, well.arrived.inside.0), omega (arith, has.holds.1))))

  pub final_earliest : (c : Cell) (u : ℕ) (has : HasFinal states c u) → IsEarliest g (traffic_by a) q c u has.arrival
  final_earliest c u has =
      let well = over.final_well has.place has.arrival has.spot has.stands in
      earliest_of g q a horizon c u has.arrival has.spot (interval_safe has.place has.arrival has.spot has.stands) has.cell_is has.holds has.early well.arrived well.least

  pub hop_found : (c n : Cell) (t u : ℕ) (side : Side) → IsOn states c t → t ≡ u + 1 → IsBeside g side c n → (has : HasFinal states n u) → is_exchange (a n.0) (a c.0) u ≡ false
      → IsHopFrom g q a states c t side n has.arrival
  hop_found c n t u side on time beside has unbarred = record {
    before = u;
    time_is = time;
    beside = beside;
    precedes = record {
      reachable = walk_from_steps g q (traffic_by a) (final_reached n u has);
      clear = record {
        untaken = subst (λ (m : ℕ). covers (a c.0) m ≡ false) time (reached_free g q a (on_reached c t on));
        unbarred = λ differ. unbarred;
      };
    };
    earliest = final_earliest n u has;
    on = record { place = has.place; spot = has.spot; stands = has.stands; cell_is = has.cell_is };
  }

  -- a cell that can precede has a final state
  pub hop_final : (c n : Cell) (t u : ℕ) (side : Side) → IsOn states c t → t ≡ u + 1 → IsBeside g side c n → CanPrecede g (traffic_by a) q n c u → HasFinal states n u
  hop_final c n t u side on time beside can =
      let reached : IsReached g q a n u = steps_from_walk g q (traffic_by a) n u can.reachable in
      let well = over.final_well on.place t on.spot on.stands in
      let distance : IsDistance g q.goal c on.spot.left =
      subst (λ (z : Cell). IsDistance g q.goal z on.spot.left) on.cell_is (over.spots.distance on.place on.spot (stands_map (λ (z : State). z.spot) states on.place (final on.spot t) on.stands)) in
      let back = back_beside g q a side c n beside in
      let within : IsWithin g q.goal n (on.spot.left + 1) = bound.falls back.0 n c on.spot.left (reached_open g q a reached) back.1 distance in
      over.complete n u (on.spot.left + 1) reached within (omega (arith, well.before))

  pub entered : (c : Cell) (t : ℕ) → IsOn states c t → ((c ≡ q.start) × (t ≡ q.depart)) ⊎ EnteredBy g q a c t
  entered c t on = last_step g q a (on_reached c t on) (λ u time reached. earlier u time reached)
    where
      earlier : (u : ℕ) → t ≡ u + 1 → IsReached g q a c u → ⊥
      earlier u time reached =
          let well = over.final_well on.place t on.spot on.stands in
          let safe : IsSafeInterval (a c.0) horizon on.spot.interval = subst (λ (z : Cell). IsSafeInterval (a z.0) horizon on.spot.interval) on.cell_is (interval_safe on.place t on.spot on.stands) in
          elim (cases_lt u on.spot.interval.from) [
            | inr inside ↦
                let there : IsReached g q a on.spot.cell u = subst (λ (z : Cell). IsReached g q a z u) (sym on.cell_is) reached in
                omega (arith, well.least u (record { reached = there; inside = (inside, omega (arith, well.arrived.inside.1)) }))
            | inl early ↦ elim safe.begins [
              | inl start ↦ omega arith
              | inr edge ↦
                  let e : on.spot.interval.from - 1 ≡ u = omega (arith, well.arrived.inside.0) in
                  let taken : covers (a c.0) u ≡ true = rw e at edge.1 in
                  false≢true (sym (reached_free g q a reached) ∙ taken)
            ]
          ]

  -- where no side leads back, the start is reached
  pub at_start : (c : Cell) (t : ℕ) → IsOn states c t → ((side : Side) (n : Cell) (u : ℕ) → IsBeside g side c n → t ≡ u + 1 → ¬ (CanPrecede g (traffic_by a) q n c u))
      → (c ≡ q.start) × (t ≡ q.depart)
  at_start c t on none = elim (entered c t on) [
    | inl start ↦ start
    | inr by ↦ absurd (none by.side by.from by.before by.beside by.time_is by.precedes)
  ]

-- The cells that are read back.
module _ (g : Terrain) (q : Request) (a : Assignment) (arrival : ℕ) where
  pub reads_nothing : (cells : List Cell) → cells ≡ [] → ReadsOn g q a arrival q.goal arrival (reverse cells)
  reads_nothing cells e front back = rw e (rw append-nil back)

  pub reads_step : (c n : Cell) (t u s k : ℕ) (rest : List Cell) → ReadsOn g q a arrival c t rest → t ≡ u + 1 → IsFirstBefore g (traffic_by a) q n c u
      → IsEarliest g (traffic_by a) q n u s → k ≡ t - 1 - s → ReadsOn g q a arrival n s (replicate k n ++ c ∷ rest)
  reads_step c n t u s k rest reads time_is first earliest k_is front back =
      let count : k ≡ u - s = omega (arith, time_is) in
      let more : ReadsBack g (traffic_by a) q c t (front ++ replicate (u - s) n ++ c ∷ []) =
      subst (λ (m : ℕ). ReadsBack g (traffic_by a) q c m (front ++ replicate (u - s) n ++ c ∷ [])) (sym time_is) (hop first earliest back) in
      let same : (front ++ replicate (u - s) n ++ c ∷ []) ++ rest ≡ front ++ (replicate k n ++ c ∷ rest) =
      rw count (append_assoc (front ++ replicate (u - s) n) (c ∷ []) rest ∙ append_assoc front (replicate (u - s) n) (c ∷ rest)) in
      rw same at (reads (front ++ replicate (u - s) n ++ c ∷ []) more)

  pub reads_done : (c : Cell) (t : ℕ) (cells cells' : List Cell) → ReadsOn g q a arrival c t (reverse cells) → c ≡ q.start → t ≡ q.depart → cells' ≡ cells ++ c ∷ []
      → ReadsBack g (traffic_by a) q q.goal arrival (reverse cells')
  reads_done c t cells cells' reads start depart is =
      let here : ReadsBack g (traffic_by a) q c t (c ∷ []) =
      subst (λ (m : ℕ). ReadsBack g (traffic_by a) q c m (c ∷ [])) (sym depart) (subst (λ (z : Cell). ReadsBack g (traffic_by a) q z q.depart (z ∷ [])) (sym start) whole) in
      let same : (c ∷ []) ++ reverse cells ≡ reverse cells' = sym (ap reverse is ∙ reverse-append cells (c ∷ [])) in
      rw same at (reads (c ∷ []) here)

pub replicate-push : {X : Type 0} (k : ℕ) (x : X) → replicate k x ++ x ∷ [] ≡ x ∷ replicate k x
replicate-push zero x = refl
replicate-push (suc k) x = ap (λ xs. x ∷ xs) (replicate-push k x)

reverse-replicate : {X : Type 0} (k : ℕ) (x : X) → reverse (replicate k x) ≡ replicate k x
reverse-replicate zero x = refl
reverse-replicate (suc k) x = reverse-append (x ∷ []) (replicate k x) ∙ (ap (λ xs. xs ++ x ∷ []) (reverse-replicate k x) ∙ replicate-push k x)

-- the cells after one hop
pub hop_cells : (cells cells' cells'' : List Cell) (c n : Cell) (k : ℕ) → cells' ≡ cells ++ c ∷ [] → cells'' ≡ cells' ++ replicate k n
    → replicate k n ++ c ∷ reverse cells ≡ reverse cells''
hop_cells cells cells' cells'' c n k one two =
    sym (ap reverse (two ∙ ap (λ (xs : List Cell). xs ++ replicate k n) one)
    ∙ (reverse-append (cells ++ c ∷ []) (replicate k n)
    ∙ (ap (λ (xs : List Cell). xs ++ reverse (cells ++ c ∷ [])) (reverse-replicate k n)
    ∙ ap (λ (xs : List Cell). replicate k n ++ xs) (reverse-append cells (c ∷ [])))))

-- one cell is read back for each time
pub reads_length : (g : Terrain) (traffic : Traffic) (q : Request) {c : Cell} {t : ℕ} {cells : List Cell} → ReadsBack g traffic q c t cells → (length cells + q.depart ≡ t + 1) × (1 ≤ length cells)
reads_length g traffic q whole = (omega arith, omega arith)
reads_length g traffic q (hop {n} {c} {s} {t} {cells} first earliest front) =
    let before = reads_length g traffic q front in
    let all : length (cells ++ replicate (t - s) n ++ c ∷ []) ≡ length cells + (t - s) + 1 =
    length-append (cells ++ replicate (t - s) n) (c ∷ []) ∙ ap (λ m. m + 1) (length-append cells (replicate (t - s) n) ∙ ap (λ m. length cells + m) (length-replicate (t - s) n)) in
    (omega (arith, before.0, earliest.before), omega arith)
