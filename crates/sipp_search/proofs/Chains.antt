-- The chain of a cell's spots: it leads to each of them, also once one is added; and what stays where more is known.
use Rattle.std.proofs.Common.{arith, subst, sym, ap, ◌∙◌, refl, inl, inr, set, length-append}
use Rattle.std.proofs.lemmas.Bool.{cases_lt, cases_eq, false≢true}
use Rattle.std.proofs.lemmas.Option.{slice_get_within, same_Some, none-some}
use Rattle.std.specs.Prelude.{◌≡◌, ◌≢◌, ℕ, zero, suc, ◌+◌, ◌-◌, ◌<◌, ◌≤◌, ◌⊎◌, ◌++◌, ◌∷◌, [], List, Option, Some, None, IsSome, length, slice_get, slice_set}
use Rattle.fleet_base.specs.declared.grid.Cell.{Cell}
use Rattle.fleet_base.specs.declared.request.Record.{Record}
use Rattle.fleet_base.specs.declared.request.Request.{Request}
use Rattle.fleet_base.specs.Terrain.{Terrain}
use Rattle.fleet_base.proofs.TrafficLemmas.{same_cells}
use Rattle.safe_intervals.specs.declared.interval.Interval.{Interval}
use Rattle.safe_intervals.specs.Safe.{IsIn, IsSafeInterval}
use Rattle.sipp_search.specs.declared.states.Spot.{Spot}
use Rattle.sipp_search.specs.declared.states.State.{State}
use Rattle.sipp_search.specs.declared.states.Arena.{Arena}
use Rattle.sipp_search.specs.Marks.{spots_of}
use Rattle.sipp_search.specs.Arena.{IsOfArena, IsLastOf, AreChained, IsArena}
use Rattle.sipp_search.specs.Running.{IsSound, KeepsKnown}
use Rattle.sipp_search.proofs.Lists.{slice_get-append_right, stands_left, append_cases, set_cases, stands_map, map_stands}

pub known_some : (o : Option (List Record)) (rs : List Record) → o ≡ Some rs → IsSome o
known_some o rs is = rw is refl

pub records_known : (o : Option (List Record)) → IsSome o → (rs : List Record) × (o ≡ Some rs)
records_known None is = absurd (false≢true is)
records_known (Some rs) is = (rs, refl)

-- what stands behind one more element
pub added_cases : {X : Type 0} (xs : List X) (y : X) (i : ℕ) (x : X) → slice_get (xs ++ y ∷ []) i ≡ Some x → (slice_get xs i ≡ Some x) ⊎ ((i ≡ length xs) × (y ≡ x))
added_cases xs y i x at = elim (append_cases xs (y ∷ []) i x at) [
  | inl old ↦ inl old
  | inr new ↦ inr (alone new.0 new.1 new.2)
]
  where
    alone : (j : ℕ) → i ≡ length xs + j → slice_get (y ∷ []) j ≡ Some x → (i ≡ length xs) × (y ≡ x)
    alone zero place here = (omega arith, same_Some y x here)
    alone (suc j) place here = absurd (none-some x here)

pub added_stands : {X : Type 0} (xs : List X) (y : X) → slice_get (xs ++ y ∷ []) (length xs) ≡ Some y
added_stands xs y = let e : length xs + 0 ≡ length xs = omega arith in rw e at (slice_get-append_right xs (y ∷ []) 0)

pub stands_added : {X : Type 0} (xs ys : List X) (y : X) (i : ℕ) → ys ≡ xs ++ y ∷ [] → i ≡ length xs → slice_get ys i ≡ Some y
stands_added {X = X} xs ys y i is place =
    ap (λ (zs : List X). slice_get zs i) is ∙ (ap (λ (n : ℕ). slice_get (xs ++ y ∷ []) n) place ∙ added_stands xs y)

-- the last one below a bound stays it where spots are added behind
pub last_kept : (spots fresh : List Spot) (bound : ℕ) (c : Cell) (n : ℕ) → bound ≤ length spots → IsLastOf spots bound c n → IsLastOf (spots ++ fresh) bound c n
last_kept spots fresh bound c n within last = record {
  none_later = λ i p low at cell. elim (append_cases spots fresh i p at) [
    | inl old ↦ last.none_later i p low old cell
    | inr new ↦ absurd (omega (arith, new.1))
  ];
  stands = λ i is.
      (let there = last.stands i is in
      (there.0, (there.1.0, stands_left spots fresh i there.1.0 there.1.1, there.1.2)));
}

-- a spot is added whose cell's last one is `older`
module _ (spots : List Spot) (newest : List ℕ) (p : Spot) (chained : AreChained spots newest) (newest_is : slice_get newest p.cell.0 ≡ Some p.older) where
  inside : p.cell.0 < length newest
  inside = slice_get_within newest p.cell.0 p.older newest_is

  more : length (spots ++ p ∷ []) ≡ length spots + 1
  more = length-append spots (p ∷ [])

  -- it is the last one of its cell
  is_last : IsLastOf (spots ++ p ∷ []) (length (spots ++ p ∷ [])) p.cell (suc (length spots))
  is_last = record {
    none_later = λ i r low at cell. omega (arith, more);
    stands = λ i is.
        (let e : length spots ≡ i = omega arith in
        (omega (arith, more), (p, subst (λ (k : ℕ). slice_get (spots ++ p ∷ []) k ≡ Some p) e (added_stands spots p), refl)));
  }

  -- the last one of another cell stays it
  other_last : (c : Cell) (n : ℕ) → (c.0 ≡ p.cell.0 → ⊥) → IsLastOf spots (length spots) c n → IsLastOf (spots ++ p ∷ []) (length (spots ++ p ∷ [])) c n
  other_last c n other last = record {
    none_later = λ i r low at cell. elim (added_cases spots p i r at) [
      | inl old ↦ last.none_later i r (slice_get_within spots i r old) old cell
      | inr new ↦ absurd (other (ap (λ (z : Cell). z.0) (sym cell ∙ ap (λ (z : Spot). z.cell) (sym new.1))))
    ];
    stands = λ i is.
        (let there = last.stands i is in
        (omega (arith, more, there.0), (there.1.0, stands_left spots (p ∷ []) i there.1.0 there.1.1, there.1.2)));
  }

  pub chained_added : AreChained (spots ++ p ∷ []) (set newest p.cell.0 (suc (length spots)))
  chained_added = record {
    last = λ c n at. elim (set_cases newest p.cell.0 c.0 (suc (length spots)) n inside at) [
      | inl same ↦
          let cell : p.cell ≡ c = same_cells p.cell c (sym same.0) in
          subst (λ (z : Cell). IsLastOf (spots ++ p ∷ []) (length (spots ++ p ∷ [])) z n) cell
          (subst (λ (k : ℕ). IsLastOf (spots ++ p ∷ []) (length (spots ++ p ∷ [])) p.cell k) same.1 is_last)
      | inr other ↦ other_last c n other.0 (chained.last c n other.1)
    ];
    before = λ j r at. elim (added_cases spots p j r at) [
      | inl old ↦ last_kept spots (p ∷ []) j r.cell r.older (omega (arith, slice_get_within spots j r old)) (chained.before j r old)
      | inr new ↦
          let here : IsLastOf (spots ++ p ∷ []) (length spots) p.cell p.older = last_kept spots (p ∷ []) (length spots) p.cell p.older (omega arith) (chained.last p.cell p.older newest_is) in
          subst (λ (z : Spot). IsLastOf (spots ++ p ∷ []) j z.cell z.older) new.1 (subst (λ (k : ℕ). IsLastOf (spots ++ p ∷ []) k p.cell p.older) (sym new.0) here)
    ];
  }

-- a spot is what it is, whatever comes before it in the chain
pub of_arena_older : (g : Terrain) (goal : Cell) (horizon : ℕ) (known : ℕ → Option (List Record)) (p : Spot) (older : ℕ) → IsOfArena g goal horizon known p
    → IsOfArena g goal horizon known (record p { older = older })
of_arena_older g goal horizon known p older of = record {
  records = of.records;
  known_is = of.known_is;
  safe = of.safe;
  distance = of.distance;
  place_is = of.place_is;
}

-- a spot is added of an interval that had none
pub arena_added : (g : Terrain) (goal : Cell) (horizon : ℕ) (known : ℕ → Option (List Record)) (spots : List Spot) (newest : List ℕ) (p : Spot) (older : ℕ)
    → IsArena g goal horizon known spots newest → IsOfArena g goal horizon known p → slice_get newest p.cell.0 ≡ Some older
    → ((i : ℕ) (r : Spot) → slice_get spots i ≡ Some r → r.cell ≡ p.cell → r.interval ≢ p.interval)
    → IsArena g goal horizon known (spots ++ record p { older = older } ∷ []) (slice_set newest p.cell.0 (suc (length spots)))
arena_added g goal horizon known spots newest p older arena of newest_is new_here = record {
  each = λ j r at. elim (added_cases spots q j r at) [
    | inl old ↦ arena.each j r old
    | inr new ↦ subst (λ (z : Spot). IsOfArena g goal horizon known z) new.1 (of_arena_older g goal horizon known p older of)
  ];
  once = λ i j r s at at' cells intervals. elim (added_cases spots q i r at) [
    | inl one ↦ elim (added_cases spots q j s at') [
      | inl two ↦ arena.once i j r s one two cells intervals
      | inr two ↦ absurd (apart i r s one two.1 cells intervals)
    ]
    | inr one ↦ elim (added_cases spots q j s at') [
      | inl two ↦ absurd (apart j s r two one.1 (sym cells) (sym intervals))
      | inr two ↦ one.0 ∙ sym two.0
    ]
  ];
  chained = chained_added spots newest q arena.chained newest_is;
}
  where
    q : Spot
    q = record p { older = older }

    apart : (i : ℕ) (r s : Spot) → slice_get spots i ≡ Some r → q ≡ s → r.cell ≡ s.cell → r.interval ≡ s.interval → ⊥
    apart i r s at same cells intervals =
        new_here i r at (cells ∙ ap (λ (z : Spot). z.cell) (sym same)) (intervals ∙ ap (λ (z : Spot). z.interval) (sym same))

-- What stays where more is known.
module _ (g : Terrain) (goal : Cell) (horizon : ℕ) (known known' : ℕ → Option (List Record)) (kept : KeepsKnown known known') where
  pub of_arena_known : (p : Spot) → IsOfArena g goal horizon known p → IsOfArena g goal horizon known' p
  of_arena_known p of = record {
    records = of.records;
    known_is = kept p.cell.0 (known_some (known p.cell.0) of.records of.known_is) ∙ of.known_is;
    safe = of.safe;
    distance = of.distance;
    place_is = of.place_is;
  }

  pub arena_known : (spots : List Spot) (newest : List ℕ) → IsArena g goal horizon known spots newest → IsArena g goal horizon known' spots newest
  arena_known spots newest arena = record {
    each = λ j p at. of_arena_known p (arena.each j p at);
    once = arena.once;
    chained = arena.chained;
  }

pub sound_known : (g : Terrain) (q : Request) (horizon : ℕ) (known known' : ℕ → Option (List Record)) (size : ℕ) (arena : Arena) → KeepsKnown known known'
    → IsSound g q horizon known size arena → IsSound g q horizon known' size arena
sound_known g q horizon known known' size arena kept sound = record {
  paired = sound.paired;
  bound = sound.bound;
  count = sound.count;
  arranged = arena_known g q.goal horizon known known' kept _ _ sound.arranged;
  aimed = sound.aimed;
  goal_is = sound.goal_is;
  room_is = sound.room_is;
}

-- Two safe intervals of a cell that hold the same time are the same.
made : ℕ → ℕ → Interval
made m n = record { from = m; to = n }

same_ends : (i j : Interval) → i.from ≡ j.from → i.to ≡ j.to → i ≡ j
unfolding made
same_ends i j from to = ap (λ (n : ℕ). made n i.to) from ∙ ap (λ (n : ℕ). made j.from n) to

module _ (records : List Record) (horizon : ℕ) where
  begins_no_later : (i j : Interval) (t : ℕ) → IsSafeInterval records horizon i → IsSafeInterval records horizon j → IsIn t i → IsIn t j → j.from ≤ i.from
  begins_no_later i j t one two in_one in_two = elim (cases_lt i.from j.from) [
    | inr ok ↦ ok
    | inl less ↦ elim two.begins [
      | inl start ↦ omega arith
      | inr edge ↦ absurd (false≢true (sym (one.free (j.from - 1) (omega arith, omega (arith, in_one.1, in_two.0))) ∙ edge.1))
    ]
  ]

  ends_no_earlier : (i j : Interval) (t : ℕ) → IsSafeInterval records horizon i → IsSafeInterval records horizon j → IsIn t i → IsIn t j → i.to ≤ j.to
  ends_no_earlier i j t one two in_one in_two = elim (cases_lt j.to i.to) [
    | inr ok ↦ ok
    | inl less ↦ elim two.ends [
      | inl last ↦ omega (arith, one.within)
      | inr edge ↦ absurd (false≢true (sym (one.free (j.to + 1) (omega (arith, in_one.0, in_two.1), omega arith)) ∙ edge))
    ]
  ]

  pub same_safe : (i j : Interval) (t : ℕ) → IsSafeInterval records horizon i → IsSafeInterval records horizon j → IsIn t i → IsIn t j → i ≡ j
  same_safe i j t one two in_one in_two =
      let low : j.from ≤ i.from = begins_no_later i j t one two in_one in_two in
      let low' : i.from ≤ j.from = begins_no_later j i t two one in_two in_one in
      let high : i.to ≤ j.to = ends_no_earlier i j t one two in_one in_two in
      let high' : j.to ≤ i.to = ends_no_earlier j i t two one in_two in_one in
      same_ends i j (omega arith) (omega arith)

-- two spots of a cell that hold the same time have the same interval
pub same_interval : (g : Terrain) (goal : Cell) (horizon : ℕ) (known : ℕ → Option (List Record)) (p r : Spot) (t : ℕ) → IsOfArena g goal horizon known p → IsOfArena g goal horizon known r
    → p.cell ≡ r.cell → IsIn t p.interval → IsIn t r.interval → p.interval ≡ r.interval
same_interval g goal horizon known p r t one two cells in_one in_two =
    let there : known p.cell.0 ≡ Some two.records = subst (λ (z : Cell). known z.0 ≡ Some two.records) (sym cells) two.known_is in
    let same : two.records ≡ one.records = same_Some two.records one.records (sym there ∙ one.known_is) in
    same_safe one.records horizon p.interval r.interval t one.safe (subst (λ (rs : List Record). IsSafeInterval rs horizon r.interval) same two.safe) in_one in_two

-- so they stand at the same place
pub one_place : (g : Terrain) (goal : Cell) (horizon : ℕ) (known : ℕ → Option (List Record)) (spots : List Spot) (newest : List ℕ) (i j : ℕ) (p r : Spot) (t : ℕ)
    → IsArena g goal horizon known spots newest → slice_get spots i ≡ Some p → slice_get spots j ≡ Some r → p.cell ≡ r.cell → IsIn t p.interval → IsIn t r.interval → i ≡ j
one_place g goal horizon known spots newest i j p r t arena at at' cells in_one in_two =
    arena.once i j p r at at' cells (same_interval g goal horizon known p r t (arena.each i p at) (arena.each j r at') cells in_one in_two)

-- Going along a cell's chain: whatever of it fits stands below `next`, where another one of its spots stands, if any.
pub record IsAlong (spots : List Spot) (c : Cell) (fits : Spot → Type 0) (next : ℕ) : Type 0 where
  pub none_from : (i : ℕ) (p : Spot) → next ≤ i → slice_get spots i ≡ Some p → p.cell ≡ c → fits p → ⊥
  pub stands : (i : ℕ) → next ≡ suc i → (p : Spot) × (slice_get spots i ≡ Some p) × (p.cell ≡ c)

module _ (spots : List Spot) (newest : List ℕ) (c : Cell) (fits : Spot → Type 0) (chained : AreChained spots newest) where
  pub along_first : (n : ℕ) → slice_get newest c.0 ≡ Some n → IsAlong spots c fits n
  along_first n at =
      let last = chained.last c n at in
      record {
        none_from = λ i p low here cell fit. (let below : i < n = last.none_later i p (slice_get_within spots i p here) here cell in omega arith);
        stands = λ i is. (last.stands i is).1;
      }

  pub along_next : (i : ℕ) (p : Spot) → IsAlong spots c fits (suc i) → slice_get spots i ≡ Some p → (fits p → ⊥) → IsAlong spots c fits p.older
  along_next i p along at unfit =
      let here = along.stands i refl in
      let same : here.0 ≡ p = same_Some here.0 p (sym here.1 ∙ at) in
      let cell : p.cell ≡ c = sym (ap (λ (z : Spot). z.cell) same) ∙ here.2 in
      let last : IsLastOf spots i c p.older = subst (λ (z : Cell). IsLastOf spots i z p.older) cell (chained.before i p at) in
      record {
        none_from = λ j r low there cell' fit. elim (cases_lt j i) [
          | inl below ↦ (let bad : j < p.older = last.none_later j r below there cell' in omega arith)
          | inr past ↦ elim (cases_eq j i) [
            | inl equal ↦
                let r_is : r ≡ p = same_Some r p (sym (subst (λ (k : ℕ). slice_get spots k ≡ Some r) equal there) ∙ at) in
                unfit (subst (λ (z : Spot). fits z) r_is fit)
            | inr other ↦ along.none_from j r (omega arith) there cell' fit
          ]
        ];
        stands = λ j is. (last.stands j is).1;
      }

  pub along_none : (n : ℕ) → n ≡ 0 → IsAlong spots c fits n → (i : ℕ) (p : Spot) → slice_get spots i ≡ Some p → p.cell ≡ c → fits p → ⊥
  along_none n is along i p at cell fit = along.none_from i p (omega arith) at cell fit

-- the chain goes down
pub older_below : (spots : List Spot) (newest : List ℕ) (i : ℕ) (p : Spot) → AreChained spots newest → slice_get spots i ≡ Some p → p.older ≤ i
older_below spots newest i p chained at = elim (cases_eq p.older 0) [
  | inl none ↦ omega arith
  | inr some ↦ (let below = (chained.before i p at).stands (p.older - 1) (omega arith) in omega (arith, below.0))
]

-- the same, by the states
module _ (states : List State) (newest : List ℕ) (c : Cell) (chained : AreChained (spots_of states) newest) where
  pub newest_state : (n : ℕ) → slice_get newest c.0 ≡ Some n → 0 < n → (s : State) × (slice_get states (n - 1) ≡ Some s) × (s.spot.cell ≡ c)
  newest_state n at some =
      let there = (chained.last c n at).stands (n - 1) (omega arith) in
      let state = map_stands (λ (z : State). z.spot) states (n - 1) there.1.0 there.1.1 in
      (state.0, state.1, ap (λ (z : Spot). z.cell) state.2 ∙ there.1.2)

  pub older_less : (n : ℕ) (s : State) → 0 < n → slice_get states (n - 1) ≡ Some s → s.spot.older < n
  older_less n s some at =
      let low : s.spot.older ≤ n - 1 = older_below (spots_of states) newest (n - 1) s.spot chained (stands_map (λ (z : State). z.spot) states (n - 1) s at) in
      omega arith

  pub along_state : (fits : Spot → Type 0) (n : ℕ) → 0 < n → IsAlong (spots_of states) c fits n → (s : State) × (slice_get states (n - 1) ≡ Some s) × (s.spot.cell ≡ c)
  along_state fits n some along =
      let there = along.stands (n - 1) (omega arith) in
      let state = map_stands (λ (z : State). z.spot) states (n - 1) there.0 there.1 in
      (state.0, state.1, ap (λ (z : Spot). z.cell) state.2 ∙ there.2)

  pub along_past : (fits : Spot → Type 0) (n : ℕ) (s : State) → 0 < n → IsAlong (spots_of states) c fits n → slice_get states (n - 1) ≡ Some s → (fits s.spot → ⊥)
      → IsAlong (spots_of states) c fits s.spot.older
  along_past fits n s some along at unfit =
      let e : n ≡ suc (n - 1) = omega arith in
      along_next (spots_of states) newest c fits chained (n - 1) s.spot (subst (λ (k : ℕ). IsAlong (spots_of states) c fits k) e along)
      (stands_map (λ (z : State). z.spot) states (n - 1) s at) unfit
