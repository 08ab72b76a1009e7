-- What a change of marks leaves: an arrival is offered to a state, states are added, and a queued state becomes final.
use Rattle.std.proofs.Common.{arith, subst, sym, ap, ◌∙◌, refl, inl, inr, set}
use Rattle.std.proofs.lemmas.Bool.{cases_eq, ltb-true, ltb-false}
use Rattle.std.proofs.lemmas.Option.{slice_get_within, same_Some, none-some}
use Rattle.std.proofs.lemmas.List.{map-set}
use Rattle.std.specs.Prelude.{◌≡◌, ℕ, zero, suc, ◌+◌, ◌<◌, ◌≤◌, ◌⊎◌, Bool, true, false, nat_lt, List, [], ◌∷◌, ◌++◌, Option, Some, None, length, slice_get, if◌then◌else◌}
use Rattle.fleet_base.specs.declared.grid.Cell.{Cell}
use Rattle.fleet_base.specs.declared.request.Request.{Request}
use Rattle.fleet_base.specs.Terrain.{Terrain}
use Rattle.calendars.specs.Assignments.{Assignment}
use Rattle.safe_intervals.specs.Safe.{IsIn}
use Rattle.bucket_queue.specs.Queue.{Queue, HasKey, TakesLeast, TakesNone}
use Rattle.sipp_search.specs.declared.states.Spot.{Spot}
use Rattle.sipp_search.specs.declared.states.State.{State}
use Rattle.sipp_search.specs.declared.states.Mark.{Mark}
use Rattle.sipp_search.specs.declared.states.Mark.TheVariants.{Unseen, Queued, Final}
use Rattle.sipp_search.specs.Marks.{spots_of, queued, final, offered_mark, offered, one_if_final, final_count, key_of, keys_of, key_by_mark}
use Rattle.sipp_search.specs.Progress.{IsBound, HasSeen, AreSpots, IsQueuedWell, IsFinalWell, LeadsOn, AreQueuedWell, IsUnderWay, Improves}
use Rattle.sipp_search.proofs.Lists.{slice_get-set_at, slice_get-set_other, set_cases, set_same, stands_left, append_cases, stands_map, map_stands}
use Rattle.sipp_search.proofs.Closing.{EachLeads, taken_least}

-- where the mark has an arrival, the new mark has one that is no later
abbrev pub IsNoLater : Mark → Mark → Type 0
IsNoLater m m' = (r : ℕ) → (m ≡ Queued r) ⊎ (m ≡ Final r) → (r' : ℕ) × ((m' ≡ Queued r') ⊎ (m' ≡ Final r')) × (r' ≤ r)

abbrev pub marked : Spot → Mark → State
marked p m = record { spot = p; mark = m }

same_mark : (p o : Spot) (m n : Mark) → Some (marked p m) ≡ Some (marked o n) → (p ≡ o) × (m ≡ n)
same_mark p o m n e =
    let same : marked p m ≡ marked o n = same_Some (marked p m) (marked o n) e in
    (ap (λ (z : State). z.spot) same, ap (λ (z : State). z.mark) same)

-- what was seen is still seen where a mark gets no later
pub seen_set : (states : List State) (x : ℕ) (p : Spot) (m m' : Mark) → slice_get states x ≡ Some (marked p m) → IsNoLater m m'
    → (c : Cell) (t : ℕ) → HasSeen states c t → HasSeen (set states x (marked p m')) c t
seen_set states x p m m' at later c t seen = elim (cases_eq seen.place x) [
  | inr ne ↦ record {
    place = seen.place;
    spot = seen.spot;
    arrival = seen.arrival;
    stands = elim seen.stands [
      | inl h ↦ inl (slice_get-set_other states x seen.place (marked p m') ne ∙ h)
      | inr h ↦ inr (slice_get-set_other states x seen.place (marked p m') ne ∙ h)
    ];
    cell_is = seen.cell_is;
    holds = seen.holds;
    early = seen.early;
  }
  | inl e ↦ elim seen.stands [
    | inl h ↦ (let same = same_mark p seen.spot m (Queued seen.arrival) (sym at ∙ (rw e at h)) in here same.0 (inl same.1))
    | inr h ↦ (let same = same_mark p seen.spot m (Final seen.arrival) (sym at ∙ (rw e at h)) in here same.0 (inr same.1))
  ]
]
  where
    here : p ≡ seen.spot → (m ≡ Queued seen.arrival) ⊎ (m ≡ Final seen.arrival) → HasSeen (set states x (marked p m')) c t
    here spot mark =
        let new = later seen.arrival mark in
        let set_at : slice_get (set states x (marked p m')) x ≡ Some (marked p m') = slice_get-set_at states x (marked p m') (slice_get_within states x (marked p m) at) in
        record {
          place = x;
          spot = p;
          arrival = new.0;
          stands = elim new.1 [
            | inl is ↦ inl (set_at ∙ ap (λ (z : Mark). Some (marked p z)) is)
            | inr is ↦ inr (set_at ∙ ap (λ (z : Mark). Some (marked p z)) is)
          ];
          cell_is = ap (λ (z : Spot). z.cell) spot ∙ seen.cell_is;
          holds = subst (λ (z : Spot). IsIn t z.interval) (sym spot) seen.holds;
          early = omega (arith, new.2, seen.early);
        }

-- What an offered arrival makes of a mark.
by_test : (e r : ℕ) → (b : Bool) → nat_lt e r ≡ b → IsNoLater (Queued r) (if b then Queued e else Queued r)
by_test e r true test s mark = elim mark [
  | inl h ↦ (let same : r ≡ s = cc in let less : e < r = ltb-true e r test in (e, inl refl, omega arith))
  | inr h ↦ absurd (cc)
]
by_test e r false test s mark = elim mark [
  | inl h ↦ (let same : r ≡ s = cc in (r, inl refl, omega arith))
  | inr h ↦ absurd (cc)
]

pub offered_no_later : (m : Mark) (e : ℕ) → IsNoLater m (offered_mark m e)
offered_no_later Unseen e s mark = elim mark [ inl h ↦ absurd (cc) | inr h ↦ absurd (cc) ]
offered_no_later (Queued r) e s mark = by_test e r (nat_lt e r) refl s mark
offered_no_later (Final r) e s mark = elim mark [
  | inl h ↦ absurd (cc)
  | inr h ↦ (let same : r ≡ s = cc in (r, inr refl, omega arith))
]

offered_final : (m : Mark) (e r : ℕ) → offered_mark m e ≡ Final r → m ≡ Final r
offered_final Unseen e r h = absurd (cc)
offered_final (Queued s) e r h = go (nat_lt e s) h where
  go : (b : Bool) → (if b then Queued e else Queued s) ≡ Final r → Queued s ≡ Final r
  go true h = absurd (cc)
  go false h = h
offered_final (Final s) e r h = h

offered_queued : (m : Mark) (e r : ℕ) → offered_mark m e ≡ Queued r → (e ≡ r) ⊎ (m ≡ Queued r)
offered_queued Unseen e r h = let same : e ≡ r = cc in inl same
offered_queued (Queued s) e r h = go (nat_lt e s) h where
  go : (b : Bool) → (if b then Queued e else Queued s) ≡ Queued r → (e ≡ r) ⊎ (Queued s ≡ Queued r)
  go true h = let same : e ≡ r = cc in inl same
  go false h = inr h
offered_queued (Final s) e r h = inr h

-- afterwards it has an arrival no later than the offered one, or was final before
pub offered_has : (m : Mark) (e : ℕ) → (r : ℕ) × (((offered_mark m e ≡ Queued r) × (r ≤ e)) ⊎ (m ≡ Final r))
offered_has Unseen e = (e, inl (refl, omega arith))
offered_has (Queued s) e = go (nat_lt e s) refl where
  go : (b : Bool) → nat_lt e s ≡ b → (r : ℕ) × ((((if b then Queued e else Queued s) ≡ Queued r) × (r ≤ e)) ⊎ (Queued s ≡ Final r))
  go true test = (e, inl (refl, omega arith))
  go false test = (s, inl (refl, ltb-false e s test))
offered_has (Final s) e = (s, inr refl)

offered_count : (m : Mark) (e : ℕ) → one_if_final (offered_mark m e) ≡ one_if_final m
offered_count Unseen e = refl
offered_count (Queued s) e = go (nat_lt e s) where
  go : (b : Bool) → one_if_final (if b then Queued e else Queued s) ≡ 0
  go true = refl
  go false = refl
offered_count (Final s) e = refl

-- How many states are final.
pub count-set : (xs : List State) (i : ℕ) (s y : State) → slice_get xs i ≡ Some s → final_count (set xs i y) + one_if_final s.mark ≡ final_count xs + one_if_final y.mark
count-set [] i s y at = absurd (none-some s at)
count-set (x ∷ xs) zero s y at = let e : one_if_final x.mark ≡ one_if_final s.mark = ap (λ (z : State). one_if_final z.mark) (same_Some x s at) in omega arith
count-set (x ∷ xs) (suc i) s y at = omega (arith, count-set xs i s y at)

pub count_within : (xs : List State) → final_count xs ≤ length xs
count_within [] = omega arith
count_within (x ∷ xs) = omega (arith, at_most x.mark, count_within xs) where
  at_most : (m : Mark) → one_if_final m ≤ 1
  at_most Unseen = omega arith
  at_most (Queued r) = omega arith
  at_most (Final r) = omega arith

pub improves-refl : (xs : List State) → Improves xs xs
improves-refl xs = record { no_more = λ i r p h. h; no_less = λ i r p h. h; seen = λ c t h. h; count = refl }

pub improves-trans : (xs ys zs : List State) → Improves xs ys → Improves ys zs → Improves xs zs
improves-trans xs ys zs one two = record {
  no_more = λ i r p h. one.no_more i r p (two.no_more i r p h);
  no_less = λ i r p h. two.no_less i r p (one.no_less i r p h);
  seen = λ c t h. two.seen c t (one.seen c t h);
  count = two.count ∙ one.count;
}

-- An arrival is offered to one state.
module _ (states : List State) (j e : ℕ) (s : State) (at : slice_get states j ≡ Some s) where
  within : j < length states
  within = slice_get_within states j s at

  pub offered_improves : Improves states (set states j (offered s e))
  offered_improves = record {
    no_more = λ i r p h. elim (set_cases states j i (offered s e) (final p r) within h) [
      | inr other ↦ other.1
      | inl same ↦
          let mark : s.mark ≡ Final r = offered_final s.mark e r (ap (λ (z : State). z.mark) same.1) in
          let spot : s.spot ≡ p = ap (λ (z : State). z.spot) same.1 in
          rw (same.0) (at ∙ (ap (λ (z : Mark). Some (marked s.spot z)) mark ∙ ap (λ (z : Spot). Some (marked z (Final r))) spot))
    ];
    no_less = λ i r p h. elim (cases_eq i j) [
      | inr ne ↦ slice_get-set_other states j i (offered s e) ne ∙ h
      | inl is ↦
          let here : slice_get states j ≡ Some (final p r) = rw is at h in
          let same : s ≡ final p r = same_Some s (final p r) (sym at ∙ here) in
          let kept : offered s e ≡ final p r = ap (λ (z : State). offered z e) same in
          rw is (slice_get-set_at states j (offered s e) within ∙ ap (λ (z : State). Some z) kept)
    ];
    seen = seen_set states j s.spot s.mark (offered_mark s.mark e) at (offered_no_later s.mark e);
    count = (let c = count-set states j s (offered s e) at in let d = offered_count s.mark e in omega arith);
  }

  pub offered_well : (g : Terrain) (q : Request) (horizon : ℕ) (a : Assignment) (cursor : ℕ) → AreQueuedWell g q horizon a states cursor
      → IsQueuedWell g q horizon a cursor s.spot e → AreQueuedWell g q horizon a (set states j (offered s e)) cursor
  offered_well g q horizon a cursor well new i r p h = elim (set_cases states j i (offered s e) (queued p r) within h) [
    | inr other ↦ well i r p other.1
    | inl same ↦
        let spot : s.spot ≡ p = ap (λ (z : State). z.spot) same.1 in
        elim (offered_queued s.mark e r (ap (λ (z : State). z.mark) same.1)) [
          | inl time ↦ subst (λ (z : Spot). IsQueuedWell g q horizon a cursor z r) spot (subst (λ (n : ℕ). IsQueuedWell g q horizon a cursor s.spot n) time new)
          | inr mark ↦ well j r p (at ∙ (ap (λ (z : Mark). Some (marked s.spot z)) mark ∙ ap (λ (z : Spot). Some (marked z (Queued r))) spot))
        ]
  ]

  -- the state is then seen at the offered time
  pub offered_seen : (c : Cell) (t : ℕ) → s.spot.cell ≡ c → IsIn t s.spot.interval → e ≤ t → ((r : ℕ) → s.mark ≡ Final r → r ≤ e) → HasSeen (set states j (offered s e)) c t
  offered_seen c t cell inside le least =
      let has = offered_has s.mark e in
      let set_at : slice_get (set states j (offered s e)) j ≡ Some (offered s e) = slice_get-set_at states j (offered s e) within in
      record {
        place = j;
        spot = s.spot;
        arrival = has.0;
        stands = elim has.1 [
          | inl is ↦ inl (set_at ∙ ap (λ (z : Mark). Some (marked s.spot z)) is.0)
          | inr is ↦ inr (set_at ∙ ap (λ (z : Mark). Some (marked s.spot (offered_mark z e))) is)
        ];
        cell_is = cell;
        holds = inside;
        early = elim has.1 [ inl is ↦ omega (arith, is.1) | inr is ↦ omega (arith, least has.0 is) ];
      }

-- States are added that nobody has seen.
abbrev pub AreUnseen : List State → Type 0
AreUnseen fresh = (k : ℕ) (s : State) → slice_get fresh k ≡ Some s → s.mark ≡ Unseen

pub count-unseen : (fresh : List State) → AreUnseen fresh → final_count fresh ≡ 0
count-unseen [] new = refl
count-unseen (s ∷ fresh) new =
    let e : one_if_final s.mark ≡ 0 = ap one_if_final (new 0 s refl) in
    omega (arith, count-unseen fresh (λ k x h. new (suc k) x h))

count-append : (xs ys : List State) → final_count (xs ++ ys) ≡ final_count xs + final_count ys
count-append [] ys = omega arith
count-append (x ∷ xs) ys = omega (arith, count-append xs ys)

pub added_improves : (states fresh : List State) → AreUnseen fresh → Improves states (states ++ fresh)
added_improves states fresh new = record {
  no_more = λ i r p h. elim (append_cases states fresh i (final p r) h) [
    | inl old ↦ old
    | inr add ↦ (let bad : Final r ≡ Unseen = new add.0 (final p r) add.2 in absurd (cc))
  ];
  no_less = λ i r p h. stands_left states fresh i (final p r) h;
  seen = λ c t h. record {
    place = h.place;
    spot = h.spot;
    arrival = h.arrival;
    stands = elim h.stands [
      | inl at ↦ inl (stands_left states fresh h.place (queued h.spot h.arrival) at)
      | inr at ↦ inr (stands_left states fresh h.place (final h.spot h.arrival) at)
    ];
    cell_is = h.cell_is;
    holds = h.holds;
    early = h.early;
  };
  count = omega (arith, count-append states fresh, count-unseen fresh new);
}

pub added_well : (g : Terrain) (q : Request) (horizon : ℕ) (a : Assignment) (states fresh : List State) (cursor : ℕ) → AreUnseen fresh
    → AreQueuedWell g q horizon a states cursor → AreQueuedWell g q horizon a (states ++ fresh) cursor
added_well g q horizon a states fresh cursor new well i r p h = elim (append_cases states fresh i (queued p r) h) [
  | inl old ↦ well i r p old
  | inr add ↦ (let bad : Queued r ≡ Unseen = new add.0 (queued p r) add.2 in absurd (cc))
]

-- The search stays under way.
pub improved_way : (g : Terrain) (q : Request) (horizon : ℕ) (a : Assignment) (old new : List State) (cursor x : ℕ)
    → IsUnderWay g q horizon a old cursor x → Improves old new → AreQueuedWell g q horizon a new cursor → IsUnderWay g q horizon a new cursor x
improved_way g q horizon a old new cursor x way better well = record {
  start = λ k free within le. better.seen q.start q.depart (way.start k free within le);
  queued_well = well;
  final_well = λ i r p h. way.final_well i r p (better.no_more i r p h);
  leads = λ i r p ne h t k c since until m within le. better.seen c (t + 1) (way.leads i r p ne (better.no_more i r p h) t k c since until m within le);
}

-- the moves of the state at x are made too
pub leading_way : (g : Terrain) (q : Request) (horizon : ℕ) (a : Assignment) (states : List State) (cursor x y r : ℕ) (p : Spot)
    → IsUnderWay g q horizon a states cursor x → slice_get states x ≡ Some (final p r) → LeadsOn g q horizon a states p r → IsUnderWay g q horizon a states cursor y
leading_way g q horizon a states cursor x y r p way at lead = record {
  start = way.start;
  queued_well = way.queued_well;
  final_well = way.final_well;
  leads = λ i s o ne h. elim (cases_eq i x) [
    | inr other ↦ way.leads i s o other h
    | inl is ↦
        let here : slice_get states x ≡ Some (final o s) = rw is at h in
        let same = same_mark p o (Final r) (Final s) (sym at ∙ here) in
        let time : r ≡ s = (let marks : Final r ≡ Final s = same.1 in cc) in
        subst (λ (n : ℕ). LeadsOn g q horizon a states o n) time (subst (λ (z : Spot). LeadsOn g q horizon a states z r) same.0 lead)
  ];
}

-- a queued state of the least key becomes final
pub settled_way : (g : Terrain) (q : Request) (horizon : ℕ) (a : Assignment) → IsBound g q.goal → (states : List State) (cursor x i r : ℕ) (p : Spot)
    → AreSpots g q horizon a (spots_of states) → IsUnderWay g q horizon a states cursor x → EachLeads g q horizon a states
    → slice_get states i ≡ Some (queued p r) → ((j s : ℕ) (o : Spot) → slice_get states j ≡ Some (queued o s) → r + p.left ≤ s + o.left)
    → IsUnderWay g q horizon a (set states i (final p r)) (r + p.left) i
settled_way g q horizon a bound states cursor x i r p spots way leads at least = record {
  start = λ k free within le. kept q.start q.depart (way.start k free within le);
  queued_well = λ j s o h. elim (set_cases states i j (final p r) (queued o s) here h) [
    | inl same ↦ (let bad : Final r ≡ Queued s = ap (λ (z : State). z.mark) same.1 in absurd (cc))
    | inr other ↦
        let well : IsQueuedWell g q horizon a cursor o s = way.queued_well j s o other.1 in
        record { arrived = well.arrived; after = least j s o other.1; in_time = well.in_time }
  ];
  final_well = λ j s o h. elim (set_cases states i j (final p r) (final o s) here h) [
    | inl same ↦
        let marks : Final r ≡ Final s = ap (λ (z : State). z.mark) same.1 in
        let time : r ≡ s = cc in
        let spot : p ≡ o = ap (λ (z : State). z.spot) same.1 in
        subst (λ (z : Spot). IsFinalWell g q a (r + p.left) z s) spot (subst (λ (n : ℕ). IsFinalWell g q a (r + p.left) p n) time mine)
    | inr other ↦
        let well : IsFinalWell g q a cursor o s = way.final_well j s o other.1 in
        record { arrived = well.arrived; least = well.least; before = omega (arith, well.before, (way.queued_well i r p at).after) }
  ];
  leads = λ j s o ne h t k c since until m within le. elim (set_cases states i j (final p r) (final o s) here h) [
    | inl same ↦ absurd (ne same.0)
    | inr other ↦ kept c (t + 1) (leads j s o other.1 t k c since until m within le)
  ];
}
  where
    here : i < length states
    here = slice_get_within states i (queued p r) at

    later : IsNoLater (Queued r) (Final r)
    later s mark = elim mark [
      | inl h ↦ (let same : r ≡ s = cc in (r, inr refl, omega arith))
      | inr h ↦ absurd (cc)
    ]

    kept : (c : Cell) (t : ℕ) → HasSeen states c t → HasSeen (set states i (final p r)) c t
    kept = seen_set states i p (Queued r) (Final r) at later

    mine : IsFinalWell g q a (r + p.left) p r
    mine = record {
      arrived = (way.queued_well i r p at).arrived;
      least = taken_least g q horizon a bound states cursor x spots way leads i r p at least;
      before = omega arith;
    }

-- The keys of the queue.
pub key_queued : (states : List State) (i k : ℕ) → slice_get (keys_of states) i ≡ Some (Some k) → (p : Spot) × (r : ℕ) × (slice_get states i ≡ Some (queued p r)) × (k ≡ r + p.left)
key_queued states i k h = let there = map_stands key_of states i (Some k) h in by_mark there.0.spot there.0.mark there.1 there.2
  where
    by_mark : (p : Spot) (m : Mark) → slice_get states i ≡ Some (marked p m) → key_by_mark m p.left ≡ Some k
        → (p : Spot) × (r : ℕ) × (slice_get states i ≡ Some (queued p r)) × (k ≡ r + p.left)
    by_mark p Unseen at key = absurd (cc)
    by_mark p (Queued r) at key = (p, r, at, sym (same_Some (r + p.left) k key))
    by_mark p (Final r) at key = absurd (cc)

pub queued_key : (states : List State) (i r : ℕ) (p : Spot) → slice_get states i ≡ Some (queued p r) → slice_get (keys_of states) i ≡ Some (Some (r + p.left))
queued_key states i r p at = stands_map key_of states i (queued p r) at

-- what queueing a state does to the keys
pub keys-set : (states : List State) (i arrival key : ℕ) (s : State) → slice_get states i ≡ Some s → key ≡ arrival + s.spot.left
    → set (keys_of states) i (Some key) ≡ keys_of (set states i (queued s.spot arrival))
keys-set states i arrival key s at is = sym (map-set key_of states i (queued s.spot arrival) ∙ ap (λ n. set (keys_of states) i (Some n)) (sym is))

pub offered_nothing : (states : List State) (i arrival : ℕ) (s : State) → slice_get states i ≡ Some s → offered_mark s.mark arrival ≡ s.mark
    → states ≡ set states i (offered s arrival)
offered_nothing states i arrival s at same =
    sym (ap (λ (m : Mark). set states i (marked s.spot m)) same ∙ set_same states i s at)

pub spots-set : (states : List State) (i : ℕ) (s : State) (m : Mark) → slice_get states i ≡ Some s → spots_of (set states i (marked s.spot m)) ≡ spots_of states
spots-set states i s m at = map-set (λ (z : State). z.spot) states i (marked s.spot m) ∙ set_same (spots_of states) i s.spot (stands_map (λ (z : State). z.spot) states i s at)

-- What taking from the queue tells of the states.
pub record TookLeast (states : List State) (old new : Queue) (limit id : ℕ) : Type 0 where
  pub spot : Spot
  pub arrival : ℕ
  pub was : slice_get states id ≡ Some (queued spot arrival)
  pub least : (j s : ℕ) (o : Spot) → slice_get states j ≡ Some (queued o s) → arrival + spot.left ≤ s + o.left
  pub in_limit : arrival + spot.left ≤ limit
  pub rises : old.floor ≤ arrival + spot.left
  pub taken : new ≡ record { keys = set old.keys id None; floor = arrival + spot.left; bound = old.bound }
  pub keys : (r : ℕ) → set old.keys id None ≡ keys_of (set states id (final spot r))

pub took_least : (states : List State) (old new : Queue) (limit id : ℕ) → old.keys ≡ keys_of states → TakesLeast old new limit id → TookLeast states old new limit id
took_least states old new limit id paired takes =
    let there = key_queued states id takes.key (rw paired at takes.queued) in
    record {
      spot = there.0;
      arrival = there.1;
      was = there.2;
      least = λ j s o at. (let has : HasKey old.keys j (s + o.left) = rw paired (queued_key states j s o at) in omega (arith, takes.least j (s + o.left) has, there.3));
      in_limit = omega (arith, takes.in_limit, there.3);
      rises = omega (arith, takes.rises, there.3);
      taken = takes.taken ∙ ap (λ (n : ℕ). record { keys = set old.keys id None; floor = n; bound = old.bound }) there.3;
      keys = λ r. ap (λ (xs : List (Option ℕ)). set xs id None) paired ∙ sym (map-set key_of states id (final there.0 r));
    }

pub took_none : (states : List State) (old new : Queue) (limit : ℕ) → old.keys ≡ keys_of states → TakesNone old new limit
    → (i r : ℕ) (p : Spot) → slice_get states i ≡ Some (queued p r) → limit < r + p.left
took_none states old new limit paired takes i r p at = takes.above i (r + p.left) (rw paired (queued_key states i r p at))
