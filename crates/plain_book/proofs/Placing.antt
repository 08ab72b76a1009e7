-- One record more in a list of calendars, and one id less: step by step.
use Rattle.std.proofs.Common.{◌≡◌, ◌≢◌, ℕ, ◌+◌, ◌<◌, ◌⊎◌, inl, inr, true, false, List, [], ◌∷◌, ◌++◌, length, refl, sym, ap, ◌∙◌, subst, arith, get_or, set, take, get_or-set_same, get_or-set_other}
use Rattle.std.specs.Prelude.{All, ◌||◌, ◌==◌, ◌-◌, nat_le, Some, slice_get}
use Rattle.std.proofs.lemmas.Option.{slice_get_within, get_or_from_slice_get}
use Rattle.std.proofs.lemmas.List.{take_more, get_or-take, length-take-le}
use Rattle.std.proofs.lemmas.Bool.{cases_eq, and_parts, or_cases, leb-true, eqb-true}
use Rattle.fleet_base.specs.declared.grid.Cell.{Cell}
use Rattle.fleet_base.specs.declared.request.RouteId.{RouteId}
use Rattle.fleet_base.specs.declared.request.Record.{Record}
use Rattle.fleet_base.specs.declared.request.Stay.{Stay}
use Rattle.fleet_base.specs.declared.request.Live.{Live}
use Rattle.fleet_base.specs.declared.request.TheConstants.{FOREVER}
use Rattle.fleet_base.specs.TimedWalk.{TimedWalk, position, place_after}
use Rattle.fleet_base.specs.Stays.{HoldsTime, IsStay, AreTheStays}
use Rattle.fleet_base.specs.Order.{IsAmong}
use Rattle.fleet_base.proofs.TrafficLemmas.{not_true, same_cells}
use Rattle.fleet_base.proofs.WalkLemmas.{position_since, stood_since}
use Rattle.calendars.specs.Records.{holds_time, covers, with_record, without_id, IsApart}
use Rattle.plain_book.specs.Kept.{records_at, stay_in}
use Rattle.plain_book.specs.Changes.{ShareNoTime, FitIn, HasSome, HasAll, HasSomeOf, HasAllOf, LacksId}
use Rattle.plain_book.proofs.Members.{among_at, among_all, among_list_any, list_any_among, among_left, among_right, among_append, place_in_take, among_with, new_among_with, old_among_with, among_without, was_among, without_has_not}

-- the calendars of two times
pub HasSome-none : (calendars : List (List Record)) → HasSome calendars calendars []
HasSome-none calendars = record { kept = λ c r h. h; only = λ c r h. inl h }

pub HasAll-none : (calendars : List (List Record)) → HasAll calendars calendars []
HasAll-none calendars = record { rest = HasSome-none calendars; put = λ s h. absurd h }

pub LacksId-none : (id : RouteId) (calendars : List (List Record)) → LacksId id [] calendars calendars
LacksId-none id calendars = record { kept = λ c r h differ. h; only = λ c r h. h; gone = λ c r h. absurd h }

-- one calendar changed
module _ (calendars : List (List Record)) (i : ℕ) (below : i < length calendars) where
  pub at_changed : (new : List Record) → records_at (set calendars i new) i ≡ new
  at_changed new = get_or-set_same calendars i new [] below

  pub at_others : (new : List Record) (c : ℕ) → c ≢ i → records_at (set calendars i new) c ≡ records_at calendars c
  at_others new c other = get_or-set_other calendars i c new [] other

  -- what each calendar has, and the changed one has, each has afterwards
  changed_has : (new : List Record) (c : ℕ) (r : Record) → (c ≡ i → IsAmong r new) → IsAmong r (records_at calendars c) → IsAmong r (records_at (set calendars i new) c)
  changed_has new c r here there = elim (cases_eq c i) [
    | inl same ↦ subst (λ (n : ℕ). IsAmong r (records_at (set calendars i new) n)) (sym same) (subst (λ (rs : List Record). IsAmong r rs) (sym (at_changed new)) (here same))
    | inr other ↦ subst (λ (rs : List Record). IsAmong r rs) (sym (at_others new c other)) there
  ]

  -- what is there afterwards was there, or is in the changed one
  changed_from : (new : List Record) (c : ℕ) (r : Record) → IsAmong r (records_at (set calendars i new) c) → ((c ≡ i) × IsAmong r new) ⊎ ((c ≢ i) × IsAmong r (records_at calendars c))
  changed_from new c r h = elim (cases_eq c i) [
    | inl same ↦ inl (same, subst (λ (rs : List Record). IsAmong r rs) (at_changed new) (subst (λ (n : ℕ). IsAmong r (records_at (set calendars i new) n)) same h))
    | inr other ↦ inr (other, subst (λ (rs : List Record). IsAmong r rs) (at_others new c other) h)
  ]

  -- a record put in
  put_has : (a r : Record) (c : ℕ) → IsAmong r (records_at calendars c) → IsAmong r (records_at (set calendars i (with_record a (records_at calendars i))) c)
  put_has a r c h = changed_has (with_record a (records_at calendars i)) c r (λ same. old_among_with a r (records_at calendars i) (subst (λ (n : ℕ). IsAmong r (records_at calendars n)) same h)) h

  put_from : (a r : Record) (c : ℕ) → IsAmong r (records_at (set calendars i (with_record a (records_at calendars i))) c) → IsAmong r (records_at calendars c) ⊎ ((c ≡ i) × (a ≡ r))
  put_from a r c h = elim (changed_from (with_record a (records_at calendars i)) c r h) [
    | inl here ↦ elim (among_with a r (records_at calendars i) here.1) [
      | inl is ↦ inr (here.0, is)
      | inr old ↦ inl (subst (λ (n : ℕ). IsAmong r (records_at calendars n)) (sym here.0) old)
    ]
    | inr there ↦ inl there.1
  ]

  put_there : (a : Record) → IsAmong a (records_at (set calendars i (with_record a (records_at calendars i))) i)
  put_there a = subst (λ (rs : List Record). IsAmong a rs) (sym (at_changed (with_record a (records_at calendars i)))) (new_among_with a (records_at calendars i))

-- a stay put in after others
pub HasAll-push : (old mid : List (List Record)) (s : Stay) (xs : List Stay) → s.cell.0 < length mid → HasAll old mid xs
    → HasAll old (set mid s.cell.0 (with_record s.span (records_at mid s.cell.0))) (xs ++ s ∷ [])
HasAll-push old mid s xs below all = record {
  rest = record {
    kept = λ c r h. put_has mid s.cell.0 below s.span r c (all.rest.kept c r h);
    only = λ c r h. elim (put_from mid s.cell.0 below s.span r c h) [
      | inl was ↦ elim (all.rest.only c r was) [
        | inl before ↦ inl before
        | inr mine ↦ inr (among_left (stay_in c r) xs (s ∷ []) mine)
      ]
      | inr new ↦ inr (among_right (stay_in c r) xs (s ∷ []) (inl (ap (λ (n : ℕ). stay_in n s.span) (sym new.0) ∙ ap (λ (a : Record). stay_in c a) new.1)))
    ];
  };
  put = λ x h. elim (among_append x xs (s ∷ []) h) [
    | inl earlier ↦ put_has mid s.cell.0 below s.span x.span x.cell.0 (all.put x earlier)
    | inr last ↦ elim last [
      | inl same ↦ subst (λ (y : Stay). IsAmong y.span (records_at (set mid s.cell.0 (with_record s.span (records_at mid s.cell.0))) y.cell.0)) same (put_there mid s.cell.0 below s.span)
      | inr never ↦ absurd never
    ]
  ];
}

-- a part of the stays is in
pub HasSome-more : (old new : List (List Record)) (xs ys : List Stay) → ((s : Stay) → IsAmong s xs → IsAmong s ys) → HasSome old new xs → HasSome old new ys
HasSome-more old new xs ys part some = record {
  kept = some.kept;
  only = λ c r h. elim (some.only c r h) [ inl before ↦ inl before | inr mine ↦ inr (part (stay_in c r) mine) ];
}

pub take_part : {X : Type 0} (x : X) (i : ℕ) (xs : List X) → IsAmong x (take i xs) → IsAmong x xs
take_part x i xs h = let p = place_in_take x x i xs h in subst (λ y. IsAmong y xs) p.3 (among_at xs p.0 x p.2)

-- a stay that shares no time with what was there, and with what was put in, fits in
apart_from : (old mid : List (List Record)) (s : Stay) (first : List Stay) → IsApart s.span (records_at old s.cell.0) → ((x : Stay) → IsAmong x first → ShareNoTime x s)
    → HasSome old mid first → IsApart s.span (records_at mid s.cell.0)
apart_from old mid s first free others some t held = not_true (covers (records_at mid s.cell.0) t) (λ covered.
    let found = among_list_any (holds_time t) (records_at mid s.cell.0) covered in
    clash found.0 found.2 (some.only s.cell.0 found.0 found.1))
  where
    clash : (r : Record) → holds_time t r ≡ true → IsAmong r (records_at old s.cell.0) ⊎ IsAmong (stay_in s.cell.0 r) first → ⊥
    clash r holds (inl before) =
        let untaken : covers (records_at old s.cell.0) t ≡ false = free t held in
        let taken : covers (records_at old s.cell.0) t ≡ true = list_any_among (holds_time t) r (records_at old s.cell.0) before holds in
        cc
    clash r holds (inr mine) = let not_held : holds_time t r ≡ false = others (stay_in s.cell.0 r) mine refl t held in cc

pub apart_still : (old mid : List (List Record)) (xs : List Stay) (i : ℕ) (d : Stay) → i < length xs → FitIn old xs → HasAll old mid (take i xs)
    → IsApart (get_or xs i d).span (records_at mid (get_or xs i d).cell.0)
apart_still old mid xs i d below fit all =
    apart_from old mid (get_or xs i d) (take i xs) (fit.free i d below)
    (λ x h. let p = place_in_take x d i xs h in subst (λ (y : Stay). ShareNoTime y (get_or xs i d)) p.3 (fit.apart p.0 i d p.1 below))
    all.rest

-- an id taken out of one cell more
pub LacksId-push : (id : RouteId) (old mid : List (List Record)) (c : Cell) (cells : List Cell) → c.0 < length mid → LacksId id cells old mid
    → LacksId id (cells ++ c ∷ []) old (set mid c.0 (without_id id (records_at mid c.0)))
LacksId-push id old mid c cells below lacks = record {
  kept = λ n r h differ. changed_has mid c.0 below (without_id id (records_at mid c.0)) n r
      (λ same. among_without id r (records_at mid c.0) (subst (λ (k : ℕ). IsAmong r (records_at mid k)) same (lacks.kept n r h differ)) differ)
      (lacks.kept n r h differ);
  only = λ n r h. elim (changed_from mid c.0 below (without_id id (records_at mid c.0)) n r h) [
    | inl here ↦ lacks.only n r (subst (λ (k : ℕ). IsAmong r (records_at mid k)) (sym here.0) (was_among id r (records_at mid c.0) here.1))
    | inr there ↦ lacks.only n r there.1
  ];
  gone = λ d r h. elim (among_append d cells (c ∷ []) h) [
    | inl earlier ↦ (λ after. elim (changed_from mid c.0 below (without_id id (records_at mid c.0)) d.0 r after) [
      | inl here ↦ without_has_not id r (records_at mid c.0) here.1
      | inr there ↦ lacks.gone d r earlier there.1
    ])
    | inr last ↦ (λ after. elim (changed_from mid c.0 below (without_id id (records_at mid c.0)) d.0 r after) [
      | inl here ↦ without_has_not id r (records_at mid c.0) here.1
      | inr there ↦ absurd (elim last [ inl same ↦ there.0 (ap (λ (x : Cell). x.0) (sym same)) | inr never ↦ never ])
    ])
  ];
}

-- The steps of the loops.
pub taken_step : (id : RouteId) (old mid : List (List Record)) (cells : List Cell) (i : ℕ) (d : Cell) (new : List (List Record)) → i < length cells
    → (get_or cells i d).0 < length mid → new ≡ set mid (get_or cells i d).0 (without_id id (records_at mid (get_or cells i d).0)) → LacksId id (take i cells) old mid
    → LacksId id (take (i + 1) cells) old new
taken_step id old mid cells i d new within below is lacks =
    subst (λ (cs : List (List Record)). LacksId id (take (i + 1) cells) old cs) (sym is)
    (subst (λ (cs : List Cell). LacksId id cs old (set mid (get_or cells i d).0 (without_id id (records_at mid (get_or cells i d).0)))) (sym (take_more cells i d within))
    (LacksId-push id old mid (get_or cells i d) (take i cells) below lacks))

-- where the walk waits
pub again_step : (id : RouteId) (old mid : List (List Record)) (cells : List Cell) (i : ℕ) (d : Cell) → i < length cells → 0 < i → (get_or cells (i - 1) d).0 ≡ (get_or cells i d).0
    → LacksId id (take i cells) old mid → LacksId id (take (i + 1) cells) old mid
again_step id old mid cells i d within later same lacks = record {
  kept = lacks.kept;
  only = lacks.only;
  gone = λ c r h after. elim (among_append c (take i cells) (get_or cells i d ∷ []) (subst (λ (cs : List Cell). IsAmong c cs) (take_more cells i d within) h)) [
    | inl earlier ↦ lacks.gone c r earlier after
    | inr last ↦ elim last [
      | inl is ↦ lacks.gone c r (subst (λ (x : Cell). IsAmong x (take i cells)) (same_cells (get_or cells (i - 1) d) (get_or cells i d) same ∙ is) (before i cells later within)) after
      | inr never ↦ absurd never
    ]
  ];
}
  where
    before : (i : ℕ) (cells : List Cell) → 0 < i → i < length cells → IsAmong (get_or cells (i - 1) d) (take i cells)
    before i cells later within =
        subst (λ (x : Cell). IsAmong x (take i cells)) (get_or-take i cells (i - 1) d (omega arith))
        (among_at (take i cells) (i - 1) d (omega (arith, length-take-le i cells (omega arith))))

pub put_step : (old mid : List (List Record)) (stays : List Stay) (i : ℕ) (d : Stay) (new : List (List Record)) → i < length stays
    → (get_or stays i d).cell.0 < length mid → new ≡ set mid (get_or stays i d).cell.0 (with_record (get_or stays i d).span (records_at mid (get_or stays i d).cell.0)) → HasAll old mid (take i stays)
    → HasAll old new (take (i + 1) stays)
put_step old mid stays i d new within below is all =
    subst (λ (cs : List (List Record)). HasAll old cs (take (i + 1) stays)) (sym is)
    (subst (λ (xs : List Stay). HasAll old (set mid (get_or stays i d).cell.0 (with_record (get_or stays i d).span (records_at mid (get_or stays i d).cell.0))) xs) (sym (take_more stays i d within))
    (HasAll-push old mid (get_or stays i d) (take i stays) below all))

-- where nothing was put in
pub refused_step : (old mid : List (List Record)) (stays : List Stay) (i : ℕ) (new : List (List Record)) → new ≡ mid → HasAll old mid (take i stays) → HasSome old new stays
refused_step old mid stays i new is all =
    subst (λ (cs : List (List Record)). HasSome old cs stays) (sym is) (HasSome-more old mid (take i stays) stays (λ s h. take_part s i stays h) all.rest)

pub below_old : (cells seen : List Cell) (i : ℕ) (d : Cell) (n m : ℕ) → seen ≡ cells → m ≡ n → i < length seen → All (λ (c : Cell). c.0 < n) cells → (get_or seen i d).0 < m
below_old cells seen i d n m same lengths within all =
    subst (λ (k : ℕ). (get_or seen i d).0 < k) (sym lengths) (subst (λ (cs : List Cell). All (λ (c : Cell). c.0 < n) cs) (sym same) all i d within)

-- What the stays of a walk give.
pub holds_from_true : (r : Record) (t : ℕ) → holds_time t r ≡ true → HoldsTime r t
holds_from_true r t h =
    let parts = and_parts (nat_le r.from t) (nat_le t r.to || (r.to == FOREVER)) h in
    (leb-true r.from t parts.0, elim (or_cases (nat_le t r.to) (r.to == FOREVER) parts.1) [ inl until ↦ inl (leb-true t r.to until) | inr never ↦ inr (eqb-true r.to FOREVER never) ])

-- a walk is in a stay's cell at its beginning
pub stood_from : (w : TimedWalk) (id : RouteId) (s : Stay) → IsStay w id s → position w s.span.from ≡ Some s.cell
stood_from w id s is = is.within s.span.from (omega arith, inl is.some)

-- the cells of a walk are those where it is at some time
pub among_cells : (w : TimedWalk) (t : ℕ) (c : Cell) → position w t ≡ Some c → IsAmong c w.cells
among_cells w t c at =
    let found : slice_get w.cells (place_after w (t - w.depart)) ≡ Some c = sym (position_since w t (stood_since w t c at)) ∙ at in
    let k : ℕ = place_after w (t - w.depart) in
    subst (λ (d : Cell). IsAmong d w.cells) (get_or_from_slice_get w.cells k c c found) (among_at w.cells k c (slice_get_within w.cells k c found))

-- two stays in one cell share no time
stays_apart : (w : TimedWalk) (id : RouteId) (a b : Stay) → IsStay w id a → IsStay w id b → a.span.to < b.span.from → ShareNoTime a b
stays_apart w id a b first second before same t later = not_true (holds_time t a.span) (λ held. clash (holds_from_true a.span t held) (holds_from_true b.span t later))
  where
    clash : HoldsTime a.span t → HoldsTime b.span t → ⊥
    clash (since, inl until) (since', h) = omega arith
    clash (since, inr never) (since', h) =
        let n : ℕ = b.span.from - 1 in
        let next : n + 1 ≡ b.span.from = omega arith in
        let there : position w n ≡ Some a.cell = first.within n (omega (arith, first.some), inr never) in
        second.not_before n next (there ∙ ap (λ (c : Cell). Some c) same)

pub stays_fit : (w : TimedWalk) (id : RouteId) (stays : List Stay) (calendars : List (List Record)) → AreTheStays w id stays → All (λ (c : Cell). c.0 < length calendars) w.cells
    → ((t : ℕ) (c : Cell) → position w t ≡ Some c → covers (records_at calendars c.0) t ≡ false) → FitIn calendars stays
stays_fit w id stays calendars are inside free = record {
  inside = λ k d h. among_all (λ (c : Cell). c.0 < length calendars) (get_or stays k d).cell w.cells inside (among_cells w _ _ (stood_from w id (get_or stays k d) (are.runs k d h)));
  proper = λ k d h. (are.runs k d h).some;
  free = λ k d h t held. free t (get_or stays k d).cell ((are.runs k d h).within t (holds_from_true (get_or stays k d).span t held));
  apart = λ i j d before below. stays_apart w id (get_or stays i d) (get_or stays j d) (are.runs i d (omega arith)) (are.runs j d below) (are.in_order i j d before below);
}

pub some_of_stays : (w : TimedWalk) (id : RouteId) (stays : List Stay) (old new : List (List Record)) → AreTheStays w id stays → HasSome old new stays
    → HasSomeOf (record { id = id; walk = w }) old new
some_of_stays w id stays old new are some = record {
  kept = some.kept;
  only = λ c r h. elim (some.only c r h) [ inl before ↦ inl before | inr mine ↦ inr (among_all (IsStay w id) (stay_in c r) stays are.runs mine) ];
}

pub all_of_stays : (w : TimedWalk) (id : RouteId) (stays : List Stay) (old new : List (List Record)) → AreTheStays w id stays → HasAll old new stays
    → HasAllOf (record { id = id; walk = w }) old new
all_of_stays w id stays old new are all = record {
  rest = some_of_stays w id stays old new are all.rest;
  placed = record { stays = stays; are = are; placed = all.put };
}

pub nothing_of : (route : Live) (calendars : List (List Record)) → HasSomeOf route calendars calendars
nothing_of route calendars = record { kept = λ c r h. h; only = λ c r h. inl h }
