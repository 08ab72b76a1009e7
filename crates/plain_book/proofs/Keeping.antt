-- The calendars stay those of the live routes while routes come and go.
use Rattle.std.proofs.Common.{◌≡◌, ◌≢◌, ℕ, ◌+◌, ◌-◌, ◌<◌, inl, inr, true, false, List, [], ◌∷◌, length, Some, refl, sym, ap, ◌∙◌, subst, arith, get_or, not, replicate}
use Rattle.std.specs.Prelude.{All, filter, IsPermutation, slice_get}
use Rattle.std.proofs.Common.{zero, suc, ◌≤◌, Option, Bool}
use Rattle.std.proofs.lemmas.List.Sorted.{IsPermutation-sym}
use Rattle.std.specs.Prelude.{unwrap_or}
use Rattle.std.proofs.lemmas.List.Elements.{filter_passes}
use Rattle.std.proofs.lemmas.Option.{slice_get-get_or, slice_get_within, slice_get_past, unwrap_or-slice_get}
use Rattle.fleet_base.specs.declared.grid.Cell.{Cell}
use Rattle.fleet_base.specs.declared.request.RouteId.{RouteId}
use Rattle.fleet_base.specs.declared.request.Record.{Record}
use Rattle.fleet_base.specs.declared.request.Stay.{Stay}
use Rattle.fleet_base.specs.declared.request.Live.{Live}
use Rattle.fleet_base.specs.declared.request.Request.{Request}
use Rattle.fleet_base.specs.Terrain.{Terrain}
use Rattle.fleet_base.specs.TimedWalk.{TimedWalk, position}
use Rattle.fleet_base.specs.Planned.{IsFree, IsWalkOf}
use Rattle.fleet_base.specs.Stays.{HoldsTime, IsStay}
use Rattle.fleet_base.specs.History.{same_id}
use Rattle.fleet_base.specs.Order.{IsAmong}
use Rattle.fleet_base.proofs.OrderLemmas.{IsAmong-filter, IsAmong-from_filter}
use Rattle.fleet_base.proofs.TrafficLemmas.{free_in_traffic}
use Rattle.fleet_base.proofs.StayFacts.{stay_at}
use Rattle.fleet_base.proofs.WalkLemmas.{position_within, nat_cases}
use Rattle.calendars.specs.Records.{covers}
use Rattle.plain_book.specs.Kept.{records_at, stay_in, IsRouteRecord, IsPlaced, AreCalendarsOf}
use Rattle.plain_book.specs.Changes.{HasSomeOf, HasAllOf, LacksId}
use Rattle.plain_book.proofs.Members.{among_all, among_any, among_permutation, id_cases, other_id, other_id-true}
use Rattle.plain_book.proofs.Placing.{among_cells, stood_from}
use Rattle.plain_book.proofs.KeptTraffic.{HasEachOnce, taken_alike}

-- no route, no record
no_record : (n c : ℕ) (r : Record) → IsAmong r (records_at (replicate n []) c) → ⊥
no_record zero c r h = h
no_record (suc n) zero r h = h
no_record (suc n) (suc c) r h = no_record n c r h

pub calendars_none : (n : ℕ) → AreCalendarsOf [] (replicate n [])
calendars_none n = record { sound = λ c r h. absurd (no_record n c r h); whole = λ l h. absurd h }

-- what is kept of a route's records
placed_still : (route : Live) (old new : List (List Record)) → ((c : ℕ) (r : Record) → r.id ≡ route.id → IsAmong r (records_at old c) → IsAmong r (records_at new c))
    → IsPlaced old route → IsPlaced new route
placed_still route old new kept is = record {
  stays = is.stays;
  are = is.are;
  placed = λ s h. kept s.cell.0 s.span (among_all (IsStay route.walk route.id) s is.stays is.are.runs h).mark (is.placed s h);
}

-- a route comes in
pub calendars_enter : (route : Live) (routes : List Live) (old new : List (List Record)) → AreCalendarsOf routes old → HasAllOf route old new → AreCalendarsOf (route ∷ routes) new
calendars_enter route routes old new are all = record {
  sound = λ c r h. elim (all.rest.only c r h) [
    | inl before ↦ let is : IsRouteRecord routes c r = are.sound c r before in record { route = is.route; live = inr is.live; stay = is.stay }
    | inr mine ↦ record { route = route; live = inl refl; stay = mine }
  ];
  whole = λ l h. elim h [
    | inl same ↦ subst (λ (x : Live). IsPlaced new x) same all.placed
    | inr other ↦ placed_still l old new (λ c r mark among. all.rest.kept c r among) (are.whole l other)
  ];
}

-- in whichever order the routes stand
pub calendars_reorder : (routes others : List Live) (calendars : List (List Record)) → IsPermutation others routes → AreCalendarsOf routes calendars → AreCalendarsOf others calendars
calendars_reorder routes others calendars same are = record {
  sound = λ c r h. let is : IsRouteRecord routes c r = are.sound c r h in record { route = is.route; live = among_permutation routes others (IsPermutation-sym others routes same) is.route is.live; stay = is.stay };
  whole = λ l h. are.whole l (among_permutation others routes same l h);
}

-- a record of the walk stands in one of its cells
in_its_cells : (id : RouteId) (w : TimedWalk) (c : ℕ) (r : Record) → IsStay w id (stay_in c r) → IsAmong (stay_in c r).cell w.cells
in_its_cells id w c r is = among_cells w r.from (stay_in c r).cell (stood_from w id (stay_in c r) is)

-- what was put in of a route is taken out again
pub calendars_undo : (id : RouteId) (w : TimedWalk) (routes : List Live) (old mid new : List (List Record)) → All (λ (r : Live). r.id ≢ id) routes → AreCalendarsOf routes old
    → HasSomeOf (record { id = id; walk = w }) old mid → LacksId id w.cells mid new → AreCalendarsOf routes new
calendars_undo id w routes old mid new others are some lacks = record {
  sound = λ c r h. elim (some.only c r (lacks.only c r h)) [
    | inl before ↦ are.sound c r before
    | inr mine ↦ absurd (lacks.gone (stay_in c r).cell r (in_its_cells id w c r mine) h mine.mark)
  ];
  whole = λ l h. placed_still l old new
      (λ c r mark among. lacks.kept c r (some.kept c r among) (λ same. among_all (λ (x : Live). x.id ≢ id) l routes others h (sym mark ∙ same))) (are.whole l h);
}

-- a route ends
pub calendars_end : (id : RouteId) (w : TimedWalk) (routes : List Live) (old new : List (List Record)) → HasEachOnce routes → IsAmong (record { id = id; walk = w }) routes → AreCalendarsOf routes old
    → LacksId id w.cells old new → AreCalendarsOf (filter (λ r. not (same_id r.id id)) routes) new
calendars_end id w routes old new each live are lacks = record {
  sound = λ c r h. still c r h (are.sound c r (lacks.only c r h));
  whole = λ l h. placed_still l old new
      (λ c r mark among. lacks.kept c r among (λ same. other_id-true l.id id (passes l h) (sym mark ∙ same)))
      (are.whole l (IsAmong-from_filter other l routes h));
}
  where
    other : Live → Bool
    other r = not (same_id r.id id)

    passes : (l : Live) → IsAmong l (filter other routes) → other l ≡ true
    passes l h = among_all (λ x. other x ≡ true) l (filter other routes) (filter_passes other routes) h

    still : (c : ℕ) (r : Record) → IsAmong r (records_at new c) → IsRouteRecord routes c r → IsRouteRecord (filter other routes) c r
    still c r h is = elim (id_cases is.route.id id) [
      | inl same ↦
          let one : is.route ≡ record { id = id; walk = w } = each.once is.route (record { id = id; walk = w }) is.live live same in
          let mine : IsStay w id (stay_in c r) = subst (λ (x : Live). IsStay x.walk x.id (stay_in c r)) one is.stay in
          absurd (lacks.gone (stay_in c r).cell r (in_its_cells id w c r mine) h mine.mark)
      | inr differ ↦ record { route = is.route; live = IsAmong-filter other is.route routes (other_id is.route.id id differ) is.live; stay = is.stay }
    ]

-- a walk that is free of the routes is free of their records
pub untaken_in_calendars : (w : TimedWalk) (routes : List Live) (calendars : List (List Record)) → AreCalendarsOf routes calendars → IsFree w routes
    → (t : ℕ) (c : Cell) → position w t ≡ Some c → covers (records_at calendars c.0) t ≡ false
untaken_in_calendars w routes calendars are free t c at = taken_alike routes calendars are c t ∙ (free_in_traffic w routes free).untaken t c at

-- where a walk is at each time of its list
position_at : (w : TimedWalk) (k : ℕ) (d : Cell) → k < length w.cells → position w (w.depart + k) ≡ Some (get_or w.cells k d)
position_at w k d below =
    let e : w.depart + k - w.depart ≡ k = omega arith in
    position_within w (w.depart + k) (omega arith) (omega arith) ∙ (ap (slice_get w.cells) e ∙ slice_get-get_or w.cells k d below)

-- the cells of a walk on a grid are cells of it
pub walk_inside : (g : Terrain) (horizon : ℕ) (q : Request) (w : TimedWalk) → IsWalkOf g horizon q w → All (λ (c : Cell). c.0 < length g.cells) w.cells
walk_inside g horizon q w is k d below = slice_get_within g.cells (get_or w.cells k d).0 true (is.opens (w.depart + k) (get_or w.cells k d) (position_at w k d below))

-- the cells of a placed walk are inside
pub placed_inside : (route : Live) (calendars : List (List Record)) → IsPlaced calendars route → All (λ (c : Cell). c.0 < length calendars) route.walk.cells
placed_inside route calendars is k d below =
    let t : ℕ = route.walk.depart + k in
    let c : Cell = get_or route.walk.cells k d in
    let at : position route.walk t ≡ Some c = position_at route.walk k d below in
    let stay = among_any (λ (s : Stay). IsStay route.walk route.id s × ((s.cell ≡ c) × HoldsTime s.span t)) is.stays (stay_at route.walk route.id is.stays is.are t c at) in
    let there : IsAmong stay.0.span (records_at calendars c.0) = subst (λ (x : Cell). IsAmong stay.0.span (records_at calendars x.0)) stay.2.1.0 (is.placed stay.0 stay.1) in
    elim (nat_cases c.0 (length calendars)) [
      | inl inside ↦ inside
      | inr past ↦ absurd (subst (λ (rs : List Record). IsAmong stay.0.span rs) (get_or-past calendars c.0 past) there)
    ]
  where
    get_or-past : (cs : List (List Record)) (n : ℕ) → length cs ≤ n → get_or cs n [] ≡ []
    get_or-past cs n past = sym (unwrap_or-slice_get cs n []) ∙ ap (λ (o : Option (List Record)). unwrap_or o []) (slice_get_past cs n past)

-- what a route's coming leaves
pub calendars_added : (route : Live) (routes others : List Live) (old new : List (List Record)) → IsPermutation others (route ∷ routes) → AreCalendarsOf routes old → HasAllOf route old new
    → AreCalendarsOf others new
calendars_added route routes others old new same are all = calendars_reorder (route ∷ routes) others new same (calendars_enter route routes old new are all)
