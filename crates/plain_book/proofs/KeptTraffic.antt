-- The calendars of the live routes make the traffic of the routes.
use Rattle.std.proofs.Common.{◌≡◌, ◌≢◌, ℕ, ◌+◌, inl, true, List, Option, Some, None, sym, ◌∙◌, subst, arith}
use Rattle.std.specs.Prelude.{◌==◌, ◌&&◌, IsPermutation}
use Rattle.std.specs.List.{list_any}
use Rattle.std.specs.Cmp.{both_ways}
use Rattle.std.proofs.lemmas.Bool.{and_parts, and_from, eq-eqb, eqb-true}
use Rattle.std.proofs.lemmas.List.Sorted.{list_any-IsPermutation}
use Rattle.fleet_base.specs.declared.grid.Cell.{Cell}
use Rattle.fleet_base.specs.declared.request.Record.{Record}
use Rattle.fleet_base.specs.declared.request.Request.{Request}
use Rattle.fleet_base.specs.declared.request.Stay.{Stay}
use Rattle.fleet_base.specs.declared.request.Live.{Live}
use Rattle.fleet_base.specs.TimedWalk.{TimedWalk, position}
use Rattle.fleet_base.specs.Stays.{HoldsTime, IsStay}
use Rattle.fleet_base.specs.History.{same_id}
use Rattle.fleet_base.specs.Order.{IsAmong}
use Rattle.fleet_base.specs.Traffic.{is_on, traffic_of}
use Rattle.fleet_base.proofs.TrafficLemmas.{is_on-true, is_on-some, free_in_traffic}
use Rattle.fleet_base.proofs.StayFacts.{stay_at, ends_at_move, begins_at_move}
use Rattle.fleet_base.proofs.CanonicalLemmas.{canonical_is_least}
use Rattle.calendars.specs.Records.{holds_time, covers, begins_as, ends_into, is_exchange}
use Rattle.calendars.specs.Assignments.{traffic_by}
use Rattle.calendars.proofs.RecordLemmas.{holds_from}
use Rattle.plain_book.specs.BookState.{BookState}
use Rattle.plain_book.specs.Kept.{records_at, IsRouteRecord, IsPlaced, AreCalendarsOf}
use Rattle.plain_book.specs.Found.{FindsWalk, PlansWalk}
use Rattle.plain_book.proofs.Members.{among_any, among_list_any, list_any_among, same_id-true, same_id-from}
use Rattle.plain_book.proofs.Placing.{holds_from_true}
use Rattle.plain_book.proofs.Alike.{AreAlike, AreAlike-sym, AreAlike-trans, free_alike, canonical_alike}

-- live routes of one id are one
pub record HasEachOnce (routes : List Live) : Type 0 where
  pub once : (l m : Live) → IsAmong l routes → IsAmong m routes → l.id ≡ m.id → l ≡ m

holds_time-from : (r : Record) (t : ℕ) → HoldsTime r t → holds_time t r ≡ true
holds_time-from r t h = holds_from r t h.0 h.1

module _ (routes : List Live) (calendars : List (List Record)) (are : AreCalendarsOf routes calendars) where
  -- a covered cell is one where a live route is, and the other way round
  pub taken_alike : (c : Cell) (t : ℕ) → covers (records_at calendars c.0) t ≡ list_any (λ r. is_on c (position r.walk t)) routes
  taken_alike c t = both_ways (covers (records_at calendars c.0) t) (list_any (λ r. is_on c (position r.walk t)) routes) there back
    where
      there : covers (records_at calendars c.0) t ≡ true → list_any (λ r. is_on c (position r.walk t)) routes ≡ true
      there covered =
          let found = among_list_any (holds_time t) (records_at calendars c.0) covered in
          let of : IsRouteRecord routes c.0 found.0 = are.sound c.0 found.0 found.1 in
          list_any_among (λ r. is_on c (position r.walk t)) of.route routes of.live (is_on-some c (position of.route.walk t) (of.stay.within t (holds_from_true found.0 t found.2)))

      back : list_any (λ r. is_on c (position r.walk t)) routes ≡ true → covers (records_at calendars c.0) t ≡ true
      back taken =
          let found = among_list_any (λ (r : Live). is_on c (position r.walk t)) routes taken in
          let placed : IsPlaced calendars found.0 = are.whole found.0 found.1 in
          let stay = among_any (λ (s : Stay). IsStay found.0.walk found.0.id s × ((s.cell ≡ c) × HoldsTime s.span t)) placed.stays
          (stay_at found.0.walk found.0.id placed.stays placed.are t c (is_on-true c (position found.0.walk t) found.2)) in
          list_any_among (holds_time t) stay.0.span (records_at calendars c.0)
          (subst (λ (d : Cell). IsAmong stay.0.span (records_at calendars d.0)) stay.2.1.0 (placed.placed stay.0 stay.1))
          (holds_time-from stay.0.span t stay.2.1.1)

  module _ (each : HasEachOnce routes) where
    exchange_there : (c d : Cell) (t : ℕ) → is_exchange (records_at calendars c.0) (records_at calendars d.0) t ≡ true
        → list_any (λ r. is_on d (position r.walk t) && is_on c (position r.walk (t + 1))) routes ≡ true
    exchange_there c d t crossing =
        let leaves = among_list_any (ends_into (records_at calendars c.0) t) (records_at calendars d.0) crossing in
        let parts = and_parts (leaves.0.to == t) (list_any (begins_as (t + 1) leaves.0.id) (records_at calendars c.0)) leaves.2 in
        let comes = among_list_any (begins_as (t + 1) leaves.0.id) (records_at calendars c.0) parts.1 in
        let begins = and_parts (comes.0.from == (t + 1)) (same_id comes.0.id leaves.0.id) comes.2 in
        let first : IsRouteRecord routes d.0 leaves.0 = are.sound d.0 leaves.0 leaves.1 in
        let second : IsRouteRecord routes c.0 comes.0 = are.sound c.0 comes.0 comes.1 in
        let ends : leaves.0.to ≡ t = eqb-true leaves.0.to t parts.0 in
        let since : comes.0.from ≡ t + 1 = eqb-true comes.0.from (t + 1) begins.0 in
        let ids : second.route.id ≡ first.route.id = sym second.stay.mark ∙ (same_id-true comes.0.id leaves.0.id begins.1 ∙ first.stay.mark) in
        let same : second.route ≡ first.route = each.once second.route first.route second.live first.live ids in
        let here : position first.route.walk t ≡ Some d = first.stay.within t (omega (arith, first.stay.some), inl (omega arith)) in
        let next : position second.route.walk (t + 1) ≡ Some c = second.stay.within (t + 1) (omega arith, inl (omega (arith, second.stay.some))) in
        let next_too : position first.route.walk (t + 1) ≡ Some c = subst (λ (r : Live). position r.walk (t + 1) ≡ Some c) same next in
        list_any_among (λ r. is_on d (position r.walk t) && is_on c (position r.walk (t + 1))) first.route routes first.live
        (and_from (is_on d (position first.route.walk t)) (is_on c (position first.route.walk (t + 1))) (is_on-some d _ here) (is_on-some c _ next_too))

    exchange_back : (c d : Cell) (t : ℕ) → c ≢ d → list_any (λ r. is_on d (position r.walk t) && is_on c (position r.walk (t + 1))) routes ≡ true
        → is_exchange (records_at calendars c.0) (records_at calendars d.0) t ≡ true
    exchange_back c d t differ barred =
        let found = among_list_any (λ (r : Live). is_on d (position r.walk t) && is_on c (position r.walk (t + 1))) routes barred in
        let on = and_parts (is_on d (position found.0.walk t)) (is_on c (position found.0.walk (t + 1))) found.2 in
        let here : position found.0.walk t ≡ Some d = is_on-true d _ on.0 in
        let next : position found.0.walk (t + 1) ≡ Some c = is_on-true c _ on.1 in
        let placed : IsPlaced calendars found.0 = are.whole found.0 found.1 in
        let leaves = among_any (λ (s : Stay). IsStay found.0.walk found.0.id s × ((s.cell ≡ d) × (s.span.to ≡ t))) placed.stays
        (ends_at_move found.0.walk found.0.id placed.stays placed.are t d c here next (λ same. differ (sym same))) in
        let comes = among_any (λ (s : Stay). IsStay found.0.walk found.0.id s × ((s.cell ≡ c) × (s.span.from ≡ t + 1))) placed.stays
        (begins_at_move found.0.walk found.0.id placed.stays placed.are t d c here next (λ same. differ (sym same))) in
        let leaves_in : IsAmong leaves.0.span (records_at calendars d.0) = subst (λ (x : Cell). IsAmong leaves.0.span (records_at calendars x.0)) leaves.2.1.0 (placed.placed leaves.0 leaves.1) in
        let comes_in : IsAmong comes.0.span (records_at calendars c.0) = subst (λ (x : Cell). IsAmong comes.0.span (records_at calendars x.0)) comes.2.1.0 (placed.placed comes.0 comes.1) in
        let begins : list_any (begins_as (t + 1) leaves.0.span.id) (records_at calendars c.0) ≡ true =
        list_any_among (begins_as (t + 1) leaves.0.span.id) comes.0.span (records_at calendars c.0) comes_in
        (and_from (comes.0.span.from == (t + 1)) (same_id comes.0.span.id leaves.0.span.id) (eq-eqb comes.0.span.from (t + 1) comes.2.1.1)
        (same_id-from comes.0.span.id leaves.0.span.id (comes.2.0.mark ∙ sym leaves.2.0.mark))) in
        list_any_among (ends_into (records_at calendars c.0) t) leaves.0.span (records_at calendars d.0) leaves_in
        (and_from (leaves.0.span.to == t) (list_any (begins_as (t + 1) leaves.0.span.id) (records_at calendars c.0)) (eq-eqb leaves.0.span.to t leaves.2.1.1) begins)

    pub calendars_alike : AreAlike (traffic_by (records_at calendars)) (traffic_of routes)
    calendars_alike = record {
      taken = taken_alike;
      barred = λ c d t differ. both_ways (is_exchange (records_at calendars c.0) (records_at calendars d.0) t)
          (list_any (λ r. is_on d (position r.walk t) && is_on c (position r.walk (t + 1))) routes) (exchange_there c d t) (exchange_back c d t differ);
    }

-- the order of the routes doesn't matter
pub books_alike : (first second : List Live) → IsPermutation first second → AreAlike (traffic_of first) (traffic_of second)
books_alike first second same = record {
  taken = λ c t. list_any-IsPermutation (λ r. is_on c (position r.walk t)) first second same;
  barred = λ c d t differ. list_any-IsPermutation (λ r. is_on d (position r.walk t) && is_on c (position r.walk (t + 1))) first second same;
}

-- what is found among the calendars is found among the routes
pub planned_from_found : (s : BookState) (calendars : List (List Record)) (q : Request) (found : Option TimedWalk) → AreAlike (traffic_by (records_at calendars)) (traffic_of s.routes)
    → FindsWalk s.grid s.horizon (traffic_by (records_at calendars)) q found → PlansWalk s q found
planned_from_found s calendars q (Some w) alike is = record {
  canonical = λ book same. canonical_alike s.grid q (traffic_by (records_at calendars)) (traffic_of book)
      (AreAlike-trans (traffic_by (records_at calendars)) (traffic_of s.routes) (traffic_of book) alike (AreAlike-sym (traffic_of book) (traffic_of s.routes) (books_alike book s.routes same)))
      s.horizon w is;
  least = canonical_is_least s.grid s.horizon q s.routes w (canonical_alike s.grid q (traffic_by (records_at calendars)) (traffic_of s.routes) alike s.horizon w is);
}
planned_from_found s calendars q None alike never = record {
  never = λ w walk free. never w walk (free_alike (traffic_of s.routes) (traffic_by (records_at calendars)) (AreAlike-sym (traffic_by (records_at calendars)) (traffic_of s.routes) alike) w (free_in_traffic w s.routes free));
}
