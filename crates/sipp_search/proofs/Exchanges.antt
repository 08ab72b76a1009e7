-- Of all moves between two safe intervals the earliest decides: where it is barred, so is each later one.
use Rattle.std.proofs.Common.{arith, sym, ◌∙◌, refl, inl, inr}
use Rattle.std.proofs.lemmas.Bool.{cases_lt, cases_Bool, false≢true, or_cases, and_parts, eqb-true}
use Rattle.std.specs.Prelude.{Bool, ◌||◌, ◌==◌, ◌≡◌, ℕ, ◌+◌, ◌-◌, ◌<◌, ◌≤◌, true, false, List, [], ◌∷◌, max}
use Rattle.std.specs.List.{list_any}
use Rattle.fleet_base.specs.declared.request.Record.{Record}
use Rattle.fleet_base.specs.declared.request.RouteId.{RouteId}
use Rattle.fleet_base.specs.History.{same_id}
use Rattle.calendars.specs.Records.{covers, holds_time, is_exchange, InOrder, InOrderFrom, begins_as, ends_into}
use Rattle.calendars.proofs.RecordLemmas.{holds_from}
use Rattle.safe_intervals.specs.declared.interval.Interval.{Interval}
use Rattle.safe_intervals.specs.Safe.{IsIn}
use Rattle.sipp_search.specs.Entry.{CanEnter, IsEntry}

or_left : (x y : Bool) → x ≡ true → (x || y) ≡ true
or_left true y h = refl
or_left false y h = absurd (false≢true h)

or_right : (x y : Bool) → y ≡ true → (x || y) ≡ true
or_right true y h = refl
or_right false y h = h

-- where a record begins, its time is covered
begins_covers : (rs : List Record) (low t : ℕ) (id : RouteId) → InOrderFrom low rs → list_any (begins_as t id) rs ≡ true → covers rs t ≡ true
begins_covers [] low t id order h = absurd (false≢true h)
begins_covers (r ∷ rs) low t id order h = elim (or_cases (begins_as t id r) (list_any (begins_as t id) rs) h) [
  | inl here ↦
      let at : r.from ≡ t = eqb-true r.from t (and_parts (r.from == t) (same_id r.id id) here).0 in
      let proper : r.from ≤ r.to = order.1 in
      or_left (holds_time t r) (covers rs t) (holds_from r t (omega arith) (inl (omega arith)))
  | inr later ↦ or_right (holds_time t r) (covers rs t) (begins_covers rs (r.to + 1) t id order.3 later)
]

-- who takes part in an exchange stands, just after, in the cell that is left
exchange_covers : (from to : List Record) (t : ℕ) → InOrder from → is_exchange from to t ≡ true → covers from (t + 1) ≡ true
exchange_covers from [] t order h = absurd (false≢true h)
exchange_covers from (r ∷ rs) t order h = elim (or_cases (ends_into from t r) (is_exchange from rs t) h) [
  | inl here ↦ begins_covers from 0 (t + 1) r.id order (and_parts (r.to == t) (list_any (begins_as (t + 1) r.id) from) here).1
  | inr later ↦ exchange_covers from rs t order later
]

-- no move is an exchange where the cell that is left is free just after
pub unbarred_free : (from to : List Record) (t : ℕ) → InOrder from → covers from (t + 1) ≡ false → is_exchange from to t ≡ false
unbarred_free from to t order free = elim (cases_Bool (is_exchange from to t)) [
  | inr unbarred ↦ unbarred
  | inl barred ↦ absurd (false≢true (sym free ∙ exchange_covers from to t order barred))
]

module _ (here there : List Record) (from to : Interval) (since arrival : ℕ) (order : InOrder here) (free : (t : ℕ) → IsIn t from → covers here t ≡ false)
    (begun : from.from ≤ since) (is : arrival ≡ max to.from (since + 1)) where
  -- an exchange at the earliest move bars each later one
  pub earliest_bars : is_exchange here there (arrival - 1) ≡ true → (t : ℕ) → ¬ (CanEnter here there from to since t)
  earliest_bars barred t can =
      let lands : to.from ≤ t + 1 = can.lands.0 in
      elim (cases_lt (arrival - 1) t) [
        | inl before ↦
            let clear : covers here (arrival - 1 + 1) ≡ false = free (arrival - 1 + 1) (omega arith, omega (arith, can.until, can.not_before)) in
            false≢true (sym clear ∙ exchange_covers here there (arrival - 1) order barred)
        | inr since' ↦
            let e : arrival - 1 ≡ t = omega (arith, can.not_before) in
            let here' : is_exchange here there t ≡ true = rw e at barred in
            false≢true (sym can.unbarred ∙ here')
      ]

-- The earliest time that there could be.
module _ (here there : List Record) (from to : Interval) (since arrival : ℕ) (is : arrival ≡ max to.from (since + 1)) where
  -- no move arrives earlier
  pub earliest_least : (t : ℕ) → CanEnter here there from to since t → arrival ≤ t + 1
  earliest_least t can = omega (arith, can.lands.0, can.not_before)

  pub earliest_enters : is_exchange here there (arrival - 1) ≡ false → arrival ≤ from.to + 1 → arrival ≤ to.to → IsEntry here there from to since arrival
  earliest_enters unbarred until inside = record {
    before = arrival - 1;
    time_is = omega arith;
    enters = record {
      not_before = omega arith;
      until = omega arith;
      lands = (omega arith, omega arith);
      unbarred = unbarred;
    };
    least = λ t can. omega (arith, can.lands.0, can.not_before);
  }

-- a move before the end of the interval is no exchange
pub unbarred_inside : (here there : List Record) (from : Interval) (arrival : ℕ) → InOrder here → ((t : ℕ) → IsIn t from → covers here t ≡ false)
    → from.from < arrival → arrival ≤ from.to → is_exchange here there (arrival - 1) ≡ false
unbarred_inside here there from arrival order free begun early = elim (cases_Bool (is_exchange here there (arrival - 1))) [
  | inr unbarred ↦ unbarred
  | inl barred ↦
      let clear : covers here (arrival - 1 + 1) ≡ false = free (arrival - 1 + 1) (omega arith, omega arith) in
      absurd (false≢true (sym clear ∙ exchange_covers here there (arrival - 1) order barred))
]
