-- The gap after so many records: which times come after just those, and which of them are free.
use Rattle.std.proofs.Common.{arith, subst, sym, ap, ◌∙◌, refl, inl, inr, get_or, drop, length, drop-cons}
use Rattle.std.proofs.lemmas.Bool.{cases_lt, le-ltb, lt-ltb}
use Rattle.std.proofs.lemmas.List.{drop_all}
use Rattle.std.proofs.lemmas.List.Folds.{list_any_at}
use Rattle.std.specs.Prelude.{◌≡◌, ◌≢◌, ℕ, zero, suc, ◌+◌, ◌-◌, ◌<◌, ◌≤◌, ◌⊎◌, min, true, false, List, [], ◌∷◌, if◌then◌else◌}
use Rattle.fleet_base.specs.declared.request.Record.{Record}
use Rattle.fleet_base.specs.declared.request.TheConstants.{FOREVER}
use Rattle.calendars.specs.Records.{covers, holds_time, InOrderFrom, InOrder}
use Rattle.calendars.specs.Places.{place_in}
use Rattle.calendars.proofs.PlaceLemmas.{since_low, place_within}
use Rattle.calendars.proofs.RecordLemmas.{holds_from, below_uncovered}
use Rattle.safe_intervals.specs.Safe.{IsGapAt, NoneSafeAt}
use Rattle.safe_intervals.proofs.Counting.{begun_before, more_begun, one_more_begun, all_begun}
use Rattle.safe_intervals.proofs.GapLemmas.{at_place}

-- none has begun before the first
none_begun : (rs : List Record) (low t : ℕ) → InOrderFrom low rs → t < low → place_in t rs ≡ 0
none_begun [] low t order early = refl
none_begun (r ∷ rs) low t order early =
    let since : low ≤ r.from = order.0 in
    ap (λ b. if b then 0 else suc (place_in t rs)) (lt-ltb t r.from (omega arith))

-- a record's beginning has all records before it, and itself, begun
place_of_begin : (rs : List Record) (low k : ℕ) (d : Record) → InOrderFrom low rs → k < length rs → place_in (get_or rs k d).from rs ≡ suc k
place_of_begin [] low k d order within = absurd (omega arith)
place_of_begin (r ∷ rs) low zero d order within =
    let proper : r.from ≤ r.to = order.1 in
    ap (λ b. if b then 0 else suc (place_in r.from rs)) (le-ltb r.from r.from (omega arith)) ∙ ap suc (none_begun rs (r.to + 1) r.from order.3 (omega arith))
place_of_begin (r ∷ rs) low (suc k) d order within =
    let proper : r.from ≤ r.to = order.1 in
    let later : r.to + 1 ≤ (get_or rs k d).from = since_low rs (r.to + 1) k d order.3 (omega arith) in
    ap (λ b. if b then 0 else suc (place_in (get_or rs k d).from rs)) (le-ltb (get_or rs k d).from r.from (omega arith)) ∙ ap suc (place_of_begin rs (r.to + 1) k d order.3 (omega arith))

proper_at : (rs : List Record) (low k : ℕ) (d : Record) → InOrderFrom low rs → k < length rs → (get_or rs k d).from ≤ (get_or rs k d).to
proper_at [] low k d order within = absurd (omega arith)
proper_at (r ∷ rs) low zero d order within = order.1
proper_at (r ∷ rs) low (suc k) d order within = proper_at rs (r.to + 1) k d order.3 (omega arith)

-- From `low` on the records before the place are over; where exactly so many have begun, no earlier time is free.
pub record IsBehind (records : List Record) (place low : ℕ) : Type 0 where
  pub order : InOrderFrom low (drop place records)
  pub agrees : (t : ℕ) → low ≤ t → covers records t ≡ covers (drop place records) t
  pub edge : (low ≡ 0) ⊎ ((0 < low) × (covers records (low - 1) ≡ true))
  pub begun : (t : ℕ) → low ≤ t → place ≤ place_in t records
  pub since : (t : ℕ) → covers records t ≡ false → place_in t records ≡ place → low ≤ t

behind_none : (records : List Record) → InOrder records → IsBehind records 0 0
behind_none records order = record {
  order = order;
  agrees = λ t after. refl;
  edge = inl refl;
  begun = λ t after. omega arith;
  since = λ t free at. omega arith;
}

-- where the last record before the place has begun, a free time is after its end
free_after : (records : List Record) (k t : ℕ) (d : Record) → k < length records → covers records t ≡ false → place_in t records ≡ suc k → (get_or records k d).to + 1 ≤ t
free_after records k t d within free at =
    let begun : (get_or records k d).from ≤ t = begun_before records t k d (omega arith) in
    elim (cases_lt (get_or records k d).to t) [
      | inl over ↦ omega arith
      | inr on ↦ let held : covers records t ≡ true = list_any_at (holds_time t) records k d within (holds_from (get_or records k d) t begun (inl on)) in absurd (cc)
    ]

behind_last : (records : List Record) (k : ℕ) (d : Record) → InOrder records → k < length records → (get_or records k d).to ≢ FOREVER
    → IsBehind records (suc k) ((get_or records k d).to + 1)
behind_last records k d order within ends =
    let place = place_of_begin records 0 k d order within in
    let at = at_place records 0 (get_or records k d).from k d order place ends in
    let proper = proper_at records 0 k d order within in
    record {
      order = at.order;
      agrees = at.agrees;
      edge = at.edge;
      begun = λ t after. omega (arith, place, more_begun records (get_or records k d).from t (omega (arith, proper)));
      since = λ t free is. free_after records k t d within free is;
    }

module _ (records : List Record) (horizon place low : ℕ) (behind : IsBehind records place low) where
  -- the next record begins before any free time
  pub none_after : (d : Record) → place < length records → (get_or records place d).from ≤ low → NoneSafeAt records horizon place
  none_after d within on t until free at =
      let after : low ≤ t = behind.since t free at in
      omega (arith, one_more_begun records t place d (behind.begun t after) within (omega arith))

  -- all times from `low` to the next record's beginning are free
  pub gap_till_next : (end : ℕ) (d : Record) → place < length records → low < (get_or records place d).from → low ≤ horizon
      → end ≡ min horizon ((get_or records place d).from - 1) → IsGapAt records horizon place (record { from = low; to = end })
  gap_till_next end d within before small is = record {
    safe = record {
      some = omega arith;
      within = omega arith;
      free = λ t at. behind.agrees t at.0 ∙ below_uncovered (drop place records) (get_or records place d).from t order_next (omega (arith, at.1));
      begins = behind.edge;
      ends = elim (cases_lt end horizon) [
        | inl inside ↦ let e : end + 1 ≡ (get_or records place d).from = omega arith in inr (rw e taken_next)
        | inr past ↦ inl (omega arith)
      ];
    };
    place_is = λ t at. sym (all_begun records t place d (behind.begun t at.0) (omega (arith, at.1)));
  }
    where
      here : drop place records ≡ get_or records place d ∷ drop (suc place) records
      here = drop-cons records place d within

      order_next : InOrderFrom (get_or records place d).from (drop place records)
      order_next = rw here (go (rw here at behind.order)) where
        go : InOrderFrom low (get_or records place d ∷ drop (suc place) records) → InOrderFrom (get_or records place d).from (get_or records place d ∷ drop (suc place) records)
        go order = (omega arith, order.1, order.2, order.3)

      proper : (get_or records place d).from ≤ (get_or records place d).to
      proper = go (rw here at behind.order) where
        go : InOrderFrom low (get_or records place d ∷ drop (suc place) records) → (get_or records place d).from ≤ (get_or records place d).to
        go order = order.1

      taken_next : covers records (get_or records place d).from ≡ true
      taken_next = list_any_at (holds_time (get_or records place d).from) records place d within (holds_from (get_or records place d) (get_or records place d).from (omega arith) (inl proper))

  -- behind the last record all times are free
  pub gap_till_horizon : length records ≤ place → low ≤ horizon → IsGapAt records horizon place (record { from = low; to = horizon })
  gap_till_horizon over small = record {
    safe = record {
      some = small;
      within = omega arith;
      free = λ t at. behind.agrees t at.0 ∙ ap (λ (rs : List Record). covers rs t) (drop_all place records over);
      begins = behind.edge;
      ends = inl refl;
    };
    place_is = λ t at. omega (arith, behind.begun t at.0, place_within t records);
  }

-- What the beginning that was found tells of the calendar.
abbrev pub BeginsAt : List Record → ℕ → ℕ → ℕ → Type 0
BeginsAt records horizon place low = IsBehind records place low × (low ≤ horizon)

pub found_none : (full : List Record) (horizon place low : ℕ) → InOrder full → place ≡ 0 → low ≡ 0 → BeginsAt full horizon place low
found_none full horizon place low order none is = rw (none, is) (behind_none full order, omega arith)

pub found_last : (full rs : List Record) (horizon place low : ℕ) (d : Record) → rs ≡ full → InOrder full → 0 < place → place ≤ length full → horizon ≤ 8000
    → (get_or rs (place - 1) d).to < horizon → low ≡ (get_or rs (place - 1) d).to + 1 → BeginsAt full horizon place low
found_last full rs horizon place low d same order some within small before is =
    let e : suc (place - 1) ≡ place = omega arith in
    let before' : (get_or full (place - 1) d).to < horizon = rw same at before in
    let is' : low ≡ (get_or full (place - 1) d).to + 1 = rw same at is in (
      rw is' (subst (λ (n : ℕ). IsBehind full n ((get_or full (place - 1) d).to + 1)) e (behind_last full (place - 1) d order (omega arith) (λ never. omega arith))),
      omega arith,
    )

-- a record before the place that reaches the horizon leaves no time
pub found_reaching : (full rs : List Record) (place horizon : ℕ) (d : Record) → rs ≡ full → 0 < place → place ≤ length full
    → horizon ≤ (get_or rs (place - 1) d).to → NoneSafeAt full horizon place
found_reaching full rs place horizon d same some within reaches t until free at =
    let reaches' : horizon ≤ (get_or full (place - 1) d).to = rw same at reaches in
    omega (arith, free_after full (place - 1) t d (omega arith) free (omega arith))
