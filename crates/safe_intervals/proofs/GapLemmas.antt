-- The gaps between records in order: one after another, and the first one after a time.
use Rattle.std.proofs.Common.{arith, subst, sym, ◌∙◌, refl, inl, inr, get_or, drop, length, add-one, drop-cons}
use Rattle.std.proofs.lemmas.Bool.{cases_lt, ltb-true, ltb-false}
use Rattle.std.proofs.lemmas.List.Folds.{list_any_at}
use Rattle.std.specs.Prelude.{◌≡◌, ◌≢◌, ℕ, zero, suc, ◌+◌, ◌-◌, ◌<◌, ◌≤◌, ◌⊎◌, ◌||◌, min, nat_lt, Bool, true, false, List, [], ◌∷◌, Option, Some, None, if◌then◌else◌}
use Rattle.fleet_base.specs.declared.request.Record.{Record}
use Rattle.fleet_base.specs.declared.request.TheConstants.{FOREVER}
use Rattle.calendars.specs.Records.{covers, holds_time, InOrderFrom, InOrder}
use Rattle.calendars.specs.Places.{place_in}
use Rattle.calendars.proofs.RecordLemmas.{holds_from, held_not_after, covers_first, covers_past, below_uncovered}
use Rattle.safe_intervals.specs.declared.interval.Interval.{Interval}
use Rattle.safe_intervals.specs.Safe.{NoneSafeFrom, AnswersGap, IsFirstGap, LeavesFirst}

or_second : (x y : Bool) → y ≡ true → (x || y) ≡ true
or_second true y e = refl
or_second false y e = e

-- What a loop over records knows: all times from `low` to `begin` are taken, and from there on the rest decides.
pub record IsLooking (records rest : List Record) (low begin horizon : ℕ) : Type 0 where
  pub since : low ≤ begin
  pub within : begin ≤ horizon
  pub order : InOrderFrom begin rest
  pub taken : (t : ℕ) → low ≤ t → t < begin → covers records t ≡ true
  pub agrees : (t : ℕ) → begin ≤ t → covers records t ≡ covers rest t

pub looks_at_all : (records : List Record) (low horizon : ℕ) → low ≤ horizon → InOrderFrom low records → IsLooking records records low low horizon
looks_at_all records low horizon within order = record { since = omega arith; within = within; order = order; taken = λ t a b. absurd (omega arith); agrees = λ t a. refl }

not_covered_before : (r : Record) (rest : List Record) (begin t : ℕ) → InOrderFrom begin (r ∷ rest) → t < r.from → covers (r ∷ rest) t ≡ false
not_covered_before r rest begin t order early = below_uncovered (r ∷ rest) r.from t (let e : r.from ≤ r.from = omega arith in (e, order.1, order.2, order.3)) early

covered_by_first : (r : Record) (rest : List Record) (t : ℕ) → r.from ≤ t → t ≤ r.to → covers (r ∷ rest) t ≡ true
covered_by_first r rest t since until = covers_first r rest t (holds_from r t since (inl until))

module _ (records rest : List Record) (r : Record) (low begin horizon : ℕ) (looks : IsLooking records (r ∷ rest) low begin horizon) where
  proper : r.from ≤ r.to
  proper = looks.order.1

  pub gap_before : begin < r.from → IsFirstGap records low horizon (record { from = begin; to = min (r.from - 1) horizon })
  gap_before before =
      let p : r.from ≤ r.to = proper in
      record {
        since = looks.since;
        some = omega (arith, looks.within);
        within = omega arith;
        taken = looks.taken;
        free = λ t at. looks.agrees t at.0 ∙ not_covered_before r rest begin t looks.order (omega (arith, at.1));
        ends = elim (cases_lt (r.from - 1) horizon) [
          | inl inside ↦
              let e : min (r.from - 1) horizon + 1 ≡ r.from = omega arith in
              inr (rw e (looks.agrees r.from (omega arith) ∙ covered_by_first r rest r.from (omega arith) p))
          | inr past ↦ inl (omega arith)
        ];
      }

  at_begin : ¬ (begin < r.from) → r.from ≡ begin
  at_begin not_before = let since : begin ≤ r.from = looks.order.0 in elim (cases_lt begin r.from) [ inl before ↦ absurd (not_before before) | inr on ↦ omega arith ]

  taken_by_first : r.from ≤ begin → (t : ℕ) → low ≤ t → t ≤ r.to → covers records t ≡ true
  taken_by_first on t since until = elim (cases_lt t begin) [
    | inl before ↦ looks.taken t since before
    | inr after ↦ looks.agrees t after ∙ covered_by_first r rest t (omega arith) until
  ]

  pub none_left : r.from ≤ begin → horizon ≤ r.to → NoneSafeFrom records horizon low
  none_left on past = λ t since until. taken_by_first on t since (omega arith)

  pub looks_on : r.from ≤ begin → r.to < horizon → horizon ≤ 8000 → IsLooking records rest low (r.to + 1) horizon
  looks_on on before small =
      let p : r.from ≤ r.to = proper in
      let s : begin ≤ r.from = looks.order.0 in
      record {
        since = omega (arith, looks.since);
        within = omega arith;
        order = looks.order.3;
        taken = λ t since until. taken_by_first on t since (omega arith);
        agrees = λ t after. looks.agrees t (omega arith) ∙ covers_past r rest t (held_not_after r t (omega arith) (λ never. omega arith));
      }

pub last_gap : (records : List Record) (low begin horizon : ℕ) → IsLooking records [] low begin horizon → IsFirstGap records low horizon (record { from = begin; to = horizon })
last_gap records low begin horizon looks = record {
  since = looks.since;
  some = looks.within;
  within = omega arith;
  taken = looks.taken;
  free = λ t at. looks.agrees t at.0;
  ends = inl refl;
}

-- What holds at the place of a time: the records after it begin later, and `low` is the end of those before it.
pub record IsAtPlace (records rest : List Record) (from low : ℕ) : Type 0 where
  pub order : InOrderFrom low rest
  pub later : InOrderFrom (from + 1) rest
  pub agrees : (t : ℕ) → low ≤ t → covers records t ≡ covers rest t
  pub taken : (t : ℕ) → from ≤ t → t < low → covers records t ≡ true
  pub edge : (low ≡ 0) ⊎ ((0 < low) × (covers records (low - 1) ≡ true))

begins_later : (rs : List Record) (low from : ℕ) → InOrderFrom low rs → place_in from rs ≡ 0 → InOrderFrom (from + 1) rs
begins_later [] low from order e = tt
begins_later (r ∷ rs) low from order e = go (nat_lt from r.from) refl e where
  go : (b : Bool) → nat_lt from r.from ≡ b → (if b then 0 else suc (place_in from rs)) ≡ 0 → InOrderFrom (from + 1) (r ∷ rs)
  go true later e = let l : from < r.from = ltb-true from r.from later in (omega arith, order.1, order.2, order.3)
  go false begun e = absurd (omega arith)

pub at_start : (rs : List Record) (from : ℕ) → InOrder rs → place_in from rs ≡ 0 → IsAtPlace rs rs from 0
at_start rs from order e = record {
  order = order;
  later = begins_later rs 0 from order e;
  agrees = λ t a. refl;
  taken = λ t a b. absurd (omega arith);
  edge = inl refl;
}

-- where so many have begun, the first has
first_begun : (r : Record) (rs : List Record) (from k : ℕ) → place_in from (r ∷ rs) ≡ suc k → (r.from ≤ from) × (place_in from rs ≡ k)
first_begun r rs from k e = go (nat_lt from r.from) refl e where
  go : (b : Bool) → nat_lt from r.from ≡ b → (if b then 0 else suc (place_in from rs)) ≡ suc k → (r.from ≤ from) × (place_in from rs ≡ k)
  go true later e = absurd (omega arith)
  go false begun e = (ltb-false from r.from begun, omega arith)

pub last_begins : (rs : List Record) (from k : ℕ) (d : Record) → place_in from rs ≡ suc k → (get_or rs k d).from ≤ from
last_begins [] from k d e = absurd (omega arith)
last_begins (r ∷ rs) from zero d e = (first_begun r rs from zero e).0
last_begins (r ∷ rs) from (suc k) d e = last_begins rs from k d (first_begun r rs from (suc k) e).1

pub at_place : (rs : List Record) (low from k : ℕ) (d : Record) → InOrderFrom low rs → place_in from rs ≡ suc k → (get_or rs k d).to ≢ FOREVER
    → IsAtPlace rs (drop (suc k) rs) from ((get_or rs k d).to + 1)
at_place [] low from k d order e ends = absurd (omega arith)
at_place (r ∷ rs) low from zero d order e ends =
    let first = first_begun r rs from zero e in
    let begun : r.from ≤ from = first.0 in
    let proper : r.from ≤ r.to = order.1 in
    record {
      order = order.3;
      later = begins_later rs (r.to + 1) from order.3 first.1;
      agrees = λ t after. covers_past r rs t (held_not_after r t (omega arith) ends);
      taken = λ t since before. covered_by_first r rs t (omega arith) (omega arith);
      edge = inr (omega arith, covered_by_first r rs (r.to + 1 - 1) (omega arith) (omega arith));
    }
at_place (r ∷ rs) low from (suc k) d order e ends = go (at_place rs (r.to + 1) from k d order.3 (first_begun r rs from (suc k) e).1 ends)
  where
    -- the first record is over before the last one that has begun
    over : (t : ℕ) → (get_or rs k d).to + 1 ≤ t → holds_time t r ≡ false
    over t after =
        let next : r.to + 1 ≤ (get_or rs k d).from = since_first rs (r.to + 1) k d order.3 (first_begun r rs from (suc k) e).1 in
        let p : (get_or rs k d).from ≤ (get_or rs k d).to = proper_at rs (r.to + 1) k d order.3 (first_begun r rs from (suc k) e).1 in
        held_not_after r t (omega arith) (λ never. not_last rs order.2 never (first_begun r rs from (suc k) e).1)
      where
        since_first : (rs : List Record) (low k : ℕ) (d : Record) → InOrderFrom low rs → place_in from rs ≡ suc k → low ≤ (get_or rs k d).from
        since_first [] low k d order e = absurd (omega arith)
        since_first (r ∷ rs) low zero d order e = order.0
        since_first (r ∷ rs) low (suc k) d order e =
            let rest : r.to + 1 ≤ (get_or rs k d).from = since_first rs (r.to + 1) k d order.3 (first_begun r rs from (suc k) e).1 in
            let p : r.from ≤ r.to = order.1 in let s : low ≤ r.from = order.0 in omega arith

        proper_at : (rs : List Record) (low k : ℕ) (d : Record) → InOrderFrom low rs → place_in from rs ≡ suc k → (get_or rs k d).from ≤ (get_or rs k d).to
        proper_at [] low k d order e = absurd (omega arith)
        proper_at (r ∷ rs) low zero d order e = order.1
        proper_at (r ∷ rs) low (suc k) d order e = proper_at rs (r.to + 1) k d order.3 (first_begun r rs from (suc k) e).1

        not_last : (rs : List Record) → (r.to ≡ FOREVER → rs ≡ []) → r.to ≡ FOREVER → place_in from rs ≡ suc k → ⊥
        not_last [] last never e = omega arith
        not_last (s ∷ rs) last never e = let none : s ∷ rs ≡ [] = last never in cc

    go : IsAtPlace rs (drop (suc k) rs) from ((get_or rs k d).to + 1) → IsAtPlace (r ∷ rs) (drop (suc k) rs) from ((get_or rs k d).to + 1)
    go at = record {
      order = at.order;
      later = at.later;
      agrees = λ t after. covers_past r rs t (over t after) ∙ at.agrees t after;
      taken = λ t since before. or_second (holds_time t r) (covers rs t) (at.taken t since before);
      edge = elim at.edge [
        | inl none ↦ inl none
        | inr some ↦ inr (some.0, or_second (holds_time ((get_or rs k d).to + 1 - 1) r) _ some.1)
      ];
    }

-- the first gap from the place on is the next safe interval
pub next_from_place : (records rest : List Record) (from low horizon : ℕ) (o : Option Interval) → from ≤ horizon → IsAtPlace records rest from low
    → LeavesFirst rest low horizon o → AnswersGap records horizon from o
next_from_place records rest from low horizon None small at none = λ t since until. elim (cases_lt t low) [
  | inl before ↦ at.taken t since before
  | inr after ↦ at.agrees t after ∙ none t after until
]
next_from_place records rest from low horizon (Some i) small at first =
    record {
      safe = record {
        some = first.some;
        within = first.within;
        free = λ t in_it. at.agrees t (omega (arith, first.since, in_it.0)) ∙ first.free t in_it;
        begins = elim (cases_lt low i.from) [
          | inl later ↦ inr (omega arith, at.agrees (i.from - 1) (omega arith) ∙ first.taken (i.from - 1) (omega arith) (omega arith))
          | inr same ↦ let e : i.from ≡ low = omega (arith, first.since) in elim at.edge [
            | inl start ↦ inl (omega arith)
            | inr edge ↦ inr (omega (arith, edge.0), rw e edge.1)
          ]
        ];
        ends = elim first.ends [
          | inl last ↦ inl last
          | inr next ↦ inr (at.agrees (i.to + 1) (omega (arith, first.since, first.some)) ∙ next)
        ];
      };
      ends_later = elim (cases_lt i.to from) [
        | inl early ↦ absurd (ends_early early first.ends)
        | inr later ↦ later
      ];
      first = λ t since before. elim (cases_lt t low) [
        | inl early ↦ at.taken t since early
        | inr after ↦ at.agrees t after ∙ first.taken t after before
      ];
    }
  where
    -- the records of the rest begin after `from`
    ends_early : i.to < from → (i.to ≡ horizon) ⊎ (covers rest (i.to + 1) ≡ true) → ⊥
    ends_early early (inl last) = omega arith
    ends_early early (inr next) = let free : covers rest (i.to + 1) ≡ false = below_uncovered rest (from + 1) (i.to + 1) at.later (omega arith) in cc

-- a record that has begun and reaches the horizon leaves nothing
pub none_past_last : (records : List Record) (from horizon k : ℕ) (d : Record) → k < length records → (get_or records k d).from ≤ from → horizon ≤ (get_or records k d).to
    → NoneSafeFrom records horizon from
none_past_last records from horizon k d within begun past = λ t since until.
    list_any_at (holds_time t) records k d within (holds_from (get_or records k d) t (omega arith) (inl (omega arith)))

-- The same at an index of the records.
looks_at : (records : List Record) (low begin horizon k : ℕ) (d : Record) → k < length records → IsLooking records (drop k records) low begin horizon
    → IsLooking records (get_or records k d ∷ drop (k + 1) records) low begin horizon
looks_at records low begin horizon k d within looks =
    let at : drop k records ≡ get_or records k d ∷ drop (suc k) records = drop-cons records k d within in
    rw (add-one k) (rw at at looks)

pub gap_at : (records : List Record) (low begin horizon k end : ℕ) (d : Record) → k < length records → IsLooking records (drop k records) low begin horizon
    → begin < (get_or records k d).from → end ≡ min ((get_or records k d).from - 1) horizon → IsFirstGap records low horizon (record { from = begin; to = end })
gap_at records low begin horizon k end d within looks before is =
    rw is (gap_before records (drop (k + 1) records) (get_or records k d) low begin horizon (looks_at records low begin horizon k d within looks) before)

-- What the place that was found tells of the calendar.
pub found_place : (full rs : List Record) (from horizon place : ℕ) (d : Record) → rs ≡ full → InOrder full → place ≡ place_in from full → ¬ (place ≡ 0)
    → (get_or rs (place - 1) d).to < horizon → horizon ≤ 8000 → IsAtPlace full (drop place rs) from ((get_or rs (place - 1) d).to + 1)
found_place full rs from horizon place d same order is some before small =
    let e : place ≡ suc (place - 1) = omega arith in
    let before' : (get_or full (place - 1) d).to < horizon = rw same at before in
    let at : IsAtPlace full (drop (suc (place - 1)) full) from ((get_or full (place - 1) d).to + 1) =
    at_place full 0 from (place - 1) d order (omega arith) (λ never. omega arith) in
    rw same (subst (λ (n : ℕ). IsAtPlace full (drop n full) from ((get_or full (place - 1) d).to + 1)) (sym e) at)

pub found_past : (full rs : List Record) (from horizon place : ℕ) (d : Record) → rs ≡ full → place ≡ place_in from full → ¬ (place ≡ 0) → place ≤ length full
    → horizon ≤ (get_or rs (place - 1) d).to → NoneSafeFrom full horizon from
found_past full rs from horizon place d same is some within past =
    let past' : horizon ≤ (get_or full (place - 1) d).to = rw same at past in
    none_past_last full from horizon (place - 1) d (omega arith) (last_begins full from (place - 1) d (omega arith)) past'

pub found_start : (full rs : List Record) (from horizon place : ℕ) (o : Option Interval) → rs ≡ full → InOrder full → place ≡ place_in from full → place ≡ 0
    → from ≤ horizon → LeavesFirst rs 0 horizon o → AnswersGap full horizon from o
found_start full rs from horizon place o same order is none small first =
    next_from_place full full from 0 horizon o small (at_start full from order (omega arith)) (rw same at first)
