-- Where an agent that stays may end: in the interval up to the horizon, where no record begins after it.
use Rattle.std.proofs.Common.{arith, sym, ap, ◌∙◌, refl, inl, inr}
use Rattle.std.proofs.lemmas.Bool.{cases_lt, false≢true, or_cases, and_parts, leb-true, ltb-true, ltb-false, eqb-true, cases_Bool}
use Rattle.std.specs.Prelude.{Bool, ◌||◌, ◌==◌, nat_le, nat_lt, ◌≡◌, ◌≢◌, ℕ, suc, ◌+◌, ◌<◌, ◌≤◌, true, false, List, [], ◌∷◌, Option, Some, None, IsSome, length, if◌then◌else◌}
use Rattle.fleet_base.specs.declared.request.Request.{Request}
use Rattle.fleet_base.specs.Reach.{MayEnd}
use Rattle.calendars.specs.Assignments.{Assignment, traffic_by}
use Rattle.fleet_base.specs.declared.request.Record.{Record}
use Rattle.fleet_base.specs.declared.request.TheConstants.{FOREVER}
use Rattle.calendars.specs.Records.{covers, holds_time, InOrder, InOrderFrom}
use Rattle.calendars.specs.Places.{place_in}
use Rattle.calendars.proofs.RecordLemmas.{holds_from}
use Rattle.safe_intervals.specs.declared.interval.Interval.{Interval}
use Rattle.safe_intervals.specs.Safe.{IsIn, IsSafeInterval}

or_left : (x y : Bool) → x ≡ true → (x || y) ≡ true
or_left true y h = refl
or_left false y h = absurd (false≢true h)

or_right : (x y : Bool) → y ≡ true → (x || y) ≡ true
or_right true y h = refl
or_right false y h = h

-- a record that has begun by the horizon and holds a later time holds the horizon
holds_back : (r : Record) (horizon t : ℕ) → r.from ≤ horizon → horizon ≤ t → holds_time t r ≡ true → holds_time horizon r ≡ true
holds_back r horizon t begun le held =
    let until = (and_parts (nat_le r.from t) (nat_le t r.to || (r.to == FOREVER)) held).1 in
    elim (or_cases (nat_le t r.to) (r.to == FOREVER) until) [
      | inl to ↦ holds_from r horizon begun (inl (let l = leb-true t r.to to in omega arith))
      | inr never ↦ holds_from r horizon begun (inr (eqb-true r.to FOREVER never))
    ]

covers_back : (rs : List Record) (horizon t : ℕ) → place_in horizon rs ≡ length rs → horizon ≤ t → covers rs t ≡ true → covers rs horizon ≡ true
covers_back [] horizon t place le covered = absurd (false≢true covered)
covers_back (r ∷ rs) horizon t place le covered = go (λ p h. covers_back rs horizon t p le h) (nat_lt horizon r.from) refl place
  where
    go : (place_in horizon rs ≡ length rs → covers rs t ≡ true → covers rs horizon ≡ true) → (b : Bool) → nat_lt horizon r.from ≡ b
        → (if b then 0 else suc (place_in horizon rs)) ≡ suc (length rs) → covers (r ∷ rs) horizon ≡ true
    go rest true test e = absurd (omega arith)
    go rest false test e =
        let begun : r.from ≤ horizon = ltb-false horizon r.from test in
        elim (or_cases (holds_time t r) (covers rs t) covered) [
          | inl here ↦ or_left (holds_time horizon r) (covers rs horizon) (holds_back r horizon t begun le here)
          | inr later ↦ or_right (holds_time horizon r) (covers rs horizon) (rest (omega arith) later)
        ]

-- where not all records have begun by the horizon, a later time is covered
covered_later : (rs : List Record) (low horizon : ℕ) → InOrderFrom low rs → place_in horizon rs ≢ length rs → (t : ℕ) × (horizon < t) × (covers rs t ≡ true)
covered_later [] low horizon order place = absurd (place refl)
covered_later (r ∷ rs) low horizon order place = go (λ p. covered_later rs (r.to + 1) horizon order.3 p) (nat_lt horizon r.from) refl place
  where
    go : (place_in horizon rs ≢ length rs → (t : ℕ) × (horizon < t) × (covers rs t ≡ true)) → (b : Bool) → nat_lt horizon r.from ≡ b
        → (if b then 0 else suc (place_in horizon rs)) ≢ suc (length rs) → (t : ℕ) × (horizon < t) × (covers (r ∷ rs) t ≡ true)
    go rest true test e =
        let proper : r.from ≤ r.to = order.1 in
        (r.from, ltb-true horizon r.from test, or_left (holds_time r.from r) (covers rs r.from) (holds_from r r.from (omega arith) (inl proper)))
    go rest false test e =
        let more = rest (λ same. e (ap suc same)) in
        (more.0, more.1, or_right (holds_time more.0 r) (covers rs more.0) more.2)

-- The interval is followed by no record.
pub free_for_ever : (records : List Record) (horizon : ℕ) (i : Interval) → IsSafeInterval records horizon i → i.to ≡ horizon → place_in horizon records ≡ length records
    → (s t : ℕ) → IsIn s i → s ≤ t → covers records t ≡ false
free_for_ever records horizon i safe ends place s t at le = elim (cases_lt horizon t) [
  | inr within ↦ safe.free t (omega (arith, at.0), omega arith)
  | inl later ↦ elim (cases_Bool (covers records t)) [
    | inr free ↦ free
    | inl covered ↦
        let here : covers records horizon ≡ true = covers_back records horizon t place (omega arith) covered in
        let free : covers records horizon ≡ false = safe.free horizon (omega (arith, safe.some), omega arith) in
        absurd (false≢true (sym free ∙ here))
  ]
]

-- It is followed by one.
pub taken_after : (records : List Record) (horizon : ℕ) (i : Interval) → IsSafeInterval records horizon i → i.to ≢ horizon → covers records (i.to + 1) ≡ true
taken_after records horizon i safe ends = elim safe.ends [
  | inl last ↦ absurd (ends last)
  | inr covered ↦ covered
]

pub taken_later : (records : List Record) (horizon : ℕ) → InOrder records → place_in horizon records ≢ length records → (t : ℕ) × (horizon < t) × (covers records t ≡ true)
taken_later records horizon order place = covered_later records 0 horizon order place

-- For an assignment with that calendar of the goal.
module _ (q : Request) (a : Assignment) (records : List Record) (is : a q.goal.0 ≡ records) where
  pub ends_free : (t : ℕ) → ((s : ℕ) → t ≤ s → covers records s ≡ false) → MayEnd (traffic_by a) q t
  ends_free t free staying s le = rw is (free s le)

  pub never_ends : (s t : ℕ) → q.stay ≡ true → t ≤ s → covers records s ≡ true → ¬ (MayEnd (traffic_by a) q t)
  never_ends s t staying le covered ends = let free : covers records s ≡ false = rw is at (ends staying s le) in false≢true (sym free ∙ covered)

pub some_value : {X : Type 0} (o : Option X) → IsSome o → (x : X) × (o ≡ Some x)
some_value (Some x) is = (x, refl)
some_value None is = absurd (false≢true is)
