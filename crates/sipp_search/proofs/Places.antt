-- The safe interval that comes after so many records: each free time that does is in it, and none other.
use Rattle.std.proofs.Common.{arith, refl, inl, inr, get_or}
use Rattle.std.proofs.lemmas.Bool.{cases_lt, ltb-false}
use Rattle.std.proofs.lemmas.Option.{slice_get-get_or}
use Rattle.std.specs.Prelude.{◌≡◌, ℕ, suc, ◌+◌, ◌-◌, ◌<◌, ◌≤◌, nat_lt, Bool, true, false, List, [], ◌∷◌, length, if◌then◌else◌}
use Rattle.fleet_base.specs.declared.request.Record.{Record}
use Rattle.calendars.specs.Places.{place_in}
use Rattle.calendars.specs.Records.{covers, InOrder, InOrderFrom}
use Rattle.safe_intervals.specs.declared.interval.Interval.{Interval}
use Rattle.safe_intervals.specs.Safe.{IsIn, IsGapAt}
use Rattle.safe_intervals.proofs.Counting.{more_begun}
use Rattle.safe_intervals.proofs.PlaceGaps.{IsBehind, found_none, found_last}
use Rattle.safe_intervals.proofs.SafeLemmas.{safe_once}
use Rattle.sipp_search.specs.Gaps.{BeginsAfter}
use Rattle.sipp_search.proofs.Counted.{covered_later}

-- records take a time each at least, so no more of them than that have begun
pub few_begun : (rs : List Record) (low t : ℕ) → InOrderFrom low rs → place_in t rs ≤ (t + 1) - low
few_begun [] low t order = omega arith
few_begun (r ∷ rs) low t order = go (few_begun rs (r.to + 1) t order.3) (nat_lt t r.from) refl where
  go : place_in t rs ≤ (t + 1) - (r.to + 1) → (b : Bool) → nat_lt t r.from ≡ b → (if b then 0 else suc (place_in t rs)) ≤ (t + 1) - low
  go rest true later = omega arith
  go rest false begun = omega (arith, order.0, order.1, ltb-false t r.from begun)

module _ (records : List Record) (horizon place : ℕ) (i : Interval) (order : InOrder records) (gap : IsGapAt records horizon place i) where
  -- no more come before it than times do
  pub few_before : place ≤ i.from + 1
  few_before =
      let here : place_in i.from records ≡ place = gap.place_is i.from (omega arith, gap.safe.some) in
      omega (arith, few_begun records 0 i.from order)

  -- more come before each time after it
  pub more_later : (t : ℕ) → i.to < t → t ≤ horizon → place < place_in t records
  more_later t later within = elim gap.safe.ends [
    | inl last ↦ absurd (omega arith)
    | inr taken ↦
        let here : place_in i.to records ≡ place = gap.place_is i.to (gap.safe.some, omega arith) in
        let one : place_in i.to records < place_in (i.to + 1) records = covered_later records 0 i.to (i.to + 1) order (omega arith) (gap.safe.free i.to (gap.safe.some, omega arith)) taken in
        omega (arith, more_begun records (i.to + 1) t (omega arith))
  ]

  -- fewer come before each free time before it
  pub fewer_earlier : (t : ℕ) → t < i.from → covers records t ≡ false → place_in t records < place
  fewer_earlier t early free = elim gap.safe.begins [
    | inl start ↦ absurd (omega arith)
    | inr edge ↦
        let here : place_in i.from records ≡ place = gap.place_is i.from (omega arith, gap.safe.some) in
        let one : place_in t records < place_in (i.from - 1) records = covered_later records 0 t (i.from - 1) order (omega arith) free edge.1 in
        omega (arith, more_begun records (i.from - 1) i.from (omega arith))
  ]

  pub since_gap : (t : ℕ) → covers records t ≡ false → place_in t records ≡ place → i.from ≤ t
  since_gap t free is = elim (cases_lt t i.from) [ inl early ↦ absurd (omega (arith, fewer_earlier t early free)) | inr since ↦ since ]

  pub until_gap : (t : ℕ) → t ≤ horizon → place_in t records ≡ place → t ≤ i.to
  until_gap t within is = elim (cases_lt i.to t) [ inl later ↦ absurd (omega (arith, more_later t later within)) | inr until ↦ until ]

  pub in_gap : (t : ℕ) → t ≤ horizon → covers records t ≡ false → place_in t records ≡ place → IsIn t i
  in_gap t within free is = (since_gap t free is, until_gap t within is)

-- no two safe intervals come after as many records
pub same_gap : (records : List Record) (horizon place : ℕ) (i j : Interval) → InOrder records → IsGapAt records horizon place i → IsGapAt records horizon place j → i ≡ j
same_gap records horizon place i j order one two =
    let begin : IsIn i.from i = (omega arith, one.safe.some) in
    safe_once records horizon i j i.from one.safe two.safe begin
    (in_gap records horizon place j order two i.from (omega (arith, one.safe.some, one.safe.within)) (one.safe.free i.from begin) (one.place_is i.from begin))

behind_some : (records : List Record) (horizon place begin : ℕ) → InOrder records → horizon ≤ 8000 → 0 < place → place ≤ length records → BeginsAfter records place begin → begin ≤ horizon
    → IsBehind records place begin
behind_some [] horizon place begin order range some within after in_time = absurd (omega arith)
behind_some (r ∷ rs) horizon place begin order range some within after in_time =
    let last : begin ≡ (get_or (r ∷ rs) (place - 1) r).to + 1 = after.last (get_or (r ∷ rs) (place - 1) r) some (slice_get-get_or (r ∷ rs) (place - 1) r (omega arith)) in
    (found_last (r ∷ rs) (r ∷ rs) horizon place begin r refl order some within range (omega arith) last).0

-- where the gap after so many records begins, those are over
pub behind_begin : (records : List Record) (horizon place begin : ℕ) → InOrder records → horizon ≤ 8000 → place ≤ length records → BeginsAfter records place begin → begin ≤ horizon
    → IsBehind records place begin
behind_begin records horizon place begin order range within after in_time = elim (cases_lt 0 place) [
  | inl some ↦ behind_some records horizon place begin order range some within after in_time
  | inr none ↦ (found_none records horizon place begin order (omega arith) (after.none (omega arith))).0
]
