-- How many records have begun by a time.
use Rattle.std.proofs.Common.{arith, sym, ap, ◌∙◌, refl, inl, inr, get_or, length}
use Rattle.std.proofs.lemmas.Bool.{cases_lt, ltb-true, ltb-false, false≢true}
use Rattle.std.specs.Prelude.{◌≡◌, ℕ, zero, suc, ◌+◌, ◌<◌, ◌≤◌, nat_lt, Bool, true, false, List, [], ◌∷◌, if◌then◌else◌}
use Rattle.fleet_base.specs.declared.request.Record.{Record}
use Rattle.calendars.specs.Places.{place_in}
use Rattle.calendars.specs.Records.{covers, holds_time, InOrderFrom, InOrder}
use Rattle.calendars.proofs.RecordLemmas.{holds_from, uncovered_parts}
use Rattle.calendars.proofs.PlaceLemmas.{since_low}

-- each one before the place has begun
pub begun_before : (rs : List Record) (t k : ℕ) (d : Record) → k < place_in t rs → (get_or rs k d).from ≤ t
begun_before [] t k d less = absurd (omega arith)
begun_before (r ∷ rs) t k d less = go (λ j below. begun_before rs t j d below) k (nat_lt t r.from) refl less where
  go : ((j : ℕ) → j < place_in t rs → (get_or rs j d).from ≤ t) → (j : ℕ) (b : Bool) → nat_lt t r.from ≡ b → j < (if b then 0 else suc (place_in t rs)) → (get_or (r ∷ rs) j d).from ≤ t
  go rest j true later below = absurd (omega arith)
  go rest zero false begun below = ltb-false t r.from begun
  go rest (suc j) false begun below = rest j (omega arith)

-- and the one at the place has not
pub later_at : (rs : List Record) (t k : ℕ) (d : Record) → k ≡ place_in t rs → k < length rs → t < (get_or rs k d).from
later_at [] t k d is within = absurd (omega arith)
later_at (r ∷ rs) t k d is within = go (λ j at below. later_at rs t j d at below) k (nat_lt t r.from) refl is within where
  go : ((j : ℕ) → j ≡ place_in t rs → j < length rs → t < (get_or rs j d).from) → (j : ℕ) (b : Bool) → nat_lt t r.from ≡ b → j ≡ (if b then 0 else suc (place_in t rs)) → j < suc (length rs) → t < (get_or (r ∷ rs) j d).from
  go rest zero true later at below = ltb-true t r.from later
  go rest (suc j) true later at below = absurd (omega arith)
  go rest zero false begun at below = absurd (omega arith)
  go rest (suc j) false begun at below = rest j (omega arith) (omega arith)

-- no fewer have begun by a later time
pub more_begun : (rs : List Record) (s t : ℕ) → s ≤ t → place_in s rs ≤ place_in t rs
more_begun [] s t less = omega arith
more_begun (r ∷ rs) s t less = go (more_begun rs s t less) (nat_lt s r.from) (nat_lt t r.from) refl refl where
  go : place_in s rs ≤ place_in t rs → (b c : Bool) → nat_lt s r.from ≡ b → nat_lt t r.from ≡ c → (if b then 0 else suc (place_in s rs)) ≤ (if c then 0 else suc (place_in t rs))
  go rest true c later other = omega arith
  go rest false true begun later = let l : t < r.from = ltb-true t r.from later in let m : r.from ≤ s = ltb-false s r.from begun in absurd (omega arith)
  go rest false false begun other = omega arith

-- one more has begun
pub one_more_begun : (rs : List Record) (t k : ℕ) (d : Record) → k ≤ place_in t rs → k < length rs → (get_or rs k d).from ≤ t → k + 1 ≤ place_in t rs
one_more_begun rs t k d low within begun = elim (cases_lt k (place_in t rs)) [
  | inl less ↦ omega arith
  | inr past ↦ let later : t < (get_or rs k d).from = later_at rs t k d (omega arith) within in absurd (omega arith)
]

-- where one has begun, so have all before it
pub begun_at : (rs : List Record) (low t k : ℕ) (d : Record) → InOrderFrom low rs → k < length rs → (get_or rs k d).from ≤ t → k < place_in t rs
begun_at [] low t k d order within begun = absurd (omega arith)
begun_at (r ∷ rs) low t k d order within begun = go (λ j below at. begun_at rs (r.to + 1) t j d order.3 below at) (λ j below. since_low rs (r.to + 1) j d order.3 below) k (nat_lt t r.from) refl within begun where
  proper : r.from ≤ r.to
  proper = order.1

  go : ((j : ℕ) → j < length rs → (get_or rs j d).from ≤ t → j < place_in t rs) → ((j : ℕ) → j < length rs → r.to + 1 ≤ (get_or rs j d).from)
      → (j : ℕ) (b : Bool) → nat_lt t r.from ≡ b → j < suc (length rs) → (get_or (r ∷ rs) j d).from ≤ t → j < (if b then 0 else suc (place_in t rs))
  go rest low' zero true later below at = let l : t < r.from = ltb-true t r.from later in absurd (omega arith)
  go rest low' (suc j) true later below at = let l : t < r.from = ltb-true t r.from later in let m : r.to + 1 ≤ (get_or rs j d).from = low' j (omega arith) in absurd (omega arith)
  go rest low' zero false later below at = omega arith
  go rest low' (suc j) false later below at = let less : j < place_in t rs = rest j (omega arith) at in omega arith

-- where the next one has not begun, all that have are counted
pub all_begun : (rs : List Record) (t k : ℕ) (d : Record) → k ≤ place_in t rs → t < (get_or rs k d).from → k ≡ place_in t rs
all_begun rs t k d low later = elim (cases_lt k (place_in t rs)) [
  | inl less ↦ let begun : (get_or rs k d).from ≤ t = begun_before rs t k d less in absurd (omega arith)
  | inr past ↦ omega arith
]

same_from : (rs : List Record) (low t : ℕ) → InOrderFrom low rs → covers rs (t + 1) ≡ false → place_in t rs ≡ place_in (t + 1) rs
same_from [] low t order free = refl
same_from (r ∷ rs) low t order free = go (same_from rs (r.to + 1) t order.3 parts.1) (nat_lt t r.from) (nat_lt (t + 1) r.from) refl refl
  where
    parts : (holds_time (t + 1) r ≡ false) × (covers rs (t + 1) ≡ false)
    parts = uncovered_parts r rs (t + 1) free

    go : place_in t rs ≡ place_in (t + 1) rs → (b c : Bool) → nat_lt t r.from ≡ b → nat_lt (t + 1) r.from ≡ c → (if b then 0 else suc (place_in t rs)) ≡ (if c then 0 else suc (place_in (t + 1) rs))
    go rest true true later later' = refl
    go rest true false later begun =
        let l : t < r.from = ltb-true t r.from later in
        let m : r.from ≤ t + 1 = ltb-false (t + 1) r.from begun in
        let proper : r.from ≤ r.to = order.1 in
        absurd (false≢true (sym parts.0 ∙ holds_from r (t + 1) m (inl (omega arith))))
    go rest false true begun later = let l : t + 1 < r.from = ltb-true (t + 1) r.from later in let m : r.from ≤ t = ltb-false t r.from begun in absurd (omega arith)
    go rest false false begun begun' = ap suc rest

-- no record begins at the next time where that is free
pub place_same : (records : List Record) (t : ℕ) → InOrder records → covers records (t + 1) ≡ false → place_in t records ≡ place_in (t + 1) records
place_same records t order free = same_from records 0 t order free
