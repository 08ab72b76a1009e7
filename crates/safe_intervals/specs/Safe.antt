-- Safe intervals: the maximal ranges of times from 0 to the horizon that no record covers.
use Rattle.std.specs.Prelude.{◌≡◌, ◌≢◌, ℕ, ◌+◌, ◌-◌, ◌<◌, ◌≤◌, ◌⊎◌, true, false, List, Option, Some, None, All, AllPairs, slice_get}
use Rattle.std.specs.List.{Any}
use Rattle.fleet_base.specs.declared.request.Record.{Record}
use Rattle.safe_intervals.specs.declared.interval.Interval.{Interval}
use Rattle.calendars.specs.Places.{place_in}
use Rattle.calendars.specs.Records.{covers}

-- the time is one of the range's
abbrev pub IsIn : ℕ → Interval → Type 0
IsIn t i = (i.from ≤ t) × (t ≤ i.to)

-- no record covers a time of the range, and it can't be longer at either end
pub record IsSafeInterval (records : List Record) (horizon : ℕ) (i : Interval) : Type 0 where
  pub some : i.from ≤ i.to
  pub within : i.to ≤ horizon
  pub free : (t : ℕ) → IsIn t i → covers records t ≡ false
  pub begins : (i.from ≡ 0) ⊎ ((0 < i.from) × (covers records (i.from - 1) ≡ true))
  pub ends : (i.to ≡ horizon) ⊎ (covers records (i.to + 1) ≡ true)

-- the first range is over before the second begins
abbrev pub IsBefore : Interval → Interval → Type 0
IsBefore i j = i.to < j.from

-- ranges in rising order that don't overlap, none of them empty
pub record AreRising (list : List Interval) : Type 0 where
  pub some : All (λ i. i.from ≤ i.to) list
  pub rising : AllPairs IsBefore list

-- safe intervals alone, each free time up to the horizon in one of them, in rising order
pub record AreSafeIntervals (records : List Record) (horizon : ℕ) (list : List Interval) : Type 0 where
  pub safe : All (IsSafeInterval records horizon) list
  pub each_time : (t : ℕ) → t ≤ horizon → covers records t ≡ false → Any (IsIn t) list
  pub rising : AllPairs IsBefore list

-- the same for the times from `low` on: none that ends earlier has to be among them
pub record AreSafeFrom (records : List Record) (horizon low : ℕ) (list : List Interval) : Type 0 where
  pub safe : All (IsSafeInterval records horizon) list
  pub each_time : (t : ℕ) → low ≤ t → t ≤ horizon → covers records t ≡ false → Any (IsIn t) list
  pub rising : AllPairs IsBefore list

-- the first safe interval that ends at the time or later
pub record IsNextGap (records : List Record) (horizon from : ℕ) (i : Interval) : Type 0 where
  pub safe : IsSafeInterval records horizon i
  pub ends_later : from ≤ i.to
  pub first : (t : ℕ) → from ≤ t → t < i.from → covers records t ≡ true

-- no safe interval ends at the time or later
abbrev pub NoneSafeFrom : List Record → ℕ → ℕ → Type 0
NoneSafeFrom records horizon from = (t : ℕ) → from ≤ t → t ≤ horizon → covers records t ≡ true

-- what a search for the next one answers
abbrev pub AnswersGap : List Record → ℕ → ℕ → Option Interval → Type 0
AnswersGap records horizon from (Some i) = IsNextGap records horizon from i
AnswersGap records horizon from None = NoneSafeFrom records horizon from

-- the first range from `low` on that the records leave
pub record IsFirstGap (records : List Record) (low horizon : ℕ) (i : Interval) : Type 0 where
  pub since : low ≤ i.from
  pub some : i.from ≤ i.to
  pub within : i.to ≤ horizon
  pub taken : (t : ℕ) → low ≤ t → t < i.from → covers records t ≡ true
  pub free : (t : ℕ) → IsIn t i → covers records t ≡ false
  pub ends : (i.to ≡ horizon) ⊎ (covers records (i.to + 1) ≡ true)

abbrev pub LeavesFirst : List Record → ℕ → ℕ → Option Interval → Type 0
LeavesFirst records low horizon (Some i) = IsFirstGap records low horizon i
LeavesFirst records low horizon None = NoneSafeFrom records horizon low

-- the place of the range that holds a time, or that there is none
abbrev pub FindsTime : List Interval → ℕ → Option ℕ → Type 0
FindsTime list t (Some k) = (i : Interval) × (slice_get list k ≡ Some i) × IsIn t i
FindsTime list t None = All (λ i. ¬ (IsIn t i)) list

-- the safe interval that comes after so many records, and before all others
pub record IsGapAt (records : List Record) (horizon place : ℕ) (i : Interval) : Type 0 where
  pub safe : IsSafeInterval records horizon i
  pub place_is : (t : ℕ) → IsIn t i → place_in t records ≡ place

-- no free time up to the horizon comes after exactly so many records
abbrev pub NoneSafeAt : List Record → ℕ → ℕ → Type 0
NoneSafeAt records horizon place = (t : ℕ) → t ≤ horizon → covers records t ≡ false → place_in t records ≢ place

abbrev pub AnswersAt : List Record → ℕ → ℕ → Option Interval → Type 0
AnswersAt records horizon place (Some i) = IsGapAt records horizon place i
AnswersAt records horizon place None = NoneSafeAt records horizon place
