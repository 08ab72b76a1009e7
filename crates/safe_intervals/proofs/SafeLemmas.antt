-- What a search asks of safe intervals: the one of a free time is unique, and so is the whole list; two free times lie in
-- one of them exactly where nobody comes between.
use Rattle.std.proofs.Common.{arith, ap, ◌∙◌, sym, subst, inl, inr, refl, ◌⊎◌, get_or}
use Rattle.std.proofs.lemmas.Bool.{cases_lt}
use Rattle.std.specs.Prelude.{◌≡◌, ℕ, zero, suc, ◌+◌, ◌-◌, ◌<◌, ◌≤◌, true, false, List, [], ◌∷◌, All, AllPairs, length}
use Rattle.std.specs.List.{Any}
use Rattle.fleet_base.specs.declared.request.Record.{Record}
use Rattle.calendars.specs.Records.{covers}
use Rattle.safe_intervals.specs.declared.interval.Interval.{Interval}
use Rattle.safe_intervals.specs.Safe.{IsIn, IsSafeInterval, IsBefore, AreSafeIntervals, AreSafeFrom}

made : ℕ → ℕ → Interval
made from to = record { from = from; to = to }

same_interval : (i j : Interval) → i.from ≡ j.from → i.to ≡ j.to → i ≡ j
unfolding made
same_interval i j from to = ap (λ n. made n i.to) from ∙ ap (λ n. made j.from n) to

module _ (records : List Record) (horizon : ℕ) where
  begins_below : (i j : Interval) (t : ℕ) → IsSafeInterval records horizon i → IsSafeInterval records horizon j → IsIn t i → IsIn t j → i.from ≤ j.from
  begins_below i j t one two at at' = elim (cases_lt j.from i.from) [
    | inr below ↦ below
    | inl above ↦ elim one.begins [
      | inl start ↦ absurd (omega arith)
      | inr edge ↦ let free : covers records (i.from - 1) ≡ false = two.free (i.from - 1) (omega arith, omega (arith, at.0, at'.1)) in absurd (both free edge.1)
    ]
  ]
    where
      both : covers records (i.from - 1) ≡ false → covers records (i.from - 1) ≡ true → ⊥
      both a b = cc

  ends_above : (i j : Interval) (t : ℕ) → IsSafeInterval records horizon i → IsSafeInterval records horizon j → IsIn t i → IsIn t j → j.to ≤ i.to
  ends_above i j t one two at at' = elim (cases_lt i.to j.to) [
    | inr above ↦ above
    | inl below ↦ elim one.ends [
      | inl last ↦ absurd (omega (arith, two.within))
      | inr edge ↦ let free : covers records (i.to + 1) ≡ false = two.free (i.to + 1) (omega (arith, at.1, at'.0), omega arith) in absurd (both free edge)
    ]
  ]
    where
      both : covers records (i.to + 1) ≡ false → covers records (i.to + 1) ≡ true → ⊥
      both a b = cc

  -- the safe interval of a time is unique
  pub safe_once : (i j : Interval) (t : ℕ) → IsSafeInterval records horizon i → IsSafeInterval records horizon j → IsIn t i → IsIn t j → i ≡ j
  safe_once i j t one two at at' =
      let a = begins_below i j t one two at at' in
      let b = begins_below j i t two one at' at in
      let c = ends_above i j t one two at at' in
      let d = ends_above j i t two one at' at in
      same_interval i j (omega arith) (omega arith)

  -- where nobody is there from s to t, both lie in one safe interval
  pub in_one : (i : Interval) (s t : ℕ) → IsSafeInterval records horizon i → IsIn s i → s ≤ t → t ≤ horizon
      → ((x : ℕ) → s ≤ x → x ≤ t → covers records x ≡ false) → IsIn t i
  in_one i s t safe at le within free = (omega (arith, at.0), until)
    where
      until : t ≤ i.to
      until = elim (cases_lt i.to t) [
        | inr inside ↦ inside
        | inl over ↦ elim safe.ends [
          | inl last ↦ omega arith
          | inr taken ↦ let clear : covers records (i.to + 1) ≡ false = free (i.to + 1) (omega (arith, at.1)) (omega arith) in absurd (cc)
        ]
      ]

  -- and the other way round
  pub free_between : (i : Interval) (s t x : ℕ) → IsSafeInterval records horizon i → IsIn s i → IsIn t i → s ≤ x → x ≤ t → covers records x ≡ false
  free_between i s t x safe at at' low high = safe.free x (omega (arith, at.0), omega (arith, at'.1))

  -- The whole list is unique.
  -- the range of the list that holds a time, or the first one
  in_first_or_later : (x : Interval) (xs : List Interval) (t : ℕ) → AllPairs IsBefore (x ∷ xs) → Any (IsIn t) (x ∷ xs) → IsIn t x ⊎ ((x.to < t) × Any (IsIn t) xs)
  in_first_or_later x xs t rising (zero, y, within, is, at) = inl (subst (λ (i : Interval). IsIn t i) (sym is) at)
  in_first_or_later x xs t rising (suc k, y, within, is, at) =
      let before : x.to < (get_or xs k y).from = rising 0 (suc k) y (omega arith) within in
      let same : (get_or xs k y).from ≡ y.from = ap (λ (i : Interval). i.from) is in
      inr (omega (arith, at.0), (k, y, omega arith, is, at))

  first_safe : (x : Interval) (xs : List Interval) → All (IsSafeInterval records horizon) (x ∷ xs) → IsSafeInterval records horizon x
  first_safe x xs safe = safe 0 x (omega arith)

  -- two lists begin with one interval
  same_first : (low : ℕ) (x y : Interval) (xs ys : List Interval) → low ≤ x.from → low ≤ y.from → AreSafeFrom records horizon low (x ∷ xs) → AreSafeFrom records horizon low (y ∷ ys) → x ≡ y
  same_first low x y xs ys above above' one two =
      let a : IsSafeInterval records horizon x = first_safe x xs one.safe in
      let b : IsSafeInterval records horizon y = first_safe y ys two.safe in
      let e : x.from ≤ x.from = omega arith in
      let e' : y.from ≤ y.from = omega arith in
      elim (in_first_or_later x xs y.from one.rising (one.each_time y.from above' (omega (arith, b.some, b.within)) (b.free y.from (e', b.some)))) [
        | inl at ↦ safe_once x y y.from a b at (e', b.some)
        | inr later ↦ elim (in_first_or_later y ys x.from two.rising (two.each_time x.from above (omega (arith, a.some, a.within)) (a.free x.from (e, a.some)))) [
          | inl at ↦ safe_once x y x.from a b (e, a.some) at
          | inr later' ↦ absurd (omega (arith, a.some, b.some, later.0, later'.0))
        ]
      ]

  rest_safe : (low : ℕ) (x : Interval) (xs : List Interval) → low ≤ x.from → AreSafeFrom records horizon low (x ∷ xs) → AreSafeFrom records horizon (x.to + 1) xs
  rest_safe low x xs above are =
      let a : IsSafeInterval records horizon x = first_safe x xs are.safe in
      record {
        safe = λ k d h. are.safe (suc k) d (omega arith);
        each_time = λ t after within free. elim (in_first_or_later x xs t are.rising (are.each_time t (omega (arith, a.some)) within free)) [
          | inl at ↦ absurd (omega (arith, at.1))
          | inr later ↦ later.1
        ];
        rising = λ i j d h k. are.rising (suc i) (suc j) d (omega arith) (omega arith);
      }

  head_above : (low : ℕ) (x : Interval) (xs : List Interval) → All (λ i. low ≤ i.from) (x ∷ xs) → low ≤ x.from
  head_above low x xs all = all 0 x (omega arith)

  rest_above : (x : Interval) (xs : List Interval) → AllPairs IsBefore (x ∷ xs) → All (λ i. x.to + 1 ≤ i.from) xs
  rest_above x xs rising = λ k d h. let before : x.to < (get_or xs k d).from = rising 0 (suc k) d (omega arith) (omega arith) in omega arith

  nothing_holds : (y : Interval) (ys : List Interval) (low : ℕ) → All (λ i. low ≤ i.from) (y ∷ ys) → AreSafeFrom records horizon low [] → AreSafeFrom records horizon low (y ∷ ys) → ⊥
  nothing_holds y ys low above none are =
      let b : IsSafeInterval records horizon y = first_safe y ys are.safe in
      let e : y.from ≤ y.from = omega arith in
      let held = none.each_time y.from (head_above low y ys above) (omega (arith, b.some, b.within)) (b.free y.from (e, b.some)) in
      omega (arith, held.2)

  from_once : (xs ys : List Interval) (low : ℕ) → All (λ i. low ≤ i.from) xs → All (λ i. low ≤ i.from) ys → AreSafeFrom records horizon low xs → AreSafeFrom records horizon low ys → xs ≡ ys
  from_once [] [] low above above' one two = refl
  from_once [] (y ∷ ys) low above above' one two = absurd (nothing_holds y ys low above' one two)
  from_once (x ∷ xs) [] low above above' one two = absurd (nothing_holds x xs low above two one)
  from_once (x ∷ xs) (y ∷ ys) low above above' one two =
      let first : x ≡ y = same_first low x y xs ys (head_above low x xs above) (head_above low y ys above') one two in
      let ends : y.to + 1 ≡ x.to + 1 = ap (λ (i : Interval). i.to + 1) (sym first) in
      let rest : xs ≡ ys = from_once xs ys (x.to + 1) (rest_above x xs one.rising)
      (subst (λ (n : ℕ). All (λ i. n ≤ i.from) ys) ends (rest_above y ys two.rising))
      (rest_safe low x xs (head_above low x xs above) one)
      (subst (λ (n : ℕ). AreSafeFrom records horizon n ys) ends (rest_safe low y ys (head_above low y ys above') two)) in
      rw (first, rest) refl

  -- all of them begin after an interval that is over before the first
  all_after : (x : Interval) (xs : List Interval) (end : ℕ) → All (IsSafeInterval records horizon) (x ∷ xs) → AllPairs IsBefore (x ∷ xs) → end < x.from → All (λ i. end + 1 ≤ i.from) (x ∷ xs)
  all_after x xs end safe rising before zero d h = omega arith
  all_after x xs end safe rising before (suc k) d h =
      let later : x.to < (get_or xs k d).from = rising 0 (suc k) d (omega arith) h in
      omega (arith, (first_safe x xs safe).some)

  -- safe intervals in rising order are no more than all that end late enough
  no_more_than : (xs ys : List Interval) (low : ℕ) → All (IsSafeInterval records horizon) xs → AllPairs IsBefore xs → All (λ i. low ≤ i.from) xs
      → AreSafeFrom records horizon low ys → All (λ i. low ≤ i.from) ys → length xs ≤ length ys
  no_more_than [] ys low safe rising above are above' = omega arith
  no_more_than (x ∷ xs) [] low safe rising above are above' =
      let a : IsSafeInterval records horizon x = first_safe x xs safe in
      let e : x.from ≤ x.from = omega arith in
      let held = are.each_time x.from (head_above low x xs above) (omega (arith, a.some, a.within)) (a.free x.from (e, a.some)) in
      absurd (omega (arith, held.2))
  no_more_than (x ∷ xs) (y ∷ ys) low safe rising above are above' =
      let a : IsSafeInterval records horizon x = first_safe x xs safe in
      let b : IsSafeInterval records horizon y = first_safe y ys are.safe in
      let e : x.from ≤ x.from = omega arith in
      let rest = rest_safe low y ys (head_above low y ys above') are in
      elim (in_first_or_later y ys x.from are.rising (are.each_time x.from (head_above low x xs above) (omega (arith, a.some, a.within)) (a.free x.from (e, a.some)))) [
        | inl at ↦
            let same : x ≡ y = safe_once x y x.from a b (e, a.some) at in
            let ends : x.to + 1 ≡ y.to + 1 = ap (λ (i : Interval). i.to + 1) same in
            let fewer : length xs ≤ length ys = no_more_than xs ys (y.to + 1) (λ k d h. safe (suc k) d (omega arith)) (λ i j d h k. rising (suc i) (suc j) d (omega arith) (omega arith))
            (subst (λ (n : ℕ). All (λ i. n ≤ i.from) xs) ends (rest_above x xs rising)) rest (rest_above y ys are.rising) in
            omega arith
        | inr later ↦
            let fewer : length (x ∷ xs) ≤ length ys = no_more_than (x ∷ xs) ys (y.to + 1) safe rising (all_after x xs y.to safe rising later.0) rest (rest_above y ys are.rising) in
            omega arith
      ]

  all_from : {list : List Interval} → AreSafeIntervals records horizon list → AreSafeFrom records horizon 0 list
  all_from are = record { safe = are.safe; each_time = λ t low within free. are.each_time t within free; rising = are.rising }

  -- those from a time on are no more than all
  pub no_longer : (xs ys : List Interval) (low : ℕ) → AreSafeFrom records horizon low xs → AreSafeIntervals records horizon ys → length xs ≤ length ys
  no_longer xs ys low some all = no_more_than xs ys 0 some.safe some.rising (λ k d h. omega arith) (all_from all) (λ k d h. omega arith)

  pub safe_list_once : (xs ys : List Interval) → AreSafeIntervals records horizon xs → AreSafeIntervals records horizon ys → xs ≡ ys
  safe_list_once xs ys one two = from_once xs ys 0 (λ k d h. omega arith) (λ k d h. omega arith) (all_from one) (all_from two)
