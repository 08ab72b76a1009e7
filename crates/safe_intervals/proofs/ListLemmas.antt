-- Lists of ranges: the safe intervals found so far, and the range of a time.
use Rattle.std.proofs.Common.{arith, ap, ◌∙◌, inl, inr, refl, get_or, length}
use Rattle.std.proofs.lemmas.Bool.{cases_lt, cases_eq, leb-true, leb-false, le-leb}
use Rattle.std.proofs.lemmas.List.{get_or_append_left, length_push}
use Rattle.std.proofs.lemmas.List.Elements.{All-nil, All-push, All-weaker}
use Rattle.std.proofs.lemmas.List.Quantifiers.{Any-push, all_pairs_push}
use Rattle.std.proofs.lemmas.Option.{slice_get-get_or}
use Rattle.std.specs.Prelude.{◌≡◌, ℕ, zero, suc, ◌+◌, ◌-◌, ◌<◌, ◌≤◌, ◌⊎◌, ◌++◌, nat_le, true, false, List, [], ◌∷◌, Some, None, All, AllPairs}
use Rattle.std.specs.List.{Any}
use Rattle.std.specs.List.Sorted.{IsPartitionedBy, IsPartitionPoint}
use Rattle.fleet_base.specs.declared.request.Record.{Record}
use Rattle.calendars.specs.Records.{covers}
use Rattle.safe_intervals.specs.declared.interval.Interval.{Interval}
use Rattle.safe_intervals.specs.Safe.{IsIn, IsSafeInterval, IsBefore, AreRising, AreSafeIntervals, IsNextGap, NoneSafeFrom, FindsTime}

-- What the loop over the gaps has found: the safe intervals that end before `from`.
pub record AreSafeUntil (records : List Record) (horizon : ℕ) (list : List Interval) (from : ℕ) : Type 0 where
  pub safe : All (IsSafeInterval records horizon) list
  pub each_time : (t : ℕ) → t < from → t ≤ horizon → covers records t ≡ false → Any (IsIn t) list
  pub rising : AllPairs IsBefore list
  pub past : All (λ i. i.to < from) list
  pub edge : (from ≡ 0) ⊎ ((horizon < from) ⊎ (covers records from ≡ true))

pub none_yet : (records : List Record) (horizon : ℕ) → AreSafeUntil records horizon [] 0
none_yet records horizon = record {
  safe = All-nil (IsSafeInterval records horizon);
  each_time = λ t before. absurd (omega arith);
  rising = λ i j d h k. absurd (omega arith);
  past = All-nil (λ i. i.to < 0);
  edge = inl refl;
}

any_old : {X : Type 0} (P : X → Type 0) (xs : List X) (y : X) → Any P xs → Any P (xs ++ y ∷ [])
any_old P xs y (k, x, h, is, p) = (k, x, omega (arith, length_push xs y), get_or_append_left xs (y ∷ []) x k h ∙ is, p)

module _ (records : List Record) (horizon : ℕ) (list : List Interval) (from : ℕ) (found : AreSafeUntil records horizon list from) where
  -- the next one begins after all that were found
  after_all : (i : Interval) → IsNextGap records horizon from i → (k : ℕ) (d : Interval) → k < length list → (get_or list k d).to < i.from
  after_all i next k d within = go found.edge (found.past k d within)
    where
      go : (from ≡ 0) ⊎ ((horizon < from) ⊎ (covers records from ≡ true)) → (get_or list k d).to < from → (get_or list k d).to < i.from
      go (inl start) before = absurd (omega arith)
      go (inr (inl past)) before = absurd (omega (arith, next.ends_later, next.safe.within))
      go (inr (inr taken)) before = elim (cases_lt from i.from) [
        | inl later ↦ omega arith
        | inr earlier ↦ let free : covers records from ≡ false = next.safe.free from (earlier, next.ends_later) in absurd (cc)
      ]

  pub one_more : (i : Interval) → IsNextGap records horizon from i → AreSafeUntil records horizon (list ++ i ∷ []) (i.to + 1)
  one_more i next = record {
    safe = All-push (IsSafeInterval records horizon) list i found.safe next.safe;
    each_time = λ t before within free. elim (cases_lt t from) [
      | inl old ↦ any_old (IsIn t) list i (found.each_time t old within free)
      | inr new ↦ elim (cases_lt t i.from) [
        | inl early ↦ let taken : covers records t ≡ true = next.first t new early in absurd (cc)
        | inr since ↦ Any-push (IsIn t) list i (since, omega arith)
      ]
    ];
    rising = all_pairs_push IsBefore list i found.rising (after_all i next);
    past = All-push (λ j. j.to < i.to + 1) list i
        (All-weaker (λ j. j.to < from) (λ j. j.to < i.to + 1) (λ j h. omega (arith, next.ends_later)) list found.past) (omega arith);
    edge = elim next.safe.ends [ inl last ↦ inr (inl (omega arith)) | inr taken ↦ inr (inr taken) ];
  }

  pub all_found : NoneSafeFrom records horizon from → AreSafeIntervals records horizon list
  all_found none = record {
    safe = found.safe;
    each_time = λ t within free. elim (cases_lt t from) [
      | inl old ↦ found.each_time t old within free
      | inr new ↦ let taken : covers records t ≡ true = none t new within in absurd (cc)
    ];
    rising = found.rising;
  }

-- Where ranges rise, the one that holds a time is the last that has begun.
module _ (list : List Interval) (time : ℕ) (are : AreRising list) where
  begins_rising : (i j : ℕ) (d : Interval) → i ≤ j → j < length list → (get_or list i d).from ≤ (get_or list j d).from
  begins_rising i j d le within = elim (cases_eq i j) [
    | inl same ↦ let e : (get_or list i d).from ≡ (get_or list j d).from = ap (λ n. (get_or list n d).from) same in omega arith
    | inr other ↦
        let before : (get_or list i d).to < (get_or list j d).from = are.rising i j d (omega arith) within in
        let some : (get_or list i d).from ≤ (get_or list i d).to = are.some i d (omega arith) in
        omega arith
  ]

  pub begun_first : IsPartitionedBy (λ i. nat_le i.from time) list
  begun_first i j d le within begun =
      let rises : (get_or list i d).from ≤ (get_or list j d).from = begins_rising i j d le within in
      let at : (get_or list j d).from ≤ time = leb-true (get_or list j d).from time begun in
      le-leb (get_or list i d).from time (omega arith)

  abbrev pub IsPoint : ℕ → Type 0
  IsPoint k = IsPartitionPoint (λ i. nat_le i.from time ≡ true) (λ i. nat_le i.from time ≡ false) list k

  not_begun : (begun : ℕ) → IsPoint begun → (k : ℕ) (d : Interval) → begun ≤ k → k < length list → time < (get_or list k d).from
  not_begun begun point k d past within = leb-false (get_or list k d).from time (point.1 k d past within)

  pub none_begun : (begun : ℕ) → IsPoint begun → begun ≡ 0 → FindsTime list time None
  none_begun begun point none = λ k d within held.
      let late : time < (get_or list k d).from = not_begun begun point k d (omega arith) within in
      omega (arith, held.0)

  pub found_in_last : (begun : ℕ) (d : Interval) → IsPoint begun → begun ≤ length list → 1 ≤ begun → time ≤ (get_or list (begun - 1) d).to → FindsTime list time (Some (begun - 1))
  found_in_last begun d point within some until =
      (get_or list (begun - 1) d, slice_get-get_or list (begun - 1) d (omega arith), (leb-true (get_or list (begun - 1) d).from time (point.0 (begun - 1) d (omega arith) (omega arith)), until))

  pub none_holds : (begun : ℕ) (d : Interval) → IsPoint begun → begun ≤ length list → 1 ≤ begun → (get_or list (begun - 1) d).to < time → FindsTime list time None
  none_holds begun d point within some over = λ k e inside held. elim (cases_lt k begun) [
    | inr past ↦ let late : time < (get_or list k e).from = not_begun begun point k e past inside in omega (arith, held.0)
    | inl begins ↦ elim (cases_eq k (begun - 1)) [
      | inl last ↦
          let same : (get_or list k e).to ≡ (get_or list (begun - 1) d).to = ap (λ n. (get_or list n e).to) last ∙ ap (λ (i : Interval). i.to) (get_or-any list (begun - 1) e d (omega arith)) in
          omega (arith, held.1)
      | inr other ↦
          let before : (get_or list k e).to < (get_or list (begun - 1) e).from = are.rising k (begun - 1) e (omega arith) (omega arith) in
          let proper : (get_or list (begun - 1) e).from ≤ (get_or list (begun - 1) e).to = are.some (begun - 1) e (omega arith) in
          let same : (get_or list (begun - 1) e).to ≡ (get_or list (begun - 1) d).to = ap (λ (i : Interval). i.to) (get_or-any list (begun - 1) e d (omega arith)) in
          omega (arith, held.1)
    ]
  ]
    where
      get_or-any : (xs : List Interval) (k : ℕ) (d e : Interval) → k < length xs → get_or xs k d ≡ get_or xs k e
      get_or-any [] k d e h = absurd (omega arith)
      get_or-any (x ∷ xs) zero d e h = refl
      get_or-any (x ∷ xs) (suc k) d e h = get_or-any xs k d e (omega arith)
