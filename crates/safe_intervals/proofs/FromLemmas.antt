-- Lists of ranges from a time on: the safe intervals found so far.
use Rattle.std.proofs.Common.{arith, ap, ◌∙◌, inl, inr, refl, get_or, length}
use Rattle.std.proofs.lemmas.Bool.{cases_lt}
use Rattle.std.proofs.lemmas.List.{get_or_append_left, length_push}
use Rattle.std.proofs.lemmas.List.Elements.{All-nil, All-push, All-weaker}
use Rattle.std.proofs.lemmas.List.Quantifiers.{Any-push, all_pairs_push}
use Rattle.std.specs.Prelude.{◌≡◌, ℕ, ◌+◌, ◌<◌, ◌≤◌, ◌⊎◌, ◌++◌, true, false, List, [], ◌∷◌, All, AllPairs}
use Rattle.std.specs.List.{Any}
use Rattle.fleet_base.specs.declared.request.Record.{Record}
use Rattle.calendars.specs.Records.{covers}
use Rattle.safe_intervals.specs.declared.interval.Interval.{Interval}
use Rattle.safe_intervals.specs.Safe.{IsIn, IsSafeInterval, IsBefore, AreSafeFrom, IsNextGap, NoneSafeFrom}

-- the safe intervals that end from `low` on and before `from`
pub record AreSafeBetween (records : List Record) (horizon low : ℕ) (list : List Interval) (from : ℕ) : Type 0 where
  pub safe : All (IsSafeInterval records horizon) list
  pub each_time : (t : ℕ) → low ≤ t → t < from → t ≤ horizon → covers records t ≡ false → Any (IsIn t) list
  pub rising : AllPairs IsBefore list
  pub past : All (λ i. i.to < from) list
  pub edge : (list ≡ []) ⊎ ((horizon < from) ⊎ (covers records from ≡ true))

pub none_between : (records : List Record) (horizon low : ℕ) → AreSafeBetween records horizon low [] low
none_between records horizon low = record {
  safe = All-nil (IsSafeInterval records horizon);
  each_time = λ t since before. absurd (omega arith);
  rising = λ i j d h k. absurd (omega arith);
  past = All-nil (λ i. i.to < low);
  edge = inl refl;
}

any_old : {X : Type 0} (P : X → Type 0) (xs : List X) (y : X) → Any P xs → Any P (xs ++ y ∷ [])
any_old P xs y (k, x, h, is, p) = (k, x, omega (arith, length_push xs y), get_or_append_left xs (y ∷ []) x k h ∙ is, p)

module _ (records : List Record) (horizon low : ℕ) (list : List Interval) (from : ℕ) (found : AreSafeBetween records horizon low list from) where
  -- the next one begins after all that were found
  after_all : (i : Interval) → IsNextGap records horizon from i → (k : ℕ) (d : Interval) → k < length list → (get_or list k d).to < i.from
  after_all i next k d within = go found.edge (found.past k d within)
    where
      go : (list ≡ []) ⊎ ((horizon < from) ⊎ (covers records from ≡ true)) → (get_or list k d).to < from → (get_or list k d).to < i.from
      go (inl none) before = absurd (omega (arith, ap (λ (xs : List Interval). length xs) none))
      go (inr (inl past)) before = absurd (omega (arith, next.ends_later, next.safe.within))
      go (inr (inr taken)) before = elim (cases_lt from i.from) [
        | inl later ↦ omega arith
        | inr earlier ↦ let free : covers records from ≡ false = next.safe.free from (earlier, next.ends_later) in absurd (cc)
      ]

  pub one_more : (i : Interval) → IsNextGap records horizon from i → AreSafeBetween records horizon low (list ++ i ∷ []) (i.to + 1)
  one_more i next = record {
    safe = All-push (IsSafeInterval records horizon) list i found.safe next.safe;
    each_time = λ t since before within free. elim (cases_lt t from) [
      | inl old ↦ any_old (IsIn t) list i (found.each_time t since old within free)
      | inr new ↦ elim (cases_lt t i.from) [
        | inl early ↦ let taken : covers records t ≡ true = next.first t new early in absurd (cc)
        | inr begun ↦ Any-push (IsIn t) list i (begun, omega arith)
      ]
    ];
    rising = all_pairs_push IsBefore list i found.rising (after_all i next);
    past = All-push (λ j. j.to < i.to + 1) list i
        (All-weaker (λ j. j.to < from) (λ j. j.to < i.to + 1) (λ j h. omega (arith, next.ends_later)) list found.past) (omega arith);
    edge = elim next.safe.ends [ inl last ↦ inr (inl (omega arith)) | inr taken ↦ inr (inr taken) ];
  }

  pub all_found : NoneSafeFrom records horizon from → AreSafeFrom records horizon low list
  all_found none = record {
    safe = found.safe;
    each_time = λ t since within free. elim (cases_lt t from) [
      | inl old ↦ found.each_time t since old within free
      | inr new ↦ let taken : covers records t ≡ true = none t new within in absurd (cc)
    ];
    rising = found.rising;
  }
