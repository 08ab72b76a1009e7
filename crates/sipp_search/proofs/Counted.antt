-- How many records of a cell have begun by a time, where it is free or taken.
use Rattle.std.proofs.Common.{arith, sym, ◌∙◌, refl, inl, inr, get_or}
use Rattle.std.proofs.lemmas.Bool.{cases_lt, cases_eq, false≢true, ltb-true, ltb-false}
use Rattle.std.proofs.lemmas.Option.{slice_get_within, get_or_from_slice_get}
use Rattle.std.proofs.lemmas.List.Folds.{list_any_at}
use Rattle.std.specs.Prelude.{◌≡◌, ℕ, suc, ◌+◌, ◌<◌, ◌≤◌, ◌⊎◌, nat_lt, Bool, true, false, List, [], ◌∷◌, Some, slice_get, if◌then◌else◌}
use Rattle.fleet_base.specs.declared.request.Record.{Record}
use Rattle.fleet_base.specs.declared.request.TheConstants.{FOREVER}
use Rattle.calendars.specs.Records.{covers, holds_time, InOrderFrom}
use Rattle.calendars.specs.Places.{place_in}
use Rattle.calendars.proofs.RecordLemmas.{holds_from, held_not_after, covers_past, uncovered_parts, below_uncovered}
use Rattle.safe_intervals.proofs.Counting.{begun_before}

place_later : (r : Record) (rs : List Record) (t : ℕ) → t < r.from → place_in t (r ∷ rs) ≡ 0
place_later r rs t later = go (nat_lt t r.from) refl where
  go : (b : Bool) → nat_lt t r.from ≡ b → (if b then 0 else suc (place_in t rs)) ≡ 0
  go true e = refl
  go false e = absurd (let begun : r.from ≤ t = ltb-false t r.from e in omega arith)

place_begun : (r : Record) (rs : List Record) (t : ℕ) → r.from ≤ t → place_in t (r ∷ rs) ≡ suc (place_in t rs)
place_begun r rs t begun = go (nat_lt t r.from) refl where
  go : (b : Bool) → nat_lt t r.from ≡ b → (if b then 0 else suc (place_in t rs)) ≡ suc (place_in t rs)
  go true e = absurd (let later : t < r.from = ltb-true t r.from e in omega arith)
  go false e = refl

-- a record that has begun covers the times until its end
pub begun_covers : (rs : List Record) (k t : ℕ) (r : Record) → k < place_in t rs → slice_get rs k ≡ Some r → t ≤ r.to → covers rs t ≡ true
begun_covers rs k t r below at until =
    let same : get_or rs k r ≡ r = get_or_from_slice_get rs k r r at in
    let last : t ≤ (get_or rs k r).to = rw same until in
    list_any_at (holds_time t) rs k r (slice_get_within rs k r at) (holds_from (get_or rs k r) t (begun_before rs t k r below) (inl last))

-- a record that covers the later time begins after the free one
pub covered_later : (rs : List Record) (low t u : ℕ) → InOrderFrom low rs → t ≤ u → covers rs t ≡ false → covers rs u ≡ true → place_in t rs < place_in u rs
covered_later [] low t u order less free taken = absurd (false≢true taken)
covered_later (r ∷ rs) low t u order less free taken = elim (cases_lt t r.from) [
  | inl later ↦ elim (cases_lt u r.from) [
    | inl early ↦
        let same : r.from ≤ r.from = omega arith in
        absurd (false≢true (sym (below_uncovered (r ∷ rs) r.from u (same, order.1, order.2, order.3) early) ∙ taken))
    | inr begun ↦ omega (arith, place_later r rs t later, place_begun r rs u begun)
  ]
  | inr since ↦
      omega (arith, place_begun r rs t since, place_begun r rs u (omega arith), covered_later rs (r.to + 1) t u order.3 less parts.1 (goes_on since))
]
  where
    parts : (holds_time t r ≡ false) × (covers rs t ≡ false)
    parts = uncovered_parts r rs t free

    -- the first record is over by the free time
    goes_on : r.from ≤ t → covers rs u ≡ true
    goes_on since = elim (cases_eq r.to FOREVER) [
      | inl never ↦ absurd (false≢true (sym parts.0 ∙ holds_from r t since (inr never)))
      | inr ends ↦ elim (cases_lt r.to u) [
        | inl over ↦ sym (covers_past r rs u (held_not_after r u over ends)) ∙ taken
        | inr until ↦ absurd (false≢true (sym parts.0 ∙ holds_from r t since (inl (omega arith))))
      ]
    ]

-- records in order begin at different times, so no more have begun than there are times
pub place_bounded : (rs : List Record) (low t : ℕ) → InOrderFrom low rs → place_in t rs ≤ t + 1
place_bounded rs low t order = omega (arith, bounded rs low t order) where
  bounded : (rs : List Record) (low t : ℕ) → InOrderFrom low rs → (place_in t rs ≡ 0) ⊎ (place_in t rs + low ≤ t + 1)
  bounded [] low t order = inl refl
  bounded (r ∷ rs) low t order = elim (cases_lt t r.from) [
    | inl later ↦ inl (place_later r rs t later)
    | inr begun ↦ inr (elim (bounded rs (r.to + 1) t order.3) [
      | inl none ↦ omega (arith, place_begun r rs t begun, order.0)
      | inr some ↦ omega (arith, place_begun r rs t begun, order.0, order.1)
    ])
  ]
