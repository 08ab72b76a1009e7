-- Records in order: which times they cover, and that the changes of a calendar keep the order.
use Rattle.std.proofs.Common.{arith, sym, ap, ◌∙◌, refl, inl, inr, ◌⊎◌}
use Rattle.std.proofs.lemmas.Bool.{cases_lt, false≢true, and_from, and_left, and_right, le-leb, lt-leb, ltb-true, ltb-false, eq-eqb, eqb-true}
use Rattle.std.specs.Prelude.{◌≡◌, ◌≢◌, ℕ, ◌+◌, ◌<◌, ◌≤◌, ◌==◌, ◌||◌, nat_lt, nat_le, Bool, true, false, List, [], ◌∷◌, filter, if◌then◌else◌}
use Rattle.fleet_base.specs.declared.request.Record.{Record}
use Rattle.fleet_base.specs.declared.request.TheConstants.{FOREVER}
use Rattle.calendars.specs.Records.{covers, holds_time, InOrderFrom, with_record, IsApart}

or_false : (x y : Bool) → (x || y) ≡ false → (x ≡ false) × (y ≡ false)
or_false true y e = absurd (cc)
or_false false y e = (refl, e)

or_first : (x y : Bool) → x ≡ true → (x || y) ≡ true
or_first true y e = refl
or_first false y e = absurd (cc)

or_second : (x y : Bool) → y ≡ true → (x || y) ≡ true
or_second true y e = refl
or_second false y e = e

or_none : (x y : Bool) → x ≡ false → y ≡ false → (x || y) ≡ false
or_none true y e h = absurd (cc)
or_none false y e h = h

-- what it is to hold a time, in numbers
pub holds_from : (r : Record) (t : ℕ) → r.from ≤ t → (t ≤ r.to) ⊎ (r.to ≡ FOREVER) → holds_time t r ≡ true
holds_from r t since (inl until) = and_from (nat_le r.from t) _ (le-leb r.from t since) (or_first (nat_le t r.to) (r.to == FOREVER) (le-leb t r.to until))
holds_from r t since (inr never) = and_from (nat_le r.from t) _ (le-leb r.from t since) (or_second (nat_le t r.to) (r.to == FOREVER) (eq-eqb r.to FOREVER never))

pub held_not_before : (r : Record) (t : ℕ) → t < r.from → holds_time t r ≡ false
held_not_before r t early = and_left (nat_le r.from t) _ (lt-leb r.from t early)

pub held_not_after : (r : Record) (t : ℕ) → r.to < t → r.to ≢ FOREVER → holds_time t r ≡ false
held_not_after r t late ends = and_right (nat_le r.from t) _ (or_none (nat_le t r.to) (r.to == FOREVER) (lt-leb t r.to late) (not_equal (r.to == FOREVER) refl))
  where
    not_equal : (b : Bool) → (r.to == FOREVER) ≡ b → b ≡ false
    not_equal true e = absurd (ends (eqb-true r.to FOREVER e))
    not_equal false e = refl

-- a list that doesn't cover a time has no first record that does, and no later one
pub uncovered_parts : (r : Record) (rs : List Record) (t : ℕ) → covers (r ∷ rs) t ≡ false → (holds_time t r ≡ false) × (covers rs t ≡ false)
uncovered_parts r rs t h = or_false (holds_time t r) (covers rs t) h

pub covers_first : (r : Record) (rs : List Record) (t : ℕ) → holds_time t r ≡ true → covers (r ∷ rs) t ≡ true
covers_first r rs t h = or_first (holds_time t r) (covers rs t) h

pub covers_past : (r : Record) (rs : List Record) (t : ℕ) → holds_time t r ≡ false → covers (r ∷ rs) t ≡ covers rs t
covers_past r rs t h = ap (λ b. b || covers rs t) h

pub lower : (rs : List Record) (low low' : ℕ) → low' ≤ low → InOrderFrom low rs → InOrderFrom low' rs
lower [] low low' le h = tt
lower (r ∷ rs) low low' le h = (omega arith, h.1, h.2, h.3)

-- records in order cover no time before the first
pub below_uncovered : (rs : List Record) (low t : ℕ) → InOrderFrom low rs → t < low → covers rs t ≡ false
below_uncovered [] low t order early = refl
below_uncovered (r ∷ rs) low t order early =
    let proper : r.from ≤ r.to = order.1 in
    let since : low ≤ r.from = order.0 in
    or_none (holds_time t r) (covers rs t) (held_not_before r t (omega arith)) (below_uncovered rs (r.to + 1) t order.3 (omega arith))

-- where a later record has begun, an earlier one is over
pub over_before : (r s : Record) (rs : List Record) (low t : ℕ) → InOrderFrom low (r ∷ s ∷ rs) → s.from ≤ t → holds_time t r ≡ false
over_before r s rs low t order begun =
    let next : r.to + 1 ≤ s.from = order.3.0 in
    held_not_after r t (omega arith) (λ never. let none : s ∷ rs ≡ [] = order.2 never in cc)

pub InOrder-filter : (p : Record → Bool) (rs : List Record) (low : ℕ) → InOrderFrom low rs → InOrderFrom low (filter p rs)
InOrder-filter p [] low h = tt
InOrder-filter p (r ∷ rs) low h = go (InOrder-filter p rs (r.to + 1) h.3) (p r) where
  go : InOrderFrom (r.to + 1) (filter p rs) → (b : Bool) → InOrderFrom low (if b then r ∷ filter p rs else filter p rs)
  go rest true = (h.0, h.1, (λ never. ap (filter p) (h.2 never)), rest)
  go rest false = lower (filter p rs) (r.to + 1) low (let proper : r.from ≤ r.to = h.1 in let since : low ≤ r.from = h.0 in omega arith) rest

-- a record that shares no time with the others is put in in order
pub InOrder-with_record : (a : Record) (rs : List Record) (low : ℕ) → a.from ≤ a.to → low ≤ a.from → IsApart a rs
    → InOrderFrom low rs → InOrderFrom low (with_record a rs)
InOrder-with_record a [] low proper since apart h = (since, proper, (λ never. refl), tt)
InOrder-with_record a (r ∷ rs) low proper since apart h =
    go (λ later apart'. InOrder-with_record a rs (r.to + 1) proper later apart' h.3) (nat_lt a.from r.from) refl where
      proper_r : r.from ≤ r.to
      proper_r = h.1

      -- the first record isn't held at a time of a's
      clash : {X : Type 0} → (t : ℕ) → holds_time t a ≡ true → holds_time t r ≡ true → X
      clash t mine theirs = absurd (false≢true (sym (uncovered_parts r rs t (apart t mine)).0 ∙ theirs))

      go : (r.to + 1 ≤ a.from → IsApart a rs → InOrderFrom (r.to + 1) (with_record a rs)) → (b : Bool) → nat_lt a.from r.from ≡ b
          → InOrderFrom low (if b then a ∷ r ∷ rs else r ∷ with_record a rs)
      go rest true e =
          let before : a.from < r.from = ltb-true a.from r.from e in
          let p : r.from ≤ r.to = proper_r in
          let at : holds_time r.from r ≡ true = holds_from r r.from (omega arith) (inl p) in
          elim (cases_lt a.to r.from) [
            | inl over ↦ (since, proper, (λ never. clash r.from (holds_from a r.from (omega arith) (inr never)) at), (omega arith, h.1, h.2, h.3))
            | inr on ↦ clash r.from (holds_from a r.from (omega arith) (inl on)) at
          ]
      go rest false e =
          let after : r.from ≤ a.from = ltb-false a.from r.from e in
          let mine : holds_time a.from a ≡ true = holds_from a a.from (omega arith) (inl proper) in
          elim (cases_lt r.to a.from) [
            | inl over ↦ (
              h.0,
              h.1,
              (λ never. clash a.from mine (holds_from r a.from after (inr never))),
              rest (omega arith) (λ t x. (uncovered_parts r rs t (apart t x)).1),
            )
            | inr on ↦ clash a.from mine (holds_from r a.from after (inl on))
          ]
