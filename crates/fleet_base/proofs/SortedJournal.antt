-- What a sort by the journal's key gives.
use Rattle.std.proofs.Common.{◌≡◌, ℕ, zero, suc, ◌+◌, ◌<◌, ◌≤◌, ◌⊎◌, inl, inr, true, false, List, length, Option, Some, None, sym, subst, ◌∙◌, arith, get_or, add-zero, ◌-◌}
use Rattle.std.specs.declared.cmp.Ordering.{Ordering}
use Rattle.std.specs.Ordering.{ordering_then, bool_cmp, is_lt, nat_cmp}
use Rattle.std.specs.List.Sorted.{IsSortedByKey}
use Rattle.std.specs.Fn.{Called, ComputesKey}
use Rattle.std.specs.Borrow.{Bor}
use denote.Param.Members.{Mut}
use Rattle.std.proofs.lemmas.Fn.{always_returns_same}
use Rattle.std.proofs.lemmas.Bool.{lt-ltb, le-ltb, eq-eqb, cases_eq}
use Rattle.fleet_base.specs.declared.request.RouteId.{RouteId}
use Rattle.fleet_base.specs.declared.request.Entry.{Entry}
use Rattle.fleet_base.specs.declared.request.Entry.TheVariants.{Commit, Cancel, NoRoute}
use Rattle.fleet_base.specs.declared.journal.JournalKey.{JournalKey}
use Rattle.fleet_base.specs.History.{reply_of, era_of}
use Rattle.fleet_base.specs.Journal.{ComesFirst, Precedes, IsInOrder}
use Rattle.fleet_base.specs.JournalKey.{journal_key_of}
use Rattle.fleet_base.proofs.WalkLemmas.{nat_cases}

abbrev pub journal_cmp : JournalKey → JournalKey → Ordering
journal_cmp a b = ordering_then (nat_cmp a.era b.era) (ordering_then (bool_cmp a.cancel b.cancel) (ordering_then (nat_cmp a.stamp b.stamp) (nat_cmp a.caller b.caller)))

then_not_less : (a b : ℕ) (o : Ordering) → is_lt (ordering_then (nat_cmp a b) o) ≡ false → (b < a) ⊎ ((b ≡ a) × (is_lt o ≡ false))
then_not_less a b o h = elim (nat_cases a b) [
  | inl less ↦ let no : true ≡ false = rw (lt-ltb a b less) at h in absurd (cc)
  | inr above ↦ elim (cases_eq a b) [
    | inl same ↦ inr (sym same, rw (le-ltb a b above, eq-eqb a b same) at h)
    | inr other ↦ inl (omega arith)
  ]
]

not_less : (a b : ℕ) → is_lt (nat_cmp a b) ≡ false → b ≤ a
not_less a b h = elim (nat_cases a b) [
  | inl less ↦ let no : true ≡ false = rw (lt-ltb a b less) at h in absurd (cc)
  | inr above ↦ above
]

by_stamp : (a b : RouteId) → is_lt (ordering_then (nat_cmp b.stamp a.stamp) (nat_cmp b.caller a.caller)) ≡ false → ComesFirst (Some a) (Some b)
by_stamp a b h = elim (then_not_less b.stamp a.stamp _ h) [ inl less ↦ inl less | inr same ↦ inr (same.0, not_less b.caller a.caller same.1) ]

sorted_step : (x y : Entry) → is_lt (journal_cmp (journal_key_of y) (journal_key_of x)) ≡ false → Precedes x y
sorted_step x y h = elim (then_not_less (journal_key_of y).era (journal_key_of x).era _ h) [
  | inl less ↦ inl (eras x y less)
  | inr same ↦ inr (same_eras x y same.0, replies x y same.1)
]
  where
    eras : (x y : Entry) → (journal_key_of x).era < (journal_key_of y).era → era_of x < era_of y
    eras (Commit a b c d) (Commit a' b' c' d') h = h
    eras (Commit a b c d) (Cancel a' b') h = h
    eras (Commit a b c d) (NoRoute a' b' c' d') h = h
    eras (Cancel a b) (Commit a' b' c' d') h = h
    eras (Cancel a b) (Cancel a' b') h = h
    eras (Cancel a b) (NoRoute a' b' c' d') h = h
    eras (NoRoute a b c d) (Commit a' b' c' d') h = h
    eras (NoRoute a b c d) (Cancel a' b') h = h
    eras (NoRoute a b c d) (NoRoute a' b' c' d') h = h

    same_eras : (x y : Entry) → (journal_key_of x).era ≡ (journal_key_of y).era → era_of x ≡ era_of y
    same_eras (Commit a b c d) (Commit a' b' c' d') h = h
    same_eras (Commit a b c d) (Cancel a' b') h = h
    same_eras (Commit a b c d) (NoRoute a' b' c' d') h = h
    same_eras (Cancel a b) (Commit a' b' c' d') h = h
    same_eras (Cancel a b) (Cancel a' b') h = h
    same_eras (Cancel a b) (NoRoute a' b' c' d') h = h
    same_eras (NoRoute a b c d) (Commit a' b' c' d') h = h
    same_eras (NoRoute a b c d) (Cancel a' b') h = h
    same_eras (NoRoute a b c d) (NoRoute a' b' c' d') h = h

    replies : (x y : Entry) → is_lt (ordering_then (bool_cmp (journal_key_of y).cancel (journal_key_of x).cancel) (ordering_then (nat_cmp (journal_key_of y).stamp (journal_key_of x).stamp) (nat_cmp (journal_key_of y).caller (journal_key_of x).caller))) ≡ false → ComesFirst (reply_of x) (reply_of y)
    replies (Commit a b c d) (Commit a' b' c' d') h = by_stamp a a' h
    replies (Commit a b c d) (Cancel a' b') h = tt
    replies (Commit a b c d) (NoRoute s c' e' q') h = by_stamp a (record { stamp = s; caller = c' }) h
    replies (Cancel a b) (Commit a' b' c' d') h = absurd (cc)
    replies (Cancel a b) (Cancel a' b') h = tt
    replies (Cancel a b) (NoRoute a' b' c' d') h = absurd (cc)
    replies (NoRoute s c e q) (Commit a' b' c' d') h = by_stamp (record { stamp = s; caller = c }) a' h
    replies (NoRoute s c e q) (Cancel a' b') h = tt
    replies (NoRoute s c e q) (NoRoute s' c' e' q') h = by_stamp (record { stamp = s; caller = c }) (record { stamp = s'; caller = c' }) h

ComesFirst-trans : (a b c : Option RouteId) → ComesFirst a b → ComesFirst b c → ComesFirst a c
ComesFirst-trans (Some a) (Some b) (Some c) (inl p) (inl q) = inl (omega arith)
ComesFirst-trans (Some a) (Some b) (Some c) (inl p) (inr q) = inl (omega arith)
ComesFirst-trans (Some a) (Some b) (Some c) (inr p) (inl q) = inl (omega arith)
ComesFirst-trans (Some a) (Some b) (Some c) (inr p) (inr q) = inr (p.0 ∙ q.0, omega arith)
ComesFirst-trans (Some a) (Some b) None p q = tt
ComesFirst-trans (Some a) None (Some c) p q = absurd q
ComesFirst-trans (Some a) None None p q = tt
ComesFirst-trans None (Some b) c p q = absurd p
ComesFirst-trans None None c p q = q

pub Precedes-trans : (x y z : Entry) → Precedes x y → Precedes y z → Precedes x z
Precedes-trans x y z (inl p) (inl q) = inl (omega arith)
Precedes-trans x y z (inl p) (inr q) = inl (omega (arith, q.0))
Precedes-trans x y z (inr p) (inl q) = inl (omega (arith, p.0))
Precedes-trans x y z (inr p) (inr q) = inr (p.0 ∙ q.0, ComesFirst-trans (reply_of x) (reply_of y) (reply_of z) p.1 q.1)

-- neighbours in order, so any two
module _ (xs : List Entry) (step : (k : ℕ) (d : Entry) → k + 1 < length xs → Precedes (get_or xs k d) (get_or xs (k + 1) d)) where
  far : (i n : ℕ) (d : Entry) → i + 1 + n < length xs → Precedes (get_or xs i d) (get_or xs (i + 1 + n) d)
  far i zero d h = rw add-zero (step i d (omega arith))
  far i (suc n) d h =
      let next : i + 1 + n + 1 ≡ i + 1 + suc n = omega arith in
      Precedes-trans _ _ _ (far i n d (omega arith)) (subst (λ (m : ℕ). Precedes (get_or xs (i + 1 + n) d) (get_or xs m d)) next (step (i + 1 + n) d (omega arith)))

  pub in_order_from_steps : IsInOrder xs
  in_order_from_steps i j d low high =
      let n : ℕ = j - (i + 1) in
      let e : i + 1 + n ≡ j = omega arith in
      subst (λ (m : ℕ). Precedes (get_or xs i d) (get_or xs m d)) e (far i n d (omega arith))

-- from the clause `sorted` of `sort_unstable_by_key`, where each call gives the key
pub in_order_from_sort : {F : Type 0} {g : Mut F (Bor Entry × Unit {0}) JournalKey} {f : F} (xs : List Entry)
    → ((key : Entry → JournalKey) → ComputesKey g key f → IsSortedByKey key journal_cmp xs)
    → ((a : Bor Entry × Unit {0}) (r : JournalKey) (f' : F) → Called g f a r f' → (r ≡ journal_key_of a.0.now) × (f' ≡ f)) → IsInOrder xs
in_order_from_sort {g = g} {f = f} xs up h =
    in_order_from_steps xs (λ k d below. sorted_step _ _ (up journal_key_of (always_returns_same g (λ a r. r ≡ journal_key_of a.0.now) f h) k d (omega arith) below))
