-- The key by which lines are sorted: the journal's key of an entry, then the order's number.
use Rattle.std.proofs.Common.{◌≡◌, ℕ, ◌<◌, ◌≤◌, ◌⊎◌, inl, inr, true, false, Option, Some, refl, sym, ap, ◌∙◌, arith}
use Rattle.std.specs.declared.cmp.Ordering.{Ordering}
use Rattle.std.specs.declared.cmp.Ordering.TheVariants.{Less, Equal, Greater}
use Rattle.std.specs.Ordering.{ordering_then, ordering_reverse, bool_cmp, is_lt, nat_cmp}
use Rattle.std.specs.Option.{option_cmp}
use Rattle.std.specs.Cmp.{IsTotalOrder, bool_cmp_total}
use Rattle.std.specs.Cmp.Lexicographic.{options_total}
use Rattle.std.proofs.lemmas.Cmp.{nat_cmp_total, on_total, then_total, tied_itself}
use Rattle.std.proofs.lemmas.Bool.{lt-ltb, le-ltb, eq-eqb, cases_eq}
use Rattle.fleet_base.specs.declared.request.RouteId.{RouteId}
use Rattle.fleet_base.specs.declared.request.Entry.{Entry}
use Rattle.fleet_base.specs.declared.request.Entry.TheVariants.{Commit, Cancel, NoRoute}
use Rattle.fleet_base.specs.declared.journal.JournalKey.{JournalKey}
use Rattle.fleet_base.specs.History.{reply_of, era_of}
use Rattle.fleet_base.specs.Journal.{ComesFirst, Precedes}
use Rattle.fleet_base.specs.JournalKey.{journal_key_of}
use Rattle.fleet_base.proofs.WalkLemmas.{nat_cases}
use Rattle.fleet_base.proofs.SortedJournal.{journal_cmp}

-- ---- comparing in turn

first_not_less : (o p : Ordering) → is_lt (ordering_then o p) ≡ false → is_lt o ≡ false
first_not_less Less p h = h
first_not_less Equal p h = refl
first_not_less Greater p h = h

not_less : (a b : ℕ) → is_lt (nat_cmp a b) ≡ false → b ≤ a
not_less a b h = elim (nat_cases a b) [
  | inl less ↦ let no : true ≡ false = rw (lt-ltb a b less) at h in absurd (cc)
  | inr above ↦ above
]

then_not_less : (a b : ℕ) (o : Ordering) → is_lt (ordering_then (nat_cmp a b) o) ≡ false → (b < a) ⊎ ((b ≡ a) × (is_lt o ≡ false))
then_not_less a b o h = elim (nat_cases a b) [
  | inl less ↦ let no : true ≡ false = rw (lt-ltb a b less) at h in absurd (cc)
  | inr above ↦ elim (cases_eq a b) [
    | inl same ↦ inr (sym same, rw (le-ltb a b above, eq-eqb a b same) at h)
    | inr other ↦ inl (omega arith)
  ]
]

-- neither of two keys comes first, where their heads compare so
neither_first : (o p q r : Ordering) → o ≡ ordering_reverse p → is_lt (ordering_then o q) ≡ false → is_lt (ordering_then p r) ≡ false → (is_lt q ≡ false) × (is_lt r ≡ false)
neither_first Less p q r e f g = absurd (cc)
neither_first Equal Less q r e f g = absurd (cc)
neither_first Equal Equal q r e f g = (f, g)
neither_first Equal Greater q r e f g = absurd (cc)
neither_first Greater Less q r e f g = absurd (cc)
neither_first Greater Equal q r e f g = absurd (cc)
neither_first Greater Greater q r e f g = absurd (cc)

-- ---- the journal's key

journal_total : IsTotalOrder journal_cmp
journal_total =
    then_total (on_total (λ (k : JournalKey). k.era) nat_cmp_total)
    (then_total (on_total (λ (k : JournalKey). k.cancel) bool_cmp_total)
    (then_total (on_total (λ (k : JournalKey). k.stamp) nat_cmp_total) (on_total (λ (k : JournalKey). k.caller) nat_cmp_total)))

by_stamp : (a b : RouteId) → is_lt (ordering_then (nat_cmp b.stamp a.stamp) (nat_cmp b.caller a.caller)) ≡ false → ComesFirst (Some a) (Some b)
by_stamp a b h = elim (then_not_less b.stamp a.stamp _ h) [ inl less ↦ inl less | inr same ↦ inr (same.0, not_less b.caller a.caller same.1) ]

replies : (x y : Entry) → is_lt (ordering_then (bool_cmp (journal_key_of y).cancel (journal_key_of x).cancel) (ordering_then (nat_cmp (journal_key_of y).stamp (journal_key_of x).stamp) (nat_cmp (journal_key_of y).caller (journal_key_of x).caller))) ≡ false → ComesFirst (reply_of x) (reply_of y)
replies (Commit a b c d) (Commit a' b' c' d') h = by_stamp a a' h
replies (Commit a b c d) (Cancel a' b') h = tt
replies (Commit a b c d) (NoRoute s c' e' q') h = by_stamp a (record { stamp = s; caller = c' }) h
replies (Cancel a b) (Commit a' b' c' d') h = absurd (cc)
replies (Cancel a b) (Cancel a' b') h = tt
replies (Cancel a b) (NoRoute a' b' c' d') h = absurd (cc)
replies (NoRoute s c e q) (Commit a' b' c' d') h = by_stamp (record { stamp = s; caller = c }) a' h
replies (NoRoute s c e q) (Cancel a' b') h = tt
replies (NoRoute s c e q) (NoRoute s' c' e' q') h = by_stamp (record { stamp = s; caller = c }) (record { stamp = s'; caller = c' }) h

key_era : (x : Entry) → (journal_key_of x).era ≡ era_of x
key_era (Commit id era q w) = refl
key_era (Cancel id era) = refl
key_era (NoRoute stamp caller era q) = refl

-- the entry whose key isn't the later one stands first
keys_in_order : (x y : Entry) → is_lt (journal_cmp (journal_key_of y) (journal_key_of x)) ≡ false → Precedes x y
keys_in_order x y h =
    let ex = key_era x in let ey = key_era y in
    elim (then_not_less (journal_key_of y).era (journal_key_of x).era _ h) [
      | inl less ↦ inl (omega arith)
      | inr same ↦ inr (sym ex ∙ (same.0 ∙ ey), replies x y same.1)
    ]

-- ---- the key of a line

abbrev pub line_cmp : Option JournalKey × ℕ → Option JournalKey × ℕ → Ordering
line_cmp a b = ordering_then (option_cmp journal_cmp a.0 b.0) (nat_cmp a.1 b.1)

heads_total : IsTotalOrder (option_cmp journal_cmp)
heads_total = options_total journal_total

pub line_total : IsTotalOrder line_cmp
line_total = then_total (on_total (λ (k : Option JournalKey × ℕ). k.0) heads_total) (on_total (λ (k : Option JournalKey × ℕ). k.1) nat_cmp_total)

module _ (h h' : Option JournalKey) (same : h ≡ h') where
  -- of two keys with one head the one that isn't first has the higher number
  pub number_at_least : (m n : ℕ) → is_lt (line_cmp (h, m) (h', n)) ≡ false → n ≤ m
  number_at_least m n f =
      let tied : option_cmp journal_cmp h h' ≡ Equal = ap (λ (k : Option JournalKey). option_cmp journal_cmp h k) (sym same) ∙ tied_itself heads_total h in
      not_less m n (rw tied at f)

  -- a key between two keys with one head has its number between theirs
  pub number_between : (k : Option JournalKey) (m n o : ℕ) → is_lt (line_cmp (k, o) (h, m)) ≡ false → is_lt (line_cmp (h', n) (k, o)) ≡ false → (m ≤ o) × (o ≤ n)
  number_between k m n o f g =
      let turned : option_cmp journal_cmp k h ≡ ordering_reverse (option_cmp journal_cmp h' k) =
      heads_total.antisymm k h ∙ ap (λ (z : Option JournalKey). ordering_reverse (option_cmp journal_cmp z k)) same in
      let both = neither_first _ _ _ _ turned f g in
      (not_less o m both.0, not_less n o both.1)

-- entries whose lines stand in this order
pub lines_in_order : (x y : Entry) (h h' : Option JournalKey) (m n : ℕ) → h ≡ Some (journal_key_of x) → h' ≡ Some (journal_key_of y) → is_lt (line_cmp (h', n) (h, m)) ≡ false → Precedes x y
lines_in_order x y h h' m n e e' f =
    let first : is_lt (option_cmp journal_cmp h' h) ≡ false = first_not_less _ _ f in
    keys_in_order x y (ap (λ (z : Option JournalKey × Option JournalKey). is_lt (option_cmp journal_cmp z.0 z.1)) (λ i. (sym e' i, sym e i)) ∙ first)
