-- What is known of the places of words.
use Rattle.std.proofs.Common.{◌≡◌, ◌≢◌, ℕ, ◌+◌, ◌-◌, ◌*◌, ◌/◌, ◌%◌, ◌^◌, ◌<◌, ◌≤◌, ◌⊎◌, ◌↔◌, min, max, bit_and, bit_or, arith, inl, inr, sym, ◌∙◌, ap, add-one}
use Rattle.std.specs.Int.{bit_at, w64, bit_not, trailing_zeros}
use Rattle.std.proofs.lemmas.Nat.{shr_split, mod_below, pow_pos, le_or_l}
use Rattle.std.proofs.lemmas.Nat.Bits.{bit_at_and, bit_at_or, bit_at_not, bit_at-lt, bit_at-suc, bit_at-zero, bit_at_above, bit_at_cat_low, bit_at_cat_high, bit_at-trailing_zeros, bit_at-pow_same, bit_at-pow_other, bit_at_ones, bit_at_ones_above, same_from_bits}
use Rattle.std.proofs.lemmas.Bool.{cases_eq, cases_lt}
use Rattle.row_words.specs.Words.{IsSet}

-- a word has no place from 64 on
pub set_below : (word i : ℕ) → word < 2 ^ 64 → IsSet word i → i < 64
set_below word i fits set = elim (cases_lt i 64) [
  | inl below ↦ below
  | inr above ↦ (let none : bit_at word i ≡ 0 = bit_at_above word 64 i fits above in absurd (omega arith))
]

-- a place is set or not
pub set_or_not : (word i : ℕ) → IsSet word i ⊎ (¬ (IsSet word i))
set_or_not word i = cases_eq (bit_at word i) 1

-- 0 has no place
pub is_empty : (word : ℕ) → word ≡ 0 → (i : ℕ) → ¬ (IsSet word i)
is_empty word none i set =
    let clear : bit_at word i ≡ 0 = ap (λ (n : ℕ). bit_at n i) none ∙ bit_at-zero i in
    omega arith

-- any other word has a least place
pub least_set : (word : ℕ) → word < 2 ^ 64 → word ≢ 0 → (trailing_zeros w64 word < 64) × IsSet word (trailing_zeros w64 word) × ((j : ℕ) → j < trailing_zeros w64 word → ¬ (IsSet word j))
least_set word fits some =
    let found : (trailing_zeros w64 word < 64) × IsSet word (trailing_zeros w64 word) × ((j : ℕ) → j < trailing_zeros w64 word → bit_at word j ≡ 0) = bit_at-trailing_zeros w64 word (omega arith) fits in
    (found.0, found.1, λ j before set. (let clear : bit_at word j ≡ 0 = found.2 j before in omega arith))

pub some_set : (word : ℕ) → word < 2 ^ 64 → word ≢ 0 → (i : ℕ) × (i < 64) × IsSet word i
some_set word fits some =
    let found : (trailing_zeros w64 word < 64) × IsSet word (trailing_zeros w64 word) × ((j : ℕ) → j < trailing_zeros w64 word → ¬ (IsSet word j)) = least_set word fits some in
    (trailing_zeros w64 word, found.0, found.1)

-- what each operation on words leaves of the places
pub set_in_and : (a b i : ℕ) → IsSet (bit_and a b) i ↔ (IsSet a i × IsSet b i)
set_in_and a b i =
    let least : bit_at (bit_and a b) i ≡ min (bit_at a i) (bit_at b i) = bit_at_and a b i in
    let small : bit_at a i < 2 = bit_at-lt a i in
    let low : bit_at b i < 2 = bit_at-lt b i in
    (λ set. (omega arith, omega arith), λ sets. (let first : bit_at a i ≡ 1 = sets.0 in let second : bit_at b i ≡ 1 = sets.1 in omega arith))

pub set_in_or : (a b i : ℕ) → IsSet (bit_or a b) i ↔ (IsSet a i ⊎ IsSet b i)
set_in_or a b i =
    let greatest : bit_at (bit_or a b) i ≡ max (bit_at a i) (bit_at b i) = bit_at_or a b i in
    let small : bit_at a i < 2 = bit_at-lt a i in
    let low : bit_at b i < 2 = bit_at-lt b i in (
      λ set. elim (set_or_not a i) [ inl has ↦ inl has | inr has_not ↦ inr (omega arith) ],
      λ either. elim either [ inl first ↦ omega arith | inr second ↦ omega arith ],
    )

pub set_in_and_not : (a b i : ℕ) → a < 2 ^ 64 → b < 2 ^ 64 → IsSet (bit_and a (bit_not w64 b)) i ↔ (IsSet a i × ¬ (IsSet b i))
set_in_and_not a b i fits fits_b =
    let low : bit_at b i < 2 = bit_at-lt b i in (
      λ set. (let sets : IsSet a i × IsSet (bit_not w64 b) i = (set_in_and a (bit_not w64 b) i).0 set in
          let turned : bit_at (bit_not w64 b) i ≡ 1 - bit_at b i = bit_at_not w64 b i fits_b (set_below a i fits sets.0) in
          let kept : bit_at (bit_not w64 b) i ≡ 1 = sets.1 in
          (sets.0, λ has. omega arith)),
      λ only. (let turned : bit_at (bit_not w64 b) i ≡ 1 - bit_at b i = bit_at_not w64 b i fits_b (set_below a i fits only.0) in
          let lacks : bit_at b i ≢ 1 = only.1 in
          (set_in_and a (bit_not w64 b) i).1 (only.0, omega arith)),
    )

-- a word's low places
pub bit_at-mod : (n k i : ℕ) → i < k → bit_at (n % 2 ^ k) i ≡ bit_at n i
bit_at-mod n k i below =
    sym (bit_at_cat_low (n / 2 ^ k) k (n % 2 ^ k) i below) ∙ ap (λ (m : ℕ). bit_at m i) (shr_split n k)

-- a word times two
pub bit_at_twice : (n j : ℕ) → bit_at (n * 2) (j + 1) ≡ bit_at n j
bit_at_twice n j =
    let joined : n * 2 ^ 1 + 0 ≡ n * 2 = omega arith in
    let before : (j + 1) - 1 ≡ j = omega arith in
    ap (λ (m : ℕ). bit_at m (j + 1)) (sym joined) ∙ bit_at_cat_high n 1 0 (j + 1) (omega arith) (omega arith) ∙ ap (λ (k : ℕ). bit_at n k) before

pub bit_at_even : (n : ℕ) → bit_at (n * 2) 0 ≡ 0
bit_at_even n =
    let joined : n * 2 ^ 1 + 0 ≡ n * 2 = omega arith in
    ap (λ (m : ℕ). bit_at m 0) (sym joined) ∙ bit_at_cat_low n 1 0 0 (omega arith)

-- shifted by one place
pub set_in_shl : (word i : ℕ) → IsSet (word * 2 % 2 ^ 64) i ↔ ((j : ℕ) × (i ≡ j + 1) × (i < 64) × IsSet word j)
set_in_shl word i = (
  λ set. (let below : i < 64 = set_below (word * 2 % 2 ^ 64) i (mod_below (word * 2) (2 ^ 64) (pow_pos 64)) set in
      let shifted : bit_at (word * 2) i ≡ 1 = sym (bit_at-mod (word * 2) 64 i below) ∙ set in
      elim (cases_eq i 0) [
        | inl first ↦ (let clear : bit_at (word * 2) i ≡ 0 = ap (λ (k : ℕ). bit_at (word * 2) k) first ∙ bit_at_even word in absurd (omega arith))
        | inr later ↦ (let after : i ≡ i - 1 + 1 = omega arith in
            (i - 1, after, below, sym (bit_at_twice word (i - 1)) ∙ ap (λ (k : ℕ). bit_at (word * 2) k) (sym after) ∙ shifted))
      ]),
  λ from. bit_at-mod (word * 2) 64 i from.2 ∙ ap (λ (k : ℕ). bit_at (word * 2) k) from.1 ∙ bit_at_twice word from.0 ∙ from.3,
)

pub set_in_shr : (word i : ℕ) → IsSet (word / 2) i ↔ IsSet word (i + 1)
set_in_shr word i =
    let same : bit_at word (i + 1) ≡ bit_at (word / 2) i = rw add-one (bit_at-suc word i) in
    (λ set. same ∙ set, λ set. sym same ∙ set)

-- the words of the low places, and of one place
pub set_in_ones : (k i : ℕ) → IsSet (2 ^ k - 1) i ↔ (i < k)
set_in_ones k i = (
  λ set. elim (cases_lt i k) [
    | inl below ↦ below
    | inr above ↦ (let none : bit_at (2 ^ k - 1) i ≡ 0 = bit_at_ones_above k i above in absurd (omega arith))
  ],
  λ below. bit_at_ones k i below,
)

pub set_in_pow : (k i : ℕ) → IsSet (2 ^ k) i ↔ (i ≡ k)
set_in_pow k i = (
  λ set. elim (cases_eq i k) [
    | inl same ↦ same
    | inr other ↦ (let clear : bit_at (2 ^ k) i ≡ 0 = bit_at-pow_other k i other in absurd (omega arith))
  ],
  λ same. ap (λ (j : ℕ). bit_at (2 ^ k) j) same ∙ bit_at-pow_same k,
)

-- a word with one place more is greater
pub more_is_greater : (a b k : ℕ) → ((i : ℕ) → IsSet a i → IsSet b i) → IsSet b k → ¬ (IsSet a k) → a < b
more_is_greater a b k within has lacks =
    let kept : (i : ℕ) → bit_at (bit_or a b) i ≡ bit_at b i = λ i. elim (set_or_not a i) [
      | inl set ↦ (set_in_or a b i).1 (inl set) ∙ sym (within i set)
      | inr clear ↦ (let greatest : bit_at (bit_or a b) i ≡ max (bit_at a i) (bit_at b i) = bit_at_or a b i in
          let small : bit_at a i < 2 = bit_at-lt a i in
          omega arith)
    ] in
    let same : bit_or a b ≡ b = same_from_bits (bit_or a b) b kept in
    let least : a ≤ b = rw same at (le_or_l a b) in
    let other : a ≢ b = λ e. lacks (ap (λ (n : ℕ). bit_at n k) e ∙ has) in
    omega arith
