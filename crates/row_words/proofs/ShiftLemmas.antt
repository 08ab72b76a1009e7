-- Words whose places move up or down by more than one.
use Rattle.std.proofs.Common.{◌≡◌, ℕ, ◌+◌, ◌-◌, ◌*◌, ◌/◌, ◌%◌, ◌<◌, ◌^◌, ◌↔◌, inl, inr, sym, ap, ◌∙◌, arith}
use Rattle.std.specs.Int.{bit_at}
use Rattle.std.proofs.lemmas.Bool.{cases_lt}
use Rattle.std.proofs.lemmas.Nat.{shr_split, mod_below, pow_pos}
use Rattle.std.proofs.lemmas.Nat.Bits.{bit_at-zero, bit_at_cat_low, bit_at_cat_high}
use Rattle.row_words.specs.Words.{IsSet}
use Rattle.row_words.proofs.WordLemmas.{set_below, bit_at-mod}

-- a number times a power of two
high_bits : (word count j i : ℕ) → j ≡ count + i → bit_at (word * 2 ^ count) j ≡ bit_at word i
high_bits word count j i is =
    let joined : word * 2 ^ count + 0 ≡ word * 2 ^ count = omega arith in
    let before : j - count ≡ i = omega arith in
    ap (λ (m : ℕ). bit_at m j) (sym joined) ∙ bit_at_cat_high word count 0 j (pow_pos count) (omega arith) ∙ ap (λ (k : ℕ). bit_at word k) before

low_bits : (word count j : ℕ) → j < count → bit_at (word * 2 ^ count) j ≡ 0
low_bits word count j below =
    let joined : word * 2 ^ count + 0 ≡ word * 2 ^ count = omega arith in
    ap (λ (m : ℕ). bit_at m j) (sym joined) ∙ bit_at_cat_low word count 0 j below ∙ bit_at-zero j

pub set_in_raised : (word count j : ℕ) → IsSet (word * 2 ^ count % 2 ^ 64) j ↔ ((i : ℕ) × (j ≡ count + i) × (j < 64) × IsSet word i)
set_in_raised word count j = (
  λ set. (let below : j < 64 = set_below (word * 2 ^ count % 2 ^ 64) j (mod_below (word * 2 ^ count) (2 ^ 64) (pow_pos 64)) set in
      let shifted : bit_at (word * 2 ^ count) j ≡ 1 = sym (bit_at-mod (word * 2 ^ count) 64 j below) ∙ set in
      elim (cases_lt j count) [
        | inl low ↦ (let clear : bit_at (word * 2 ^ count) j ≡ 0 = low_bits word count j low in absurd (omega arith))
        | inr high ↦ (let from : j ≡ count + (j - count) = omega arith in (j - count, from, below, sym (high_bits word count j (j - count) from) ∙ shifted))
      ]),
  λ from. bit_at-mod (word * 2 ^ count) 64 j from.2 ∙ high_bits word count j from.0 from.1 ∙ from.3,
)

pub set_in_lowered : (word count j : ℕ) → IsSet (word / 2 ^ count) j ↔ IsSet word (count + j)
set_in_lowered word count j =
    let before : count + j - count ≡ j = omega arith in
    let same : bit_at word (count + j) ≡ bit_at (word / 2 ^ count) j =
    ap (λ (m : ℕ). bit_at m (count + j)) (sym (shr_split word count))
    ∙ bit_at_cat_high (word / 2 ^ count) count (word % 2 ^ count) (count + j) (mod_below word (2 ^ count) (pow_pos count)) (omega arith)
    ∙ ap (λ (k : ℕ). bit_at (word / 2 ^ count) k) before in
    (λ set. same ∙ set, λ set. sym same ∙ set)
