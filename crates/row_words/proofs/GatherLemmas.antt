-- Eight cells as the bytes of a word, brought together by one multiplication.
use Rattle.std.proofs.Common.{◌≡◌, ℕ, ◌+◌, ◌*◌, ◌/◌, ◌%◌, ◌^◌, ◌<◌, ◌≤◌, Bool, true, false, List, length, get_or, bit_or, arith, refl, sym, subst}
use Rattle.std.specs.Int.{from_bool}
use Rattle.std.proofs.lemmas.Grind.{common_steps}
use Rattle.std.proofs.lemmas.Option.{slice_get-get_or}
use Rattle.row_words.specs.Cells.{HasOpen}
use Rattle.row_words.proofs.WordLemmas.{set_in_or}
use Rattle.row_words.proofs.CellLemmas.{one_open, both_open}

-- the word of eight cells whose bits stand so many places apart
abbrev pub apart : ℕ → (ℕ → Bool) → ℕ
apart step cell =
    let bit = λ (k : ℕ). from_bool (cell k) * 2 ^ (k * step) % 2 ^ 64 in
    bit_or (bit_or (bit_or (bit_or (bit_or (bit_or (bit_or (from_bool (cell 0)) (bit 1)) (bit 2)) (bit 3)) (bit 4)) (bit 5)) (bit 6)) (bit 7)

bit_below : (cell : Bool) → from_bool cell < 2
bit_below true = omega arith
bit_below false = omega arith

-- the top byte of such a word's product
abbrev pub gather : ℕ → ℕ
gather word = word * 0x0102_0408_1020_4080 % 2 ^ 64 / 2 ^ 56

-- The product is a sum of terms at one place each. Those at places 56 to 63 are the bytes in their order, one each. The others are at
-- place 64 or above, or stay below 2 ^ 56 in sum.
gathered : (cell : ℕ → Bool) → gather (apart 8 cell) ≡ apart 1 cell
gathered cell = grind (arith, common_steps, bit_below)

module _ (cells : List Bool) (from : ℕ) (within : from + 8 ≤ length cells) where
  abbrev cell : ℕ → Bool
  cell place = get_or cells (from + place) false

  -- the places of the first cell, and of one cell more
  first_open : HasOpen cells from 0 1 (from_bool (cell 0))
  first_open =
      let small : from_bool (cell 0) < 2 = bit_below (cell 0) in
      let same : from_bool (cell 0) * 2 ^ 0 % 2 ^ 64 ≡ from_bool (cell 0) = omega arith in
      subst (HasOpen cells from 0 1) same (one_open cells from 0 (cell 0) (slice_get-get_or cells (from + 0) false (omega arith)) (omega arith))

  next_open : (place word : ℕ) → place < 8 → HasOpen cells from 0 place word
      → HasOpen cells from 0 (place + 1) (bit_or word (from_bool (cell place) * 2 ^ place % 2 ^ 64))
  next_open place word inside are = both_open cells from 0 place (place + 1) (place + 1) word _ _ (omega arith) (omega arith) refl are
      (one_open cells from place (cell place) (slice_get-get_or cells (from + place) false (omega arith)) (omega arith)) (set_in_or word _)

  pub gathered_open : HasOpen cells from 0 8 (gather (apart 8 cell))
  gathered_open = subst (HasOpen cells from 0 8) (sym (gathered cell))
      (next_open 7 _ (omega arith) (next_open 6 _ (omega arith) (next_open 5 _ (omega arith) (next_open 4 _ (omega arith)
      (next_open 3 _ (omega arith) (next_open 2 _ (omega arith) (next_open 1 _ (omega arith) first_open)))))))
