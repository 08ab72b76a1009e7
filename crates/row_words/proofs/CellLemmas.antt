-- A word with a place for each cell of a list.
use Rattle.std.proofs.Common.{◌≡◌, ℕ, ◌+◌, ◌-◌, ◌*◌, ◌%◌, ◌^◌, ◌<◌, ◌≤◌, ◌⊎◌, ◌↔◌, Bool, true, false, List, length, Some, slice_get, arith, inl, inr, refl, sym, ◌∙◌, ap}
use Rattle.std.specs.Int.{from_bool}
use Rattle.std.proofs.lemmas.Bool.{cases_lt}
use Rattle.std.proofs.lemmas.Option.{slice_get_within, same_Some}
use Rattle.row_words.specs.Words.{IsSet}
use Rattle.row_words.specs.Cells.{HasOpen}
use Rattle.row_words.proofs.WordLemmas.{set_in_pow, is_empty}
use Rattle.row_words.proofs.ShiftLemmas.{set_in_raised}

-- the word of one cell
pub set_in_cell : (cell : Bool) (i : ℕ) → IsSet (from_bool cell) i ↔ ((i ≡ 0) × (cell ≡ true))
set_in_cell true i = (λ set. ((set_in_pow 0 i).0 set, refl), λ same. (set_in_pow 0 i).1 same.0)
set_in_cell false i = (λ set. absurd (is_empty 0 refl i set), λ same. cc)

-- no place
pub none_open : (cells : List Bool) (from first end : ℕ) → end ≤ first → HasOpen cells from first end 0
none_open cells from first end none i = (
  λ set. absurd (is_empty 0 refl i set),
  λ (after, before, is_open). absurd (omega arith),
)

-- the place of one cell
pub one_open : (cells : List Bool) (from place : ℕ) (cell : Bool) → slice_get cells (from + place) ≡ Some cell → place < 64
    → HasOpen cells from place (place + 1) (from_bool cell * 2 ^ place % 2 ^ 64)
one_open cells from place cell at within i = (
  λ set. (let raised : (j : ℕ) × (i ≡ place + j) × (i < 64) × IsSet (from_bool cell) j = (set_in_raised (from_bool cell) place i).0 set in
      let mine : (raised.0 ≡ 0) × (cell ≡ true) = (set_in_cell cell raised.0).0 raised.3 in
      let same : from + i ≡ from + place = omega (arith, raised.1, mine.0) in
      (omega (arith, raised.1), omega (arith, raised.1, mine.0), ap (λ (k : ℕ). slice_get cells k) same ∙ at ∙ ap (λ (b : Bool). Some b) mine.1)),
  λ (after, before, is_open).
      let same : from + place ≡ from + i = omega arith in
      let yes : cell ≡ true = same_Some cell true (sym at ∙ ap (λ (k : ℕ). slice_get cells k) same ∙ is_open) in
      (set_in_raised (from_bool cell) place i).1 (0, omega arith, omega arith, (set_in_cell cell 0).1 (refl, yes)),
)

-- the places of two words side by side
pub both_open : (cells : List Bool) (from first middle last end low high word : ℕ) → first ≤ middle → middle ≤ last → last ≡ end
    → HasOpen cells from first middle low → HasOpen cells from middle last high → ((i : ℕ) → IsSet word i ↔ (IsSet low i ⊎ IsSet high i)) → HasOpen cells from first end word
both_open cells from first middle last end low high word up on same are_low are_high either i = (
  λ set. elim ((either i).0 set) [
    | inl in_low ↦ (let is = (are_low i).0 in_low in (is.0, omega (arith, is.1), is.2))
    | inr in_high ↦ (let is = (are_high i).0 in_high in (omega (arith, is.0), omega (arith, is.1), is.2))
  ],
  λ (after, before, is_open). (either i).1 (elim (cases_lt i middle) [
    | inl below ↦ inl ((are_low i).1 (after, below, is_open))
    | inr above ↦ inr ((are_high i).1 (above, omega arith, is_open))
  ]),
)

-- the places of a word of cells from another one on, raised to where those cells are
pub raised_open : (cells : List Bool) (from end word : ℕ) → from + end ≤ 64 → HasOpen cells from 0 end word → HasOpen cells 0 from (from + end) (word * 2 ^ from % 2 ^ 64)
raised_open cells from end word within are i = (
  λ set. (let raised : (j : ℕ) × (i ≡ from + j) × (i < 64) × IsSet word j = (set_in_raised word from i).0 set in
      let is : (0 ≤ raised.0) × (raised.0 < end) × (slice_get cells (from + raised.0) ≡ Some true) = (are raised.0).0 raised.3 in
      let same : 0 + i ≡ from + raised.0 = omega (arith, raised.1) in
      (omega (arith, raised.1), omega (arith, raised.1, is.1), ap (λ (k : ℕ). slice_get cells k) same ∙ is.2)),
  λ (after, before, is_open).
      let same : from + (i - from) ≡ 0 + i = omega arith in
      (set_in_raised word from i).1 (i - from, omega arith, omega arith, (are (i - from)).1 (omega arith, omega arith, ap (λ (k : ℕ). slice_get cells k) same ∙ is_open)),
)

-- the places of all cells
pub all_open : (cells : List Bool) (word : ℕ) → HasOpen cells 0 0 (length cells) word → (i : ℕ) → IsSet word i ↔ (slice_get cells i ≡ Some true)
all_open cells word are i =
    let same : 0 + i ≡ i = omega arith in (
      λ set. ap (λ (k : ℕ). slice_get cells k) (sym same) ∙ ((are i).0 set).2,
      λ is_open. (are i).1 (omega arith, slice_get_within cells i true is_open, ap (λ (k : ℕ). slice_get cells k) same ∙ is_open),
    )
