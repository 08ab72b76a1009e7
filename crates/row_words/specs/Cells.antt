-- A word with a place for each cell of a list.
use Rattle.std.specs.Prelude.{◌≡◌, ℕ, ◌+◌, ◌<◌, ◌≤◌, ◌↔◌, Bool, true, List, Some, slice_get}
use Rattle.row_words.specs.Words.{IsSet}

-- The word has the places from `first` to before `end` whose cells are true, and no others. The cell of place 0 is the one at `from`.
abbrev pub HasOpen : List Bool → ℕ → ℕ → ℕ → ℕ → Type 0
HasOpen cells from first end word = (i : ℕ) → IsSet word i ↔ ((first ≤ i) × (i < end) × (slice_get cells (from + i) ≡ Some true))
