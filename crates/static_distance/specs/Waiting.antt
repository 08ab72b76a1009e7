-- Sets of cells that wait, a word for each span.
use Rattle.std.specs.Prelude.{◌≡◌, ◌≢◌, ℕ, ◌⊎◌, ◌↔◌, List, Some, slice_get}
use Rattle.row_words.specs.Words.{IsSet}
use Rattle.static_distance.specs.declared.span.Span.{Span}
use Rattle.static_distance.specs.declared.waiting.Waiting.{Waiting}

-- the span of that number is in the list
abbrev pub IsListed : List Span → ℕ → Type 0
IsListed spans n = (j : ℕ) × (s : Span) × (slice_get spans j ≡ Some s) × (s.number ≡ n)

-- the span has the places of the word beside those that it had, all other spans have what they had, and one that has places is in the list
pub record HasAdded (old new : Waiting) (span : Span) (word : ℕ) : Type 0 where
  pub mine : (w : ℕ) → slice_get new.words.items span.number ≡ Some w → (before : ℕ) × (slice_get old.words.items span.number ≡ Some before) × ((i : ℕ) → IsSet w i ↔ (IsSet before i ⊎ IsSet word i))
  pub others : (n : ℕ) → n ≢ span.number → slice_get new.words.items n ≡ slice_get old.words.items n
  pub listed : (n : ℕ) → IsListed old.spans.items n → IsListed new.spans.items n
  pub mine_listed : (before : ℕ) → slice_get old.words.items span.number ≡ Some before → (before ≢ 0) ⊎ IsListed new.spans.items span.number
  pub spans_are : (j : ℕ) (s : Span) → slice_get new.spans.items j ≡ Some s → ((i : ℕ) × (slice_get old.spans.items i ≡ Some s)) ⊎ (s ≡ span)
