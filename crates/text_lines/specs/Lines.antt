-- The lines of a text. A byte is seen as its code.
use Rattle.std.specs.Prelude.{ℕ, ◌-◌, Bool, true, false, ◌==◌, ◌||◌, if◌then◌else◌, List, [], ◌∷◌, length, take, map}
use Rattle.std.specs.List.{slice_split, suffix_len}

abbrev pub is_line_feed : ℕ → Bool
is_line_feed b = b == 10

-- what is dropped at the end of a line: spaces, tabs and carriage returns
abbrev pub is_dropped : ℕ → Bool
is_dropped b = (b == 32) || (b == 9) || (b == 13)

-- a line without what is dropped at its end
abbrev pub trimmed : List ℕ → List ℕ
trimmed line = take (length line - suffix_len is_dropped line) line

-- there is at least one byte
abbrev pub is_filled : List ℕ → Bool
is_filled [] = false
is_filled (b ∷ bs) = true

-- the pieces of a cut text, without the last one where it is empty
abbrev pub without_empty_end : List (List ℕ) → List (List ℕ)
without_empty_end [] = []
without_empty_end (x ∷ []) = if is_filled x then x ∷ [] else []
without_empty_end (x ∷ y ∷ ys) = x ∷ without_empty_end (y ∷ ys)

-- the lines: the text is cut at each line feed, and what follows the last one is a line too, if it isn't empty
unfoldable pub lines_of : List ℕ → List (List ℕ)
lines_of text = map trimmed (without_empty_end (slice_split is_line_feed text))
