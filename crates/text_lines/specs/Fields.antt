-- The fields of a line.
use Rattle.std.specs.Prelude.{ℕ, Bool, ◌==◌, ◌||◌, List, filter}
use Rattle.std.specs.List.{slice_split}
use Rattle.text_lines.specs.Lines.{is_filled}

-- a space or a tab
abbrev pub is_blank : ℕ → Bool
is_blank b = (b == 32) || (b == 9)

-- the fields: the maximal runs of bytes without blanks
unfoldable pub fields_of : List ℕ → List (List ℕ)
fields_of line = filter is_filled (slice_split is_blank line)
