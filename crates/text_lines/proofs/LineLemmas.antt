-- The first line of a text, and the lines after it.
use Rattle.std.proofs.Common.{◌≡◌, ℕ, ◌+◌, ◌<◌, true, List, [], ◌∷◌, length, take, drop, map, Some, None, refl, ap, ◌∙◌, arith}
use Rattle.std.specs.Prelude.{position}
use Rattle.std.specs.List.{slice_split}
use Rattle.std.proofs.lemmas.List.Splits.{length-slice_split}
use Rattle.text_lines.specs.Lines.{is_line_feed, trimmed, is_filled, without_empty_end, lines_of}
use Rattle.text_lines.proofs.Cuts.{no_place, cut_first, one_piece}

-- the empty end is looked for after the first piece
pub goes_on : (x : List ℕ) (xs : List (List ℕ)) → 0 < length xs → without_empty_end (x ∷ xs) ≡ x ∷ without_empty_end xs
goes_on x [] h = absurd (omega arith)
goes_on x (y ∷ ys) h = refl

pub filled : (xs : List ℕ) → 0 < length xs → is_filled xs ≡ true
filled [] h = absurd (omega arith)
filled (x ∷ xs) h = refl

-- a text with a line feed
pub line_cut : (text : List ℕ) (end : ℕ) → position is_line_feed text ≡ Some end → lines_of text ≡ trimmed (take end text) ∷ lines_of (drop (end + 1) text)
unfolding lines_of
line_cut text end h =
    let some : 0 < length (slice_split is_line_feed (drop (end + 1) text)) = omega (arith, length-slice_split is_line_feed (drop (end + 1) text)) in
    ap (λ (pieces : List (List ℕ)). map trimmed (without_empty_end pieces)) (cut_first is_line_feed text end 0 h) ∙ ap (map trimmed) (goes_on (take end text) (slice_split is_line_feed (drop (end + 1) text)) some)

-- a text without one
pub line_last : (text : List ℕ) → 0 < length text → position is_line_feed text ≡ None → lines_of text ≡ trimmed text ∷ lines_of []
unfolding lines_of
line_last text some h =
    ap (λ (pieces : List (List ℕ)). map trimmed (without_empty_end pieces)) (one_piece is_line_feed text (no_place is_line_feed text h)) ∙ rw (filled text some) refl

-- an empty text
pub no_line : (text : List ℕ) → length text ≡ 0 → lines_of text ≡ []
unfolding lines_of
no_line [] h = refl
no_line (b ∷ bs) h = absurd (omega arith)
