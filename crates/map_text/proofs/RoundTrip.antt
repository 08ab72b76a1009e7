-- The canonical text of a grid is read as the grid.
use Rattle.std.proofs.Common.{◌≡◌, ℕ, zero, suc, ◌+◌, ◌*◌, ◌^◌, ◌<◌, ◌≤◌, Bool, true, false, ltb, List, [], ◌∷◌, ◌++◌, length, take, drop, map, Some, Ok, refl, sym, ap, ◌∙◌, arith}
use Rattle.std.specs.Prelude.{All, decimal, codes, ◌==◌, nat_le}
use Rattle.std.specs.List.{list_all, AllByRecursion}
use Rattle.std.proofs.lemmas.Bool.{le-leb}
use Rattle.std.proofs.lemmas.Bool.Decides.{nat_tests}
use Rattle.std.proofs.lemmas.List.{take-append-drop, length-take-le, length-drop, length-map, nil_from_length}
use Rattle.std.proofs.lemmas.List.Elements.{All-from_recursion}
use Rattle.std.proofs.lemmas.Fmt.{decimal_nonempty}
use Rattle.std.proofs.Math.Nat.{suc-mul, mul_comm}
use Rattle.fleet_base.specs.Terrain.{Terrain, IsTerrain}
use Rattle.text_lines.specs.Lines.{is_line_feed, is_dropped, lines_of}
use Rattle.text_lines.specs.Fields.{is_blank, fields_of}
use Rattle.text_lines.specs.Numbered.{numbered_from}
use Rattle.text_lines.proofs.WrittenLines.{trimmed_none, written_line, written_fields, decimal_is, decimal_digits, each_digit, no_digit_feed, no_digit_blank, trimmed_number}
use Rattle.map_text.specs.MapGrammar.{size_in, fits_height, fits_width, is_open_letter, is_letter, row, rows, ending, sizes_of, map_of}
use Rattle.map_text.specs.MapText.{letter_of, line_then, rows_text, canonical}

-- ---- rows

letters_are : (cs : List Bool) → list_all is_letter (map letter_of cs) ≡ true
letters_are [] = refl
letters_are (true ∷ cs) = letters_are cs
letters_are (false ∷ cs) = letters_are cs

letters_open : (cs : List Bool) → map is_open_letter (map letter_of cs) ≡ cs
letters_open [] = refl
letters_open (true ∷ cs) = ap (λ (xs : List Bool). true ∷ xs) (letters_open cs)
letters_open (false ∷ cs) = ap (λ (xs : List Bool). false ∷ xs) (letters_open cs)

no_feed : (cs : List Bool) → AllByRecursion (λ b. is_line_feed b ≡ false) (map letter_of cs)
no_feed [] = tt
no_feed (true ∷ cs) = (refl, no_feed cs)
no_feed (false ∷ cs) = (refl, no_feed cs)

none_dropped : (cs : List Bool) → AllByRecursion (λ b. is_dropped b ≡ false) (map letter_of cs)
none_dropped [] = tt
none_dropped (true ∷ cs) = (refl, none_dropped cs)
none_dropped (false ∷ cs) = (refl, none_dropped cs)

-- a row that was written
row_again : (cs : List Bool) → row (length cs) (map letter_of cs) ≡ Ok cs
row_again cs =
    let n : length (map letter_of cs) ≡ length cs = length-map cs letter_of in
    let t : ltb (length cs) (length cs) ≡ false = grind (arith, nat_tests) in
    rw (letters_are cs, n, t) (ap (λ (xs : List Bool). Ok xs) (letters_open cs))

-- rows that were written
rows_again : (width number count : ℕ) (cells : List Bool) → length cells ≡ count * width → rows width number count (lines_of (rows_text width count cells)) ≡ Ok (record { cells = cells; after = [] })
unfolding rows rows_text lines_of
rows_again width number zero cells e =
    let z : length cells ≡ 0 = omega arith in
    rw (nil_from_length cells z) refl
rows_again width number (suc count) cells e =
    let m = suc-mul count width in
    let first : length (take width cells) ≡ width = length-take-le width cells (omega arith) in
    let rest : length (drop width cells) ≡ count * width = omega (arith, length-drop width cells) in
    let line = map letter_of (take width cells) in
    let cut = written_line line (rows_text width count (drop width cells)) (All-from_recursion (λ b. is_line_feed b ≡ false) line (no_feed (take width cells))) (trimmed_none line (none_dropped (take width cells))) in
    let one : row width line ≡ Ok (take width cells) = ap (λ (w : ℕ). row w line) (sym first) ∙ row_again (take width cells) in
    let others = rows_again width (number + 1) count (drop width cells) rest in
    ap (rows width number (suc count)) cut ∙ rw (one, others) (ap (λ (xs : List Bool). Ok (record { cells = xs; after = [] })) (take-append-drop width cells))

-- ---- the header

feedless : (p : ℕ → Bool) (xs : List ℕ) → AllByRecursion (λ b. p b ≡ false) xs → All (λ b. p b ≡ false) xs
feedless p xs h = All-from_recursion (λ b. p b ≡ false) xs h

height_line : (n : ℕ) (rest : List ℕ) → n < 2 ^ 64 → lines_of (line_then (codes "height" ++ 32 ∷ decimal n) rest) ≡ (codes "height" ++ 32 ∷ decimal n) ∷ lines_of rest
height_line n rest small =
    let ds = decimal_digits n small in
    written_line (codes "height" ++ 32 ∷ decimal n) rest
    (feedless is_line_feed (codes "height" ++ 32 ∷ decimal n) (refl, (refl, (refl, (refl, (refl, (refl, (refl, each_digit is_line_feed no_digit_feed (decimal n) ds))))))))
    (trimmed_number (codes "height") (decimal n) (decimal_nonempty n small) ds)

width_line : (n : ℕ) (rest : List ℕ) → n < 2 ^ 64 → lines_of (line_then (codes "width" ++ 32 ∷ decimal n) rest) ≡ (codes "width" ++ 32 ∷ decimal n) ∷ lines_of rest
width_line n rest small =
    let ds = decimal_digits n small in
    written_line (codes "width" ++ 32 ∷ decimal n) rest
    (feedless is_line_feed (codes "width" ++ 32 ∷ decimal n) (refl, (refl, (refl, (refl, (refl, (refl, each_digit is_line_feed no_digit_feed (decimal n) ds)))))))
    (trimmed_number (codes "width") (decimal n) (decimal_nonempty n small) ds)

title_line : (rest : List ℕ) → lines_of (line_then (codes "type octile") rest) ≡ codes "type octile" ∷ lines_of rest
title_line rest = written_line (codes "type octile") rest (feedless is_line_feed (codes "type octile") (refl, (refl, (refl, (refl, (refl, (refl, (refl, (refl, (refl, (refl, (refl, tt)))))))))))) refl

map_line : (rest : List ℕ) → lines_of (line_then (codes "map") rest) ≡ codes "map" ∷ lines_of rest
map_line rest = written_line (codes "map") rest (feedless is_line_feed (codes "map") (refl, (refl, (refl, tt)))) refl

height_fields : (n : ℕ) → n < 2 ^ 64 → fields_of (codes "height" ++ 32 ∷ decimal n) ≡ codes "height" ∷ decimal n ∷ []
height_fields n small = written_fields (codes "height") (decimal n) (feedless is_blank (codes "height") (refl, (refl, (refl, (refl, (refl, (refl, tt)))))))
    (feedless is_blank (decimal n) (each_digit is_blank no_digit_blank (decimal n) (decimal_digits n small))) (omega arith) (decimal_nonempty n small)

width_fields : (n : ℕ) → n < 2 ^ 64 → fields_of (codes "width" ++ 32 ∷ decimal n) ≡ codes "width" ∷ decimal n ∷ []
width_fields n small = written_fields (codes "width") (decimal n) (feedless is_blank (codes "width") (refl, (refl, (refl, (refl, (refl, tt))))))
    (feedless is_blank (decimal n) (each_digit is_blank no_digit_blank (decimal n) (decimal_digits n small))) (omega arith) (decimal_nonempty n small)

-- the lines of a canonical text
canonical_lines : (g : Terrain) → IsTerrain g → lines_of (canonical g)
    ≡ codes "type octile" ∷ (codes "height" ++ 32 ∷ decimal g.height) ∷ (codes "width" ++ 32 ∷ decimal g.width) ∷ codes "map" ∷ lines_of (rows_text g.width g.height g.cells)
unfolding canonical
canonical_lines g is =
    let h : g.height < 2 ^ 64 = omega (arith, is.high.1) in
    let w : g.width < 2 ^ 64 = omega (arith, is.wide.1) in
    title_line _ ∙ rw (height_line g.height _ h, width_line g.width _ w, map_line (rows_text g.width g.height g.cells)) refl

size_again : (fits : ℕ → Bool) (n : ℕ) → 1 ≤ n → fits n ≡ true → size_in fits (Some n) ≡ Ok n
size_again fits n some e = let z : (n == 0) ≡ false = grind (arith, nat_tests) in rw (z, e) refl

-- a header that was written
sizes_again : (g : Terrain) (rest : List (List ℕ)) → IsTerrain g → sizes_of (codes "type octile" ∷ (codes "height" ++ 32 ∷ decimal g.height) ∷ (codes "width" ++ 32 ∷ decimal g.width) ∷ codes "map" ∷ rest) ≡ Ok (record { width = g.width; height = g.height })
unfolding sizes_of fields_of
sizes_again g rest is =
    let hs : g.height < 2 ^ 64 = omega (arith, is.high.1) in
    let ws : g.width < 2 ^ 64 = omega (arith, is.wide.1) in
    let fh : fits_height g.height ≡ true = le-leb _ _ is.high.1 in
    let fa : nat_le g.width 2048 ≡ true = le-leb _ _ is.wide.1 in
    let fb : nat_le (g.width * g.height) 1048576 ≡ true = le-leb _ _ is.area in
    let fw : fits_width g.height g.width ≡ true = rw (fa, fb) refl in
    rw (height_fields g.height hs, width_fields g.width ws, decimal_is g.height hs, decimal_is g.width ws, size_again fits_height g.height is.high.0 fh, size_again (fits_width g.height) g.width is.wide.0 fw) refl

-- the grammar gives the grid back
pub read_again : (g : Terrain) → IsTerrain g → map_of (lines_of (canonical g)) ≡ Ok g
unfolding map_of ending numbered_from
read_again g is =
    let cells : length g.cells ≡ g.height * g.width = is.full ∙ mul_comm g.width g.height in
    ap map_of (canonical_lines g is) ∙ rw (sizes_again g (lines_of (rows_text g.width g.height g.cells)) is, rows_again g.width 5 g.height g.cells cells) refl
