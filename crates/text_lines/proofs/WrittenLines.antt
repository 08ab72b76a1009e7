-- What is written is cut and read again: lines, two fields, and decimal numbers.
use Rattle.std.proofs.Common.{◌≡◌, ℕ, suc, ◌+◌, ◌-◌, ◌*◌, ◌%◌, ◌^◌, ◌<◌, ◌≤◌, Bool, true, false, List, [], ◌∷◌, ◌++◌, length, get_or, map, Some, refl, ap, ◌∙◌, arith}
use Rattle.std.specs.Prelude.{filter, All, decimal, ◌&&◌, ◌==◌}
use Rattle.std.specs.List.{slice_split, suffix_len, list_all, AllByRecursion}
use Rattle.std.proofs.lemmas.Bool.{leb-true}
use Rattle.std.proofs.lemmas.Bool.Decides.{nat_tests}
use Rattle.std.proofs.lemmas.List.{take_all, length-append, get_or-append-add}
use Rattle.std.proofs.lemmas.List.Elements.{All-from_recursion, All-get_or}
use Rattle.std.proofs.lemmas.List.Splits.{slice_split_at, slice_split_none, length-slice_split}
use Rattle.std.proofs.lemmas.List.Sums.{fold_push, suffix_len_is}
use Rattle.std.proofs.lemmas.Fmt.{decimal_by_steps, decimal_nonempty}
use Rattle.text_lines.specs.Lines.{is_line_feed, is_dropped, trimmed, is_filled, without_empty_end, lines_of}
use Rattle.text_lines.specs.Fields.{is_blank, fields_of}
use Rattle.text_lines.specs.Numbers.{is_digit, number_of, value_of}
use Rattle.text_lines.proofs.LineLemmas.{goes_on, filled}
use Rattle.text_lines.proofs.NumberLemmas.{number_is}

-- ---- lines

-- a line that was written with its line feed
pub written_line : (line rest : List ℕ) → All (λ b. is_line_feed b ≡ false) line → trimmed line ≡ line → lines_of (line ++ 10 ∷ rest) ≡ line ∷ lines_of rest
unfolding lines_of
written_line line rest none same =
    let some : 0 < length (slice_split is_line_feed rest) = omega (arith, length-slice_split is_line_feed rest) in
    ap (λ (pieces : List (List ℕ)). map trimmed (without_empty_end pieces)) (slice_split_at is_line_feed line 10 rest none refl)
    ∙ ap (map trimmed) (goes_on line (slice_split is_line_feed rest) some)
    ∙ ap (λ (l : List ℕ). l ∷ map trimmed (without_empty_end (slice_split is_line_feed rest))) same

-- a line none of whose bytes is dropped
pub trimmed_none : (xs : List ℕ) → AllByRecursion (λ b. is_dropped b ≡ false) xs → trimmed xs ≡ xs
trimmed_none xs h =
    let none : suffix_len is_dropped xs ≡ length xs - length xs = suffix_len_is is_dropped xs (length xs) 0 (omega arith) (λ k a b. absurd (omega arith)) (λ some. All-get_or (λ b. is_dropped b ≡ false) xs (length xs - 1) 0 (omega arith) (All-from_recursion (λ b. is_dropped b ≡ false) xs h)) in
    rw none (take_all _ xs (omega arith))

-- ---- fields

-- two fields with a space between them
pub written_fields : (a b : List ℕ) → All (λ x. is_blank x ≡ false) a → All (λ x. is_blank x ≡ false) b → 0 < length a → 0 < length b → fields_of (a ++ 32 ∷ b) ≡ a ∷ b ∷ []
unfolding fields_of
written_fields a b p q some more =
    ap (filter is_filled) (slice_split_at is_blank a 32 b p refl) ∙ rw (slice_split_none is_blank b q, filled a some, filled b more) refl

-- ---- digits

and_parts : (a b : Bool) → (a && b) ≡ true → (a ≡ true) × (b ≡ true)
and_parts true true e = (refl, refl)
and_parts true false e = absurd cc
and_parts false b e = absurd cc

-- what no digit is, no byte of a number is
pub each_digit : (p : ℕ → Bool) → ((d : ℕ) → is_digit d ≡ true → p d ≡ false) → (ds : List ℕ) → list_all is_digit ds ≡ true → AllByRecursion (λ b. p b ≡ false) ds
each_digit p never [] e = tt
each_digit p never (d ∷ ds) e = let q = and_parts (is_digit d) (list_all is_digit ds) e in (never d q.0, each_digit p never ds q.1)

digit_range : (d : ℕ) → is_digit d ≡ true → (48 ≤ d) × (d ≤ 57)
digit_range d e = let q = and_parts _ _ e in (leb-true _ _ q.0, leb-true _ _ q.1)

differs : (a b : ℕ) → ¬ (a ≡ b) → (a == b) ≡ false
differs a b ne = grind (arith, nat_tests)

pub no_digit_blank : (d : ℕ) → is_digit d ≡ true → is_blank d ≡ false
no_digit_blank d e = let r = digit_range d e in rw (differs d 32 (λ h. omega (arith, r.0)), differs d 9 (λ h. omega (arith, r.0))) refl

no_digit_dropped : (d : ℕ) → is_digit d ≡ true → is_dropped d ≡ false
no_digit_dropped d e = let r = digit_range d e in rw (differs d 32 (λ h. omega (arith, r.0)), differs d 9 (λ h. omega (arith, r.0)), differs d 13 (λ h. omega (arith, r.0))) refl

pub no_digit_feed : (d : ℕ) → is_digit d ≡ true → is_line_feed d ≡ false
no_digit_feed d e = let r = digit_range d e in differs d 10 (λ h. omega (arith, r.0))

-- a line that ends in a number
pub trimmed_number : (a ds : List ℕ) → 0 < length ds → list_all is_digit ds ≡ true → trimmed (a ++ 32 ∷ ds) ≡ a ++ 32 ∷ ds
trimmed_number a ds some e =
    let xs = a ++ 32 ∷ ds in
    let long : length xs ≡ length a + suc (length ds) = length-append a (32 ∷ ds) in
    let at : length xs - 1 ≡ length a + suc (length ds - 1) = omega arith in
    let last : is_dropped (get_or ds (length ds - 1) 0) ≡ false = All-get_or (λ b. is_dropped b ≡ false) ds (length ds - 1) 0 (omega arith) (All-from_recursion (λ b. is_dropped b ≡ false) ds (each_digit is_dropped no_digit_dropped ds e)) in
    let here : get_or xs (length xs - 1) 0 ≡ get_or ds (length ds - 1) 0 = ap (λ (i : ℕ). get_or xs i 0) at ∙ get_or-append-add a (32 ∷ ds) (suc (length ds - 1)) 0 in
    let none : suffix_len is_dropped xs ≡ length xs - length xs = suffix_len_is is_dropped xs (length xs) 0 (omega arith) (λ k l r. absurd (omega arith)) (λ s. ap is_dropped here ∙ last) in
    rw none (take_all _ xs (omega arith))

-- ---- decimal numbers

all_push : (ds : List ℕ) (d : ℕ) → list_all is_digit ds ≡ true → is_digit d ≡ true → list_all is_digit (ds ++ d ∷ []) ≡ true
all_push [] d e f = rw f refl
all_push (x ∷ xs) d e f = let p = and_parts (is_digit x) (list_all is_digit xs) e in rw (p.0, all_push xs d p.1 f) refl

pub decimal_digits : (n : ℕ) → n < 2 ^ 64 → list_all is_digit (decimal n) ≡ true
decimal_digits n small =
    let P : ℕ → List ℕ → Type 0 = λ k ds. list_all is_digit ds ≡ true in
    decimal_by_steps P
    (λ k lt. let d : is_digit (48 + k) ≡ true = grind (arith, nat_tests) in rw d refl)
    (λ k ds lt before. let d : is_digit (48 + k % 10) ≡ true = grind (arith, nat_tests) in all_push ds (48 + k % 10) before d)
    n small

decimal_value : (n : ℕ) → n < 2 ^ 64 → value_of (decimal n) ≡ n
decimal_value n small =
    let P : ℕ → List ℕ → Type 0 = λ k ds. value_of ds ≡ k in
    decimal_by_steps P
    (λ k lt. omega arith)
    (λ k ds lt before. fold_push (λ a b. 10 * a + (b - 48)) 0 ds (48 + k % 10) ∙ rw before (omega arith))
    n small

-- a number that was written is read as itself
pub decimal_is : (n : ℕ) → n < 2 ^ 64 → number_of (decimal n) ≡ Some n
decimal_is n small = number_is (decimal n) (filled (decimal n) (decimal_nonempty n small)) (decimal_digits n small) ∙ ap (λ (k : ℕ). Some k) (decimal_value n small)
