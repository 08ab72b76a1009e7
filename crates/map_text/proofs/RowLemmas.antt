-- Reading rows one after the other, as a loop does, and how many cells they have.
use Rattle.std.proofs.Common.{◌≡◌, ℕ, zero, suc, ◌+◌, ◌-◌, ◌*◌, ◌≤◌, ◌<◌, Bool, true, false, cond, ltb, List, [], ◌∷◌, ◌++◌, length, map, Result, Ok, Err, refl, sym, ap, ◌∙◌, append_assoc, arith}
use Rattle.std.specs.List.{list_all}
use Rattle.std.proofs.lemmas.Bool.{ltb-false}
use Rattle.std.proofs.lemmas.List.{append-nil, length-append, length-map}
use Rattle.std.proofs.Math.Nat.{suc-mul}
use Rattle.text_lines.specs.Faults.{Fault, at, ◌>>=◌}
use Rattle.map_text.specs.declared.fault.MapKind.{MapKind}
use Rattle.map_text.specs.declared.fault.MapKind.TheVariants.{ShortRow, LongRow, BadChar, MissingRows}
use Rattle.map_text.specs.MapGrammar.{Rows, row, rows, is_letter, is_open_letter}

-- ---- one row after the other

-- what was read before, and what is still read
abbrev pub with_front : List Bool → Result Rows (Fault MapKind) → Result Rows (Fault MapKind)
with_front front read = read >>= λ x. Ok (record { cells = front ++ x.cells; after = x.after })

regroup : (front first : List Bool) (read : Result Rows (Fault MapKind)) → with_front front (read >>= λ x. Ok (record { cells = first ++ x.cells; after = x.after })) ≡ with_front (front ++ first) read
regroup front first (Ok x) = ap (λ (cells : List Bool). Ok (record { cells = cells; after = x.after })) (sym (append_assoc front first x.cells))
regroup front first (Err f) = refl

-- a row that is right
pub goes_on : (front : List Bool) (width count i : ℕ) (lines : List (List ℕ)) (line : List ℕ) (after : List (List ℕ)) (total : Result Rows (Fault MapKind)) → i < count → lines ≡ line ∷ after → row width line ≡ Ok (map is_open_letter line)
    → with_front front (rows width (5 + i) (count - i) lines) ≡ total → with_front (front ++ map is_open_letter line) (rows width (5 + (i + 1)) (count - (i + 1)) after) ≡ total
unfolding rows
goes_on front width count i lines line after total lt e h so_far =
    let k : count - i ≡ suc (count - (i + 1)) = omega arith in
    let n : 5 + (i + 1) ≡ 5 + i + 1 = omega arith in
    let one : with_front front (rows width (5 + i) (count - i) lines) ≡ with_front (front ++ map is_open_letter line) (rows width (5 + (i + 1)) (count - (i + 1)) after)
    = rw (k, e, h, n) (regroup front (map is_open_letter line) (rows width (5 + i + 1) (count - (i + 1)) after)) in
    sym one ∙ so_far

-- a row with a fault
pub bad_row : (front : List Bool) (width count i : ℕ) (lines : List (List ℕ)) (line : List ℕ) (after : List (List ℕ)) (kind : MapKind) (total : Result Rows (Fault MapKind)) → i < count → lines ≡ line ∷ after → row width line ≡ Err kind
    → with_front front (rows width (5 + i) (count - i) lines) ≡ total → total ≡ Err (record { line = 5 + i; kind = kind })
unfolding rows
bad_row front width count i lines line after kind total lt e h so_far =
    let k : count - i ≡ suc (count - (i + 1)) = omega arith in
    let one : with_front front (rows width (5 + i) (count - i) lines) ≡ Err (record { line = 5 + i; kind = kind }) = rw (k, e, h) refl in
    sym so_far ∙ one

-- a row that is missing
pub no_row : (front : List Bool) (width count i : ℕ) (lines : List (List ℕ)) (total : Result Rows (Fault MapKind)) → i < count → lines ≡ []
    → with_front front (rows width (5 + i) (count - i) lines) ≡ total → total ≡ Err (record { line = 5 + i; kind = MissingRows })
unfolding rows
no_row front width count i lines total lt e so_far =
    let k : count - i ≡ suc (count - (i + 1)) = omega arith in
    let one : with_front front (rows width (5 + i) (count - i) lines) ≡ Err (record { line = 5 + i; kind = MissingRows }) = rw (k, e) refl in
    sym so_far ∙ one

-- all rows were read
pub is_done : (front : List Bool) (width count i : ℕ) (lines : List (List ℕ)) (total : Result Rows (Fault MapKind)) → count ≤ i → with_front front (rows width (5 + i) (count - i) lines) ≡ total → total ≡ Ok (record { cells = front; after = lines })
unfolding rows
is_done front width count i lines total le so_far =
    let k : count - i ≡ 0 = omega arith in
    let one : with_front front (rows width (5 + i) (count - i) lines) ≡ Ok (record { cells = front; after = lines }) = rw k (ap (λ (cells : List Bool). Ok (record { cells = cells; after = lines })) (append-nil front)) in
    sym so_far ∙ one

-- ---- the number of cells

-- two steps that have no fault
pub bind_ok : {A B : Type 0} (r : Result A (Fault MapKind)) (f : A → Result B (Fault MapKind)) (y : B) → (r >>= f) ≡ Ok y → (x : A) × (r ≡ Ok x) × (f x ≡ Ok y)
bind_ok (Ok x) f y e = (x, refl, e)
bind_ok (Err d) f y e = absurd cc

-- a line that has no fault
pub at_ok : {A : Type 0} (n : ℕ) (r : Result A MapKind) (x : A) → at n r ≡ Ok x → r ≡ Ok x
at_ok n (Ok y) x e = let h : y ≡ x = cc in ap (λ z. Ok z) h
at_ok n (Err k) x e = absurd cc

row_by : (a b c : Bool) (x y : List Bool) → cond a (cond b (Err ShortRow) (cond c (Err LongRow) (Ok x))) (Err BadChar) ≡ Ok y → (b ≡ false) × (c ≡ false) × (x ≡ y)
row_by false b c x y e = absurd cc
row_by true true c x y e = absurd cc
row_by true false true x y e = absurd cc
row_by true false false x y e = (refl, refl, cc)

row_length : (width : ℕ) (line : List ℕ) (cells : List Bool) → row width line ≡ Ok cells → length cells ≡ width
row_length width line cells e =
    let h = row_by (list_all is_letter line) (ltb (length line) width) (ltb width (length line)) (map is_open_letter line) cells e in
    let a : width ≤ length line = ltb-false _ _ h.0 in
    let b : length line ≤ width = ltb-false _ _ h.1 in
    omega (arith, ap length h.2, length-map line is_open_letter)

pub rows_length : (width number count : ℕ) (lines : List (List ℕ)) (x : Rows) → rows width number count lines ≡ Ok x → length x.cells ≡ count * width
unfolding rows
rows_length width number zero lines x e =
    let h : [] ≡ x.cells = cc in
    let z : 0 * width ≡ 0 = omega arith in
    rw (← h) (sym z)
rows_length width number (suc count) [] x e = absurd cc
rows_length width number (suc count) (line ∷ lines) x e =
    let a = bind_ok (at number (row width line)) (λ first. rows width (number + 1) count lines >>= λ others. Ok (record { cells = first ++ others.cells; after = others.after })) x e in
    let b = bind_ok (rows width (number + 1) count lines) (λ others. Ok (record { cells = a.0 ++ others.cells; after = others.after })) x a.2 in
    let first : length a.0 ≡ width = row_length width line a.0 (at_ok number (row width line) a.0 a.1) in
    let others : length b.0.cells ≡ count * width = rows_length width (number + 1) count lines b.0 b.1 in
    let whole : a.0 ++ b.0.cells ≡ x.cells = cc in
    let more : suc count * width ≡ count * width + width = suc-mul count width in
    sym (ap length whole) ∙ length-append a.0 b.0.cells ∙ omega (arith, more)
