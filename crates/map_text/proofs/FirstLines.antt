-- A fault depends on the lines up to its own alone.
use Rattle.std.proofs.Common.{◌≡◌, ℕ, zero, suc, ◌+◌, ◌-◌, ◌≤◌, ◌<◌, Bool, List, [], ◌∷◌, ◌++◌, get_or, take, drop, Result, Ok, Err, refl, sym, ap, ◌∙◌, arith, ◌⊎◌, inl, inr}
use Rattle.std.specs.Prelude.{codes, IfErr, IfSome}
use Rattle.std.proofs.lemmas.List.{get_or-take, drop-take}
use Rattle.fleet_base.specs.Terrain.{Terrain}
use Rattle.text_lines.specs.Fields.{fields_of}
use Rattle.text_lines.specs.Numbered.{numbered_from}
use Rattle.text_lines.specs.Faults.{Fault, Gives, at, ◌>>=◌}
use Rattle.map_text.specs.declared.fault.MapKind.{MapKind}
use Rattle.map_text.specs.declared.fault.MapKind.TheVariants.{MissingRows, TrailingText}
use Rattle.map_text.specs.declared.fault.MapFault.{MapFault}
use Rattle.map_text.specs.declared.fault.MapFault.TheVariants.{At, Memory}
use Rattle.map_text.specs.MapGrammar.{fault_of, IsOfFirstLines, Sizes, Rows, line_at, header, size_of, fits_height, fits_width, sizes_of, row, rows, ending, map_of}
use Rattle.map_text.proofs.RowLemmas.{bind_ok}

-- ---- steps

never_both : {A : Type 0} (x : A) (f : Fault MapKind) → ¬ (Ok x ≡ Err f)
never_both x f e = cc

line_of : (n : ℕ) (kind : MapKind) (f : Fault MapKind) → record { line = n; kind = kind } ≡ f → n ≡ f.line
line_of n kind f e = ap (λ (g : Fault MapKind). g.line) e

at_err : {A : Type 0} (n : ℕ) (r : Result A MapKind) (f : Fault MapKind) → at n r ≡ Err f → n ≡ f.line
at_err n (Ok x) f e = absurd cc
at_err n (Err kind) f e = let is : record { line = n; kind = kind } ≡ f = cc in line_of n kind f is

-- the fault of two steps is that of the first, or that of the second
bind_err : {A B : Type 0} (r : Result A (Fault MapKind)) (g : A → Result B (Fault MapKind)) (f : Fault MapKind) → (r >>= g) ≡ Err f → (r ≡ Err f) ⊎ ((x : A) × (r ≡ Ok x) × (g x ≡ Err f))
bind_err (Ok x) g f e = inr (x, refl, e)
bind_err (Err d) g f e = let is : d ≡ f = cc in inl (ap (λ (h : Fault MapKind). Err h) is)

bind_left : {A B : Type 0} (r s : Result A (Fault MapKind)) (g : A → B) (f : Fault MapKind) → (r ≡ Err f → s ≡ Err f) → (r >>= λ x. Ok (g x)) ≡ Err f → (s >>= λ x. Ok (g x)) ≡ Err f
bind_left (Ok x) s g f same e = absurd cc
bind_left (Err d) s g f same e = let is : d ≡ f = cc in rw (same (ap (λ (h : Fault MapKind). Err h) is)) refl

bind_right : {A B : Type 0} (r : Result A (Fault MapKind)) (g h : A → Result B (Fault MapKind)) (f : Fault MapKind) → ((x : A) → g x ≡ Err f → h x ≡ Err f) → (r >>= g) ≡ Err f → (r >>= h) ≡ Err f
bind_right (Ok x) g h f same e = same x e
bind_right (Err d) g h f same e = let is : d ≡ f = cc in ap (λ (k : Fault MapKind). Err k) is

-- a line of the header, and the lines after it
step : {A B : Type 0} (n : ℕ) (r s : Result A MapKind) (g h : A → Result B (Fault MapKind)) (f : Fault MapKind) → (n ≤ f.line → s ≡ r) → ((x : A) → g x ≡ Err f → (n ≤ f.line) × (h x ≡ Err f)) → (at n r >>= g) ≡ Err f → (n ≤ f.line) × ((at n s >>= h) ≡ Err f)
step n (Ok x) s g h f same later e = let after = later x e in (after.0, rw (same after.0) after.1)
step n (Err kind) s g h f same later e =
    let is : record { line = n; kind = kind } ≡ f = cc in
    let le : n ≤ f.line = omega (arith, line_of n kind f is) in
    (le, rw (same le) (ap (λ (k : Fault MapKind). Err k) is))

-- ---- the header

same_line : (k number : ℕ) (lines others : List (List ℕ)) → take k others ≡ take k lines → 1 ≤ number → number ≤ k → line_at others number ≡ line_at lines number
same_line k number lines others same some le =
    let lt : number - 1 < k = omega arith in
    sym (get_or-take k others (number - 1) [] lt) ∙ ap (λ (xs : List (List ℕ)). get_or xs (number - 1) []) same ∙ get_or-take k lines (number - 1) [] lt

abbrev fourth : List (List ℕ) → ℕ → ℕ → Result Sizes (Fault MapKind)
fourth lines height width = at 4 (header (codes "map" ∷ []) (fields_of (line_at lines 4))) >>= λ mark. Ok (record { width = width; height = height })

abbrev third : List (List ℕ) → ℕ → Result Sizes (Fault MapKind)
third lines height = at 3 (size_of (codes "width") (fits_width height) (fields_of (line_at lines 3))) >>= fourth lines height

abbrev second : List (List ℕ) → Result Sizes (Fault MapKind)
second lines = at 2 (size_of (codes "height") fits_height (fields_of (line_at lines 2))) >>= third lines

sizes_err : (lines others : List (List ℕ)) (f : Fault MapKind) → take f.line others ≡ take f.line lines → sizes_of lines ≡ Err f → sizes_of others ≡ Err f
unfolding sizes_of
sizes_err lines others f same e =
    let line = λ (number : ℕ) (some : 1 ≤ number) (le : number ≤ f.line). ap fields_of (same_line f.line number lines others same some le) in
    (step 1 (header (codes "type" ∷ codes "octile" ∷ []) (fields_of (line_at lines 1))) (header (codes "type" ∷ codes "octile" ∷ []) (fields_of (line_at others 1))) (λ title. second lines) (λ title. second others) f
    (λ le. ap (header (codes "type" ∷ codes "octile" ∷ [])) (line 1 (omega arith) le))
    (λ title e1. let two = step 2 (size_of (codes "height") fits_height (fields_of (line_at lines 2))) (size_of (codes "height") fits_height (fields_of (line_at others 2))) (third lines) (third others) f
    (λ le. ap (size_of (codes "height") fits_height) (line 2 (omega arith) le))
    (λ height e2. let three = step 3 (size_of (codes "width") (fits_width height) (fields_of (line_at lines 3))) (size_of (codes "width") (fits_width height) (fields_of (line_at others 3))) (fourth lines height) (fourth others height) f
    (λ le. ap (size_of (codes "width") (fits_width height)) (line 3 (omega arith) le))
    (λ width e3. let four = step 4 (header (codes "map" ∷ []) (fields_of (line_at lines 4))) (header (codes "map" ∷ []) (fields_of (line_at others 4))) (λ mark. Ok (record { width = width; height = height })) (λ mark. Ok (record { width = width; height = height })) f
    (λ le. ap (header (codes "map" ∷ [])) (line 4 (omega arith) le))
    (λ mark e4. absurd cc) e3 in (omega (arith, four.0), four.1)) e2 in (omega (arith, three.0), three.1)) e1 in (omega (arith, two.0), two.1)) e).1

sizes_same : (k : ℕ) (lines others : List (List ℕ)) → 4 ≤ k → take k others ≡ take k lines → sizes_of others ≡ sizes_of lines
unfolding sizes_of
sizes_same k lines others le same =
    let one : line_at others 1 ≡ line_at lines 1 = same_line k 1 lines others same (omega arith) (omega arith) in
    let two : line_at others 2 ≡ line_at lines 2 = same_line k 2 lines others same (omega arith) (omega arith) in
    let three : line_at others 3 ≡ line_at lines 3 = same_line k 3 lines others same (omega arith) (omega arith) in
    let four : line_at others 4 ≡ line_at lines 4 = same_line k 4 lines others same (omega arith) (omega arith) in
    rw (one, two, three, four) refl

-- ---- the rows

rows_from : (width number count : ℕ) (lines : List (List ℕ)) (f : Fault MapKind) → rows width number count lines ≡ Err f → number ≤ f.line
unfolding rows
rows_from width number zero lines f e = absurd cc
rows_from width number (suc count) [] f e = let is : record { line = number; kind = MissingRows } ≡ f = cc in omega (arith, line_of number MissingRows f is)
rows_from width number (suc count) (line ∷ lines) f e =
    elim (bind_err (at number (row width line)) (λ first. rows width (number + 1) count lines >>= λ others. Ok (record { cells = first ++ others.cells; after = others.after })) f e) [
      | inl here ↦ omega (arith, at_err number (row width line) f here)
      | inr later ↦ elim (bind_err (rows width (number + 1) count lines) (λ others. Ok (record { cells = later.0 ++ others.cells; after = others.after })) f later.2) [
        | inl there ↦ omega (arith, rows_from width (number + 1) count lines f there)
        | inr never ↦ absurd (never_both (record { cells = later.0 ++ never.0.cells; after = never.0.after }) f never.2)
      ]
    ]

rows_err : (width number count k : ℕ) (lines others : List (List ℕ)) (f : Fault MapKind) → rows width number count lines ≡ Err f → f.line < number + k → take k others ≡ take k lines → rows width number count others ≡ Err f
unfolding rows
rows_err width number zero k lines others f e lt same = absurd cc
rows_err width number (suc count) zero lines others f e lt same = absurd (omega (arith, rows_from width number (suc count) lines f e))
rows_err width number (suc count) (suc k) [] [] f e lt same = e
rows_err width number (suc count) (suc k) [] (o ∷ os) f e lt same = absurd cc
rows_err width number (suc count) (suc k) (line ∷ lines) [] f e lt same = absurd cc
rows_err width number (suc count) (suc k) (line ∷ lines) (o ∷ os) f e lt same =
    let first-is : o ≡ line = cc in
    let rest-is : take k os ≡ take k lines = cc in
    rw first-is (bind_right (at number (row width line))
    (λ first. rows width (number + 1) count lines >>= λ others. Ok (record { cells = first ++ others.cells; after = others.after }))
    (λ first. rows width (number + 1) count os >>= λ others. Ok (record { cells = first ++ others.cells; after = others.after })) f
    (λ first later. bind_left (rows width (number + 1) count lines) (rows width (number + 1) count os) (λ others. record { cells = first ++ others.cells; after = others.after }) f
    (λ there. rows_err width (number + 1) count k lines os f there (omega arith) rest-is) later) e)

-- the same rows were read, and the lines after them begin in the same way
record ReadsSame (k : ℕ) (x y : Rows) : Type 0 where
  cells : y.cells ≡ x.cells
  after : take k y.after ≡ take k x.after

with_row : (k : ℕ) (first : List Bool) (x y z : Rows) → ReadsSame k x y → record { cells = first ++ x.cells; after = x.after } ≡ z → ReadsSame k z (record { cells = first ++ y.cells; after = y.after })
with_row k first x y z same is = record {
  cells = ap (λ (cells : List Bool). first ++ cells) same.cells ∙ ap (λ (r : Rows). r.cells) is;
  after = same.after ∙ ap (λ (r : Rows). take k r.after) is;
}

rows_ok : (width number count k m : ℕ) (lines others : List (List ℕ)) (x : Rows) → m ≡ count + k → rows width number count lines ≡ Ok x → take m others ≡ take m lines → (y : Rows) × (rows width number count others ≡ Ok y) × ReadsSame k x y
unfolding rows
rows_ok width number zero k m lines others x is e same =
    let read : record { cells = []; after = lines } ≡ x = cc in
    let all : m ≡ k = omega arith in
    let cells : [] ≡ x.cells = ap (λ (r : Rows). r.cells) read in
    let after : lines ≡ x.after = ap (λ (r : Rows). r.after) read in
    (record { cells = []; after = others }, refl, record { cells = cells; after = rw (← all) (same ∙ ap (take m) after) })
rows_ok width number (suc count) k m [] others x is e same = absurd cc
rows_ok width number (suc count) k zero (line ∷ lines) others x is e same = absurd (omega arith)
rows_ok width number (suc count) k (suc m) (line ∷ lines) [] x is e same = absurd cc
rows_ok width number (suc count) k (suc m) (line ∷ lines) (o ∷ os) x is e same =
    let first-is : o ≡ line = cc in
    let rest-is : take m os ≡ take m lines = cc in
    let a = bind_ok (at number (row width line)) (λ first. rows width (number + 1) count lines >>= λ others. Ok (record { cells = first ++ others.cells; after = others.after })) x e in
    let b = bind_ok (rows width (number + 1) count lines) (λ others. Ok (record { cells = a.0 ++ others.cells; after = others.after })) x a.2 in
    let read : record { cells = a.0 ++ b.0.cells; after = b.0.after } ≡ x = cc in
    let more = rows_ok width (number + 1) count k m lines os b.0 (omega arith) b.1 rest-is in
    let one : at number (row width o) ≡ Ok a.0 = rw first-is a.1 in
    let two : rows width (number + 1) count os ≡ Ok more.0 = more.1 in
    (record { cells = a.0 ++ more.0.cells; after = more.0.after }, rw (one, two) refl, with_row k a.0 b.0 more.0 x more.2 read)

-- ---- the end

ending_from : (number : ℕ) (lines : List (List ℕ)) (f : Fault MapKind) → ending (numbered_from number lines) ≡ Err f → number ≤ f.line
unfolding ending numbered_from
ending_from number [] f e = absurd cc
ending_from number ([] ∷ lines) f e = omega (arith, ending_from (number + 1) lines f e)
ending_from number ((b ∷ bs) ∷ lines) f e = let is : record { line = number; kind = TrailingText } ≡ f = cc in omega (arith, line_of number TrailingText f is)

ending_err : (number k : ℕ) (lines others : List (List ℕ)) (f : Fault MapKind) → ending (numbered_from number lines) ≡ Err f → f.line < number + k → take k others ≡ take k lines → ending (numbered_from number others) ≡ Err f
unfolding ending numbered_from
ending_err number k [] others f e lt same = absurd cc
ending_err number zero (line ∷ lines) others f e lt same = absurd (omega (arith, ending_from number (line ∷ lines) f e))
ending_err number (suc k) (line ∷ lines) [] f e lt same = absurd cc
ending_err number (suc k) ([] ∷ lines) (o ∷ os) f e lt same =
    let first-is : o ≡ [] = cc in
    let rest-is : take k os ≡ take k lines = cc in
    rw first-is (ending_err (number + 1) k lines os f e (omega arith) rest-is)
ending_err number (suc k) ((b ∷ bs) ∷ lines) (o ∷ os) f e lt same = let first-is : o ≡ b ∷ bs = cc in rw first-is e

-- ---- the whole

-- the lines from line 5 on
later_lines : (k : ℕ) (lines others : List (List ℕ)) → 4 ≤ k → take k others ≡ take k lines → take (k - 4) (drop 4 others) ≡ take (k - 4) (drop 4 lines)
later_lines k lines others le same =
    let is : 4 + (k - 4) ≡ k = omega arith in
    let here : take (4 + (k - 4)) others ≡ take (4 + (k - 4)) lines = rw is same in
    sym (drop-take 4 (k - 4) others) ∙ ap (drop 4) here ∙ drop-take 4 (k - 4) lines

-- nothing after the line of a fault counts
pub first_lines : (lines others : List (List ℕ)) (f : Fault MapKind) → map_of lines ≡ Err f → take f.line others ≡ take f.line lines → map_of others ≡ Err f
unfolding map_of
first_lines lines others f e same =
    elim (bind_err (sizes_of lines) (λ sizes. rows sizes.width 5 sizes.height (drop 4 lines) >>= λ found. ending (numbered_from (4 + sizes.height + 1) found.after) >>= λ end. Ok (record { width = sizes.width; height = sizes.height; cells = found.cells })) f e) [
      | inl here ↦ rw (sizes_err lines others f same here) refl
      | inr s ↦ elim (bind_err (rows s.0.width 5 s.0.height (drop 4 lines)) (λ found. ending (numbered_from (4 + s.0.height + 1) found.after) >>= λ end. Ok (record { width = s.0.width; height = s.0.height; cells = found.cells })) f s.2) [
        | inl here ↦ in_rows s.0 s.1 here
        | inr x ↦ elim (bind_err (ending (numbered_from (4 + s.0.height + 1) x.0.after)) (λ end. Ok (record { width = s.0.width; height = s.0.height; cells = x.0.cells })) f x.2) [
          | inl here ↦ in_ending s.0 s.1 x.0 x.1 here
          | inr never ↦ absurd (never_both (record { width = s.0.width; height = s.0.height; cells = x.0.cells }) f never.2)
        ]
      ]
    ]
  where
    in_rows : (s : Sizes) → sizes_of lines ≡ Ok s → rows s.width 5 s.height (drop 4 lines) ≡ Err f → map_of others ≡ Err f
    in_rows s is here =
        let from : 5 ≤ f.line = rows_from s.width 5 s.height (drop 4 lines) f here in
        let sizes : sizes_of others ≡ Ok s = sizes_same f.line lines others (omega arith) same ∙ is in
        let bad : rows s.width 5 s.height (drop 4 others) ≡ Err f = rows_err s.width 5 s.height (f.line - 4) (drop 4 lines) (drop 4 others) f here (omega arith) (later_lines f.line lines others (omega arith) same) in
        rw (sizes, bad) refl

    in_ending : (s : Sizes) → sizes_of lines ≡ Ok s → (x : Rows) → rows s.width 5 s.height (drop 4 lines) ≡ Ok x → ending (numbered_from (4 + s.height + 1) x.after) ≡ Err f → map_of others ≡ Err f
    in_ending s is x read here =
        let from : 4 + s.height + 1 ≤ f.line = ending_from (4 + s.height + 1) x.after f here in
        let sizes : sizes_of others ≡ Ok s = sizes_same f.line lines others (omega arith) same ∙ is in
        let y = rows_ok s.width 5 s.height (f.line - 4 - s.height) (f.line - 4) (drop 4 lines) (drop 4 others) x (omega arith) read (later_lines f.line lines others (omega arith) same) in
        let found : rows s.width 5 s.height (drop 4 others) ≡ Ok y.0 = y.1 in
        let bad : ending (numbered_from (4 + s.height + 1) y.0.after) ≡ Err f = ending_err (4 + s.height + 1) (f.line - 4 - s.height) x.after y.0.after f here (omega arith) y.2.after in
        rw (sizes, found, bad) refl

-- what a reader reports
pub reported : {X : Type 0} (view : X → Terrain) (answer : Result X MapFault) (lines : List (List ℕ)) → Gives fault_of view answer (map_of lines) → IfErr answer (λ e. IfSome (fault_of e) (λ f. IsOfFirstLines f lines))
reported view (Ok x) lines gives = tt
reported view (Err Memory) lines gives = tt
reported view (Err (At line kind)) lines gives = λ others same. first_lines lines others (record { line = line; kind = kind }) gives same
