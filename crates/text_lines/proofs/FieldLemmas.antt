-- The first field of a line, and the fields after it.
use Rattle.std.proofs.Common.{◌≡◌, ℕ, zero, suc, ◌+◌, ◌<◌, Bool, true, false, cond, not, List, [], ◌∷◌, length, get_or, take, drop, Some, None, refl, ap, subst, ◌∙◌, arith}
use Rattle.std.specs.Prelude.{position, filter}
use Rattle.std.specs.List.{slice_split, onto_first, position_or_len}
use Rattle.std.proofs.lemmas.List.{drop_all, get_or-drop, length-drop, length-take}
use Rattle.std.proofs.lemmas.List.Quantifiers.{position-Some}
use Rattle.text_lines.specs.Lines.{is_filled}
use Rattle.text_lines.specs.Fields.{is_blank, fields_of}
use Rattle.text_lines.proofs.Cuts.{place, no_place, cut_first, one_piece}
use Rattle.text_lines.proofs.LineLemmas.{filled}

-- a byte of a field
abbrev pub is_mark : ℕ → Bool
is_mark b = not (is_blank b)

-- the blanks before the first field
skip_by : (x : ℕ) (xs : List ℕ) (b : Bool) → is_blank x ≡ b → fields_of xs ≡ fields_of (drop (position_or_len is_mark xs) xs)
    → filter is_filled (cond b ([] ∷ slice_split is_blank xs) (onto_first x (slice_split is_blank xs))) ≡ fields_of (drop (cond (not (not b)) (1 + position_or_len is_mark xs) 0) (x ∷ xs))
unfolding fields_of
skip_by x xs true e again = let k : 1 + position_or_len is_mark xs ≡ suc (position_or_len is_mark xs) = omega arith in rw k again
skip_by x xs false e again = rw e refl

skip : (xs : List ℕ) → fields_of xs ≡ fields_of (drop (position_or_len is_mark xs) xs)
unfolding fields_of
skip [] = refl
skip (x ∷ xs) = skip_by x xs (is_blank x) refl (skip xs)

blanks_skipped : (line : List ℕ) (start : ℕ) → position is_mark line ≡ Some start → fields_of line ≡ fields_of (drop start line)
blanks_skipped line start h = skip line ∙ rw ((place is_mark line start h).1) refl

-- a line of blanks
pub no_field : (line : List ℕ) → position is_mark line ≡ None → fields_of line ≡ []
unfolding fields_of
no_field line h =
    let all : drop (position_or_len is_mark line) line ≡ [] = drop_all _ line (no_place is_mark line h) in
    skip line ∙ rw all refl

both : (a : Bool) → not a ≡ true → a ≡ true → ⊥
both true h k = cc
both false h k = cc

-- a blank doesn't stand where a field begins
some_bytes : (line : List ℕ) (start end : ℕ) → position is_mark line ≡ Some start → position is_blank (drop start line) ≡ Some end → 0 < end
some_bytes line start zero h k =
    let a = (position-Some is_mark line start 0 h).1 in
    let b = (position-Some is_blank (drop start line) 0 0 k).1 in
    let same : get_or (drop start line) 0 0 ≡ get_or line start 0 = get_or-drop start line 0 0 ∙ ap (λ (i : ℕ). get_or line i 0) (omega arith) in
    absurd (both (is_blank (get_or line start 0)) a (subst (λ (x : ℕ). is_blank x ≡ true) same b))
some_bytes line start (suc n) h k = omega arith

-- a field at the front
field_cut : (rest : List ℕ) (end : ℕ) → 0 < end → position is_blank rest ≡ Some end → fields_of rest ≡ take end rest ∷ fields_of (drop (end + 1) rest)
unfolding fields_of
field_cut rest end some h =
    let c = place is_blank rest end h in
    let long : 0 < length (take end rest) = omega (arith, length-take end rest) in
    ap (filter is_filled) (cut_first is_blank rest end 0 h) ∙ rw (filled (take end rest) long) refl

field_last : (rest : List ℕ) → 0 < length rest → position is_blank rest ≡ None → fields_of rest ≡ rest ∷ fields_of []
unfolding fields_of
field_last rest some h = ap (filter is_filled) (one_piece is_blank rest (no_place is_blank rest h)) ∙ rw (filled rest some) refl

-- a field between the blanks before it and the blank that ends it
pub first_field : (line : List ℕ) (start end : ℕ) → position is_mark line ≡ Some start → position is_blank (drop start line) ≡ Some end → fields_of line ≡ take end (drop start line) ∷ fields_of (drop (end + 1) (drop start line))
first_field line start end h k = blanks_skipped line start h ∙ field_cut (drop start line) end (some_bytes line start end h k) k

-- a field up to the end of the line
pub last_field : (line : List ℕ) (start : ℕ) → position is_mark line ≡ Some start → position is_blank (drop start line) ≡ None → fields_of line ≡ drop start line ∷ fields_of []
last_field line start h k =
    let within = place is_mark line start h in
    let some : 0 < length (drop start line) = omega (arith, length-drop start line, within.0, within.1) in
    blanks_skipped line start h ∙ field_last (drop start line) some k
