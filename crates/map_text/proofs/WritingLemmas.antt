-- Writing a text piece by piece.
use Rattle.std.proofs.Common.{◌≡◌, ℕ, suc, ◌+◌, ◌-◌, ◌*◌, ◌<◌, ◌≤◌, Bool, List, [], ◌∷◌, ◌++◌, take, drop, map, refl, sym, ap, ◌∙◌, append_assoc, arith}
use Rattle.std.specs.Prelude.{decimal, codes}
use Rattle.std.proofs.lemmas.List.{append-nil}
use Rattle.std.proofs.Math.Nat.{suc-mul}
use Rattle.fleet_base.specs.Terrain.{Terrain}
use Rattle.map_text.specs.MapGrammar.{row}
use Rattle.map_text.specs.MapText.{letter_of, rows_text, canonical}

-- the parts in the order in which they are written
regroup : (a b c d r : List ℕ) → ((((a ++ 10 ∷ []) ++ (b ++ 10 ∷ [])) ++ (c ++ 10 ∷ [])) ++ (d ++ 10 ∷ [])) ++ r ≡ a ++ 10 ∷ (b ++ 10 ∷ (c ++ 10 ∷ (d ++ 10 ∷ r)))
regroup a b c d r = simp append_assoc

assembled : (g : Terrain) → (((codes "type octile\n" ++ ((codes "height" ++ 32 ∷ decimal g.height) ++ 10 ∷ [])) ++ ((codes "width" ++ 32 ∷ decimal g.width) ++ 10 ∷ [])) ++ codes "map\n") ++ rows_text g.width g.height g.cells ≡ canonical g
unfolding canonical
assembled g = regroup (codes "type octile") (codes "height" ++ 32 ∷ decimal g.height) (codes "width" ++ 32 ∷ decimal g.width) (codes "map") (rows_text g.width g.height g.cells)

-- the same, told by the texts that were written so far
pub chained : (g : Terrain) (h w : ℕ) (cells : List Bool) (a b c d e : List ℕ) → h ≡ g.height → w ≡ g.width → cells ≡ g.cells
    → a ≡ codes "type octile\n" → b ≡ a ++ ((codes "height" ++ 32 ∷ decimal h) ++ 10 ∷ []) → c ≡ b ++ ((codes "width" ++ 32 ∷ decimal w) ++ 10 ∷ []) → d ≡ c ++ codes "map\n" → e ≡ d ++ rows_text w h cells → e ≡ canonical g
chained g h w cells a b c d e p q r u x y z m = rw (m, z, y, x, u, p, q, r) (assembled g)

-- one row more
pub more_rows : (text more : List ℕ) (width count i : ℕ) (rest row after : List Bool) (whole : List ℕ) → i < count → row ≡ take width rest → after ≡ drop width rest → more ≡ text ++ (map letter_of row ++ 10 ∷ [])
    → text ++ rows_text width (count - i) rest ≡ whole → more ++ rows_text width (count - (i + 1)) after ≡ whole
unfolding rows_text
more_rows text more width count i rest row after whole lt r a m so_far =
    let k : count - i ≡ suc (count - (i + 1)) = omega arith in
    let one : text ++ rows_text width (count - i) rest ≡ text ++ (map letter_of (take width rest) ++ 10 ∷ rows_text width (count - (i + 1)) (drop width rest)) = rw k refl in
    rw (m, r, a) (simp append_assoc (sym one ∙ so_far))

-- all rows are written
pub no_more_rows : (text : List ℕ) (width count i : ℕ) (rest : List Bool) (whole : List ℕ) → count ≤ i → text ++ rows_text width (count - i) rest ≡ whole → text ≡ whole
unfolding rows_text
no_more_rows text width count i rest whole le so_far =
    let k : count - i ≡ 0 = omega arith in
    let one : text ++ rows_text width (count - i) rest ≡ text = rw k (append-nil text) in
    sym one ∙ so_far

-- how many cells are left after a row
pub shorter_rest : (n m count i width : ℕ) → i < count → n ≡ (count - i) * width → m ≡ n - width → m ≡ (count - (i + 1)) * width
shorter_rest n m count i width lt e f =
    let k : count - i ≡ suc (count - (i + 1)) = omega arith in
    let s : (count - i) * width ≡ (count - (i + 1)) * width + width = ap (λ (x : ℕ). x * width) k ∙ suc-mul (count - (i + 1)) width in
    omega (arith, s, e, f)
