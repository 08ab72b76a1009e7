-- The letter of a move to a cell beside another, by the numbers of both.
use Rattle.std.proofs.Common.{◌≡◌, ℕ, ◌+◌, ◌-◌, ◌*◌, ◌/◌, ◌%◌, ◌<◌, ◌≤◌, ap, sym, ◌∙◌, arith}
use Rattle.std.proofs.Math.Nat.{add-div_right, add-mod_right, mod-lt}
use Rattle.std.proofs.lemmas.Nat.{mod-mul-add, div-mul-add, div-add-mod'}
use Rattle.std.proofs.lemmas.Grind.{common_steps}
use Rattle.fleet_base.specs.declared.grid.Cell.{Cell}
use Rattle.journal_lines.specs.Moves.{letter_of}

-- the letters by rows and columns
module _ (w : ℕ) (c d : Cell) where
  waits : c.0 / w ≡ d.0 / w → c.0 % w ≡ d.0 % w → 87 ≡ letter_of w c d
  unfolding letter_of
  waits row column = grind (arith, common_steps)

  goes_up : d.0 / w + 1 ≡ c.0 / w → 85 ≡ letter_of w c d
  unfolding letter_of
  goes_up row = grind (arith, common_steps)

  goes_left : c.0 / w ≡ d.0 / w → d.0 % w + 1 ≡ c.0 % w → 76 ≡ letter_of w c d
  unfolding letter_of
  goes_left row column = grind (arith, common_steps)

  goes_right : c.0 / w ≡ d.0 / w → c.0 % w + 1 ≡ d.0 % w → 82 ≡ letter_of w c d
  unfolding letter_of
  goes_right row column = grind (arith, common_steps)

  goes_down : c.0 / w + 1 ≡ d.0 / w → c.0 % w ≡ d.0 % w → 68 ≡ letter_of w c d
  unfolding letter_of
  goes_down row column = grind (arith, common_steps)

-- the next number, where the column isn't the last one
row_of_next : (n w : ℕ) → n % w + 1 < w → (n + 1) / w ≡ n / w
row_of_next n w less =
    let is : n + 1 ≡ n / w * w + (n % w + 1) = omega (arith, div-add-mod' n w) in
    ap (λ (m : ℕ). m / w) is ∙ div-mul-add (n / w) w (n % w + 1) less

column_of_next : (n w : ℕ) → n % w + 1 < w → (n + 1) % w ≡ n % w + 1
column_of_next n w less =
    let is : n + 1 ≡ n / w * w + (n % w + 1) = omega (arith, div-add-mod' n w) in
    ap (λ (m : ℕ). m % w) is ∙ mod-mul-add (n / w) w (n % w + 1) less

-- the number before, where the column isn't the first one
row_of_last : (n m w : ℕ) → 1 ≤ w → m + 1 ≡ n → 0 < n % w → m / w ≡ n / w
row_of_last n m w some next more =
    let less : n % w - 1 < w = omega (arith, mod-lt n some) in
    let is : m ≡ n / w * w + (n % w - 1) = omega (arith, div-add-mod' n w) in
    ap (λ (k : ℕ). k / w) is ∙ div-mul-add (n / w) w (n % w - 1) less

pub column_of_last : (n m w : ℕ) → 1 ≤ w → m + 1 ≡ n → 0 < n % w → m % w ≡ n % w - 1
column_of_last n m w some next more =
    let less : n % w - 1 < w = omega (arith, mod-lt n some) in
    let is : m ≡ n / w * w + (n % w - 1) = omega (arith, div-add-mod' n w) in
    ap (λ (k : ℕ). k % w) is ∙ mod-mul-add (n / w) w (n % w - 1) less

-- the letters by numbers
module _ (w : ℕ) (c d : Cell) where
  pub letter_waits : d.0 ≡ c.0 → 87 ≡ letter_of w c d
  letter_waits same = waits w c d (ap (λ (n : ℕ). n / w) (sym same)) (ap (λ (n : ℕ). n % w) (sym same))

  pub letter_up : 1 ≤ w → d.0 + w ≡ c.0 → 85 ≡ letter_of w c d
  letter_up some is = goes_up w c d (sym (add-div_right d.0 some) ∙ ap (λ (n : ℕ). n / w) is)

  pub letter_down : 1 ≤ w → c.0 + w ≡ d.0 → 68 ≡ letter_of w c d
  letter_down some is =
      goes_down w c d (sym (add-div_right c.0 some) ∙ ap (λ (n : ℕ). n / w) is) (sym (add-mod_right c.0 w) ∙ ap (λ (n : ℕ). n % w) is)

  pub letter_left : 1 ≤ w → d.0 + 1 ≡ c.0 → 0 < c.0 % w → 76 ≡ letter_of w c d
  letter_left some is more =
      goes_left w c d (sym (row_of_last c.0 d.0 w some is more)) (omega (arith, column_of_last c.0 d.0 w some is more))

  pub letter_right : c.0 + 1 ≡ d.0 → c.0 % w + 1 < w → 82 ≡ letter_of w c d
  letter_right is less =
      goes_right w c d (sym (row_of_next c.0 w less) ∙ ap (λ (n : ℕ). n / w) is) (sym (column_of_next c.0 w less) ∙ ap (λ (n : ℕ). n % w) is)
