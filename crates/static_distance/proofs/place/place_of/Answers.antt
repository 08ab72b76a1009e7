use Rattle.std.proofs.Common.{bit_and, ap, sym, ◌∙◌, ◌≡◌, ◌-◌, ◌/◌, ◌%◌, ◌^◌, ℕ}
use Rattle.std.proofs.lemmas.Nat.{one_shl, and_mask}
use Rattle.std.specs.Int.Count.{count_trailing_zeros}
use Rattle.static_distance.proofs.place.place_of.Goals as goal

pub returns-then-width-shift-clause-place : goal.returns-then-width-shift-clause-place
returns-then-width-shift-clause-place c =
    let cell = c.args.cell.0 in
    let shift = count_trailing_zeros 32 c.width-width.result in
    let power : c.width-width.result ≡ 2 ^ shift = c.if-width-shift.true ∙ one_shl shift 32 c.if-shift-lt32.true in
    let width : 2 ^ shift ≡ c.args.grid.now.width = sym power ∙ c.width-width.ensures in (
      ap (λ (n : ℕ). bit_and cell (n - 1)) power ∙ and_mask cell shift ∙ ap (λ (n : ℕ). cell % n) width,
      ap (λ (n : ℕ). cell / n) width,
    )
