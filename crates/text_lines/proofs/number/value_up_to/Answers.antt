use Rattle.std.proofs.Common.{◌∙◌, refl}
use Rattle.text_lines.proofs.NumberLemmas.{too_great}
use Rattle.text_lines.proofs.number.value_up_to.Goals as goal

pub returns-in_err-value : goal.returns-in_err-value
returns-in_err-value c = c.from_residual.ensures ∙ too_great c.args.digits.now c.loop-byte.byte-index c.loop-byte.value _ c.args.limit c.loop-byte-test.true refl c.loop-byte.invariant.0 c.in_err-value.ensures
