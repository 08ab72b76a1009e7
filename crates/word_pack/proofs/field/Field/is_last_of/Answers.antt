use Rattle.std.proofs.Common.{eq-eqb, eqb-true}
use Rattle.word_pack.proofs.BitLemmas.{below_from-shr, shr_from-below}
use Rattle.word_pack.proofs.field.Field.is_last_of.Goals as goal

pub returns : goal.returns
returns c = (λ t. below_from-shr _ _ (eqb-true _ _ t), λ below. eq-eqb _ _ (shr_from-below _ _ below))
