use Rattle.row_words.proofs.WordLemmas.{set_in_shr}
use Rattle.row_words.proofs.places.lowered.Goals as goal

pub returns : goal.returns
returns c = λ i. set_in_shr c.args.word i
