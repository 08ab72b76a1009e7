use Rattle.row_words.proofs.WordLemmas.{set_in_shl}
use Rattle.row_words.proofs.places.raised.Goals as goal

pub returns : goal.returns
returns c = λ i. set_in_shl c.args.word i
