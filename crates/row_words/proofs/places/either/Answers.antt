use Rattle.row_words.proofs.WordLemmas.{set_in_or}
use Rattle.row_words.proofs.places.either.Goals as goal

pub returns : goal.returns
returns c = λ i. set_in_or c.args.a c.args.b i
