use Rattle.row_words.proofs.WordLemmas.{set_in_and}
use Rattle.row_words.proofs.places.both.Goals as goal

pub returns : goal.returns
returns c = λ i. set_in_and c.args.a c.args.b i
