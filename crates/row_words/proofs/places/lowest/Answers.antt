use Rattle.row_words.proofs.WordLemmas.{least_set}
use Rattle.row_words.proofs.places.lowest.Goals as goal

pub returns-clause-some : goal.returns-clause-some
returns-clause-some c = least_set c.args.word c.ranges.word.fits c.if-word-eq0.false
