use Rattle.row_words.proofs.WordLemmas.{set_in_and_not}
use Rattle.row_words.proofs.places.without.Goals as goal

pub returns : goal.returns
returns c = λ i. set_in_and_not c.args.a c.args.b i c.ranges.a.fits c.ranges.b.fits
