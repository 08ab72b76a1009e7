use Rattle.std.proofs.Common.{add-zero}
use Rattle.row_words.proofs.GatherLemmas.{gathered_open}
use Rattle.row_words.proofs.places.open_byte.Goals as goal

pub returns : goal.returns
returns c = rw (add-zero c.args.from) at (gathered_open c.args.cells.now c.args.from c.requires)
