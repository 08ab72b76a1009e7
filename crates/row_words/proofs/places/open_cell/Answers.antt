use Rattle.std.proofs.Common.{false, get_or, zero-add}
use Rattle.std.proofs.lemmas.Option.{slice_get-get_or}
use Rattle.row_words.proofs.CellLemmas.{one_open}
use Rattle.row_words.proofs.places.open_cell.Goals as goal

pub returns : goal.returns
returns c = one_open c.args.cells.now 0 c.args.place (get_or c.args.cells.now c.args.place false)
    (rw (zero-add c.args.place) (slice_get-get_or c.args.cells.now c.args.place false c.requires.within)) c.requires.small
