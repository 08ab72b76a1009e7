use Rattle.std.proofs.Common.{◌+◌, ◌*◌, ◌%◌, ◌^◌, length, refl, arith}
use Rattle.row_words.proofs.CellLemmas.{both_open, raised_open, all_open}
use Rattle.row_words.proofs.places.open_places.Goals as goal

pub loop-place-preserved : goal.loop-place-preserved
loop-place-preserved c = record {
  inside = omega arith;
  has = both_open c.args.cells.now 0 0 c.loop-place.place (c.loop-place.place + 8) (c.loop-place.place + 8) c.loop-place.word (c.open_byte.result * 2 ^ c.loop-place.place % 2 ^ 64) c.either-word.result
      (omega arith) (omega arith) refl c.loop-place.invariant.has (raised_open c.args.cells.now c.loop-place.place 8 c.open_byte.result (omega arith) c.open_byte.ensures) c.either-word.ensures;
}

pub returns : goal.returns
returns c = all_open c.args.cells.now c.either.result
    (both_open c.args.cells.now 0 0 c.loop-place.place (length c.args.cells.now) (length c.args.cells.now) c.loop-place.word c.open_rest.result c.either.result
    (omega arith) (omega arith) refl c.loop-place.invariant.has c.open_rest.ensures c.either.ensures)
