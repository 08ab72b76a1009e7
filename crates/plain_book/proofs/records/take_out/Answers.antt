use Rattle.std.proofs.Common.{◌∙◌, length, sym}
use Rattle.std.proofs.lemmas.Bool.{eqb-true}
use Rattle.std.proofs.lemmas.List.{length-set}
use Rattle.plain_book.proofs.Placing.{taken_step, again_step, below_old}
use Rattle.plain_book.proofs.records.take_out.Goals as goal

pub loop-place-preserved : goal.loop-place-preserved
loop-place-preserved c = record {
  size = rw c.remove_id.ensures (length-set c.loop-place.calendars _ _ ∙ c.loop-place.invariant.size);
  lacks = taken_step c.args.id c.args.calendars.now c.loop-place.calendars c.cells-cells.result.now c.loop-place.place (record { 0 = 0 }) c.remove_id.new.self c.loop-place-test.true
      (below_old c.args.walk.now.cells c.cells-cells.result.now c.loop-place.place (record { 0 = 0 }) (length c.args.calendars.now) (length c.loop-place.calendars)
      c.cells-cells.ensures.value c.loop-place.invariant.size c.loop-place-test.true c.requires)
      c.remove_id.ensures c.loop-place.invariant.lacks;
}

pub loop-place-preserved-then-eq : goal.loop-place-preserved-then-eq
loop-place-preserved-then-eq c = record {
  size = c.loop-place.invariant.size;
  lacks = again_step c.args.id c.args.calendars.now c.loop-place.calendars c.cells-cells.result.now c.loop-place.place (record { 0 = 0 }) c.loop-place-test.true c.if-place-gt0.true
      (eqb-true _ _ (sym c.if-eq.ensures)) c.loop-place.invariant.lacks;
}
