use Rattle.std.proofs.Common.{◌-◌, refl, arith, ap, ◌∙◌, Some}
use Rattle.fleet_base.proofs.StayLemmas.{same_cell, other_cell, all_stays, cells_differ, cells_same}
use Rattle.fleet_base.proofs.stays.walk_records.Goals as goal
use Rattle.fleet_base.proofs.stays.walk_records.Goals.{then-ne+in_ok-push, else-ne}

pub loop-time-preserved : goal.loop-time-preserved
loop-time-preserved c =
    elim c.if-ne.branch [
      | then-ne+in_ok-push w ↦ rw (w.stays-is, w.from-is, w.cell-is, w.in_ok-push.ensures.items)
          (other_cell (c.loop-time.time - 1) (omega arith) refl c.cell_at-next.ensures (cells_differ _ _ w.if-ne.ensures) c.loop-time.invariant)
      | else-ne w ↦ rw (w.stays-is, w.from-is, w.cell-is) (same_cell (c.cell_at-next.ensures ∙ ap Some (cells_same _ _ w.if-ne.ensures)) c.loop-time.invariant)
    ]

pub returns : goal.returns
returns c = rw c.in_ok-push-2.ensures.items (all_stays (omega (arith, c.arrival-time-end.ensures.value)) (omega (arith, c.arrival-time-end.ensures.value)) c.end_of.result c.end_of.ensures c.loop-time.invariant)
