use Rattle.std.proofs.Common.{arith}
use Rattle.order_text.proofs.MarkLemmas.{none_marked}
use Rattle.order_text.proofs.builder.LaneBuilder.end_lane.Goals as goal

pub returns-clause-building : goal.returns-clause-building
returns-clause-building c = record {
  marked = rw (c.replace-orders.ensures.after, c.new.ensures.items, c.clear.ensures.items) (none_marked _);
  few = rw (c.replace-orders.ensures.after, c.new.ensures.items, c.len.ensures, c.replace-orders.ensures.value) (omega (arith, c.requires.few));
}
