use Rattle.std.proofs.Common.{arith}
use Rattle.order_text.proofs.MarkLemmas.{none_marked}
use Rattle.order_text.proofs.builder.LaneBuilder.new.Goals as goal

pub returns-clause-building : goal.returns-clause-building
returns-clause-building c = record {
  marked = rw (c.new-2.ensures.items, c.new-3.ensures.items) (none_marked 0);
  few = rw c.new-2.ensures.items (omega arith);
}
