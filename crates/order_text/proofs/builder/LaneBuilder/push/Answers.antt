use Rattle.std.proofs.Common.{arith, ◌∷◌, []}
use Rattle.std.proofs.lemmas.List.{length-append}
use Rattle.order_text.proofs.LaneLemmas.{right_name, right_room}
use Rattle.order_text.proofs.builder.LaneBuilder.push.Goals as goal

pub mark-requires-clause-named : goal.mark-requires-clause-named
mark-requires-clause-named c = right_name _ c.args.order c.requires.right

pub returns-clause-building : goal.returns-clause-building
returns-clause-building c = record {
  marked = rw (c.in_ok-mark.ensures.first, c.in_ok-push.ensures.items, c.in_ok-mark.ensures.orders) c.in_ok-mark.ensures.marked;
  few = rw (c.in_ok-mark.ensures.first, c.in_ok-push.ensures.items, c.in_ok-mark.ensures.orders) (omega (arith, right_room _ c.args.order c.requires.right, length-append c.args.self.now.orders.items (c.args.order ∷ [])));
}
