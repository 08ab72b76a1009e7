use Rattle.std.proofs.Common.{◌≡◌, length}
use Rattle.order_text.specs.Lanes.{all_orders}
use Rattle.plain_run.specs.Underway.{IsUnderway}
use Rattle.plain_run.proofs.run.run_alone.Given as goal

abbrev pub invariant-loop-order : goal.invariant-loop-order
invariant-loop-order l = record {
  underway : IsUnderway l.fn.book.grid l.fn.book.horizon (all_orders l.fn.lanes) l.answers.items l.book;
  so_many : length l.answers.items ≡ l.order;
  lanes_same : l.lanes ≡ l.fn.lanes;
  count_is : l.order-end ≡ length (all_orders l.fn.lanes);
}
