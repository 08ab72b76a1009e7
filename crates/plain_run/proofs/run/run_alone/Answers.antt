use Rattle.std.proofs.Common.{ap, sym, subst, length, refl}
use Rattle.order_text.specs.Lanes.{all_orders}
use Rattle.plain_run.specs.Underway.{IsUnderway}
use Rattle.plain_run.proofs.StepLemmas.{run_begins}
use Rattle.plain_run.proofs.run.run_alone.Goals as goal

pub loop-order-init : goal.loop-order-init
loop-order-init c = record {
  underway = subst (λ xs. IsUnderway c.args.book.now.grid c.args.book.now.horizon (all_orders c.args.lanes.now) xs c.args.book.now) (sym c.in_ok-answers.ensures.items)
      (run_begins (all_orders c.args.lanes.now) c.args.book.now c.requires.new);
  so_many = ap length c.in_ok-answers.ensures.items;
  lanes_same = refl;
  count_is = c.count_orders-count.ensures;
}
