use Rattle.std.proofs.Common.{◌≡◌, sym, ap, subst, ◌∙◌, Some, length}
use Rattle.std.specs.Prelude.{slice_get}
use Rattle.order_text.specs.declared.order.Order.TheVariants.{Plan, Cancel}
use Rattle.order_text.specs.Lanes.{all_orders}
use Rattle.lane_runs.specs.Answers.{Committed, Refused, IsReplyAt}
use Rattle.lane_runs.proofs.NameLemmas.{all_names, order_on}
use Rattle.plain_run.specs.Underway.{IsUnderway}
use Rattle.plain_run.proofs.StepLemmas.{plan_more, cancel_more, gone_more_step, named_reply, named_live}
use Rattle.plain_run.proofs.order.answer_order.Goals as goal

pub plan-requires-clause-start : goal.plan-requires-clause-start
plan-requires-clause-start c =
    (order_on (length c.args.book.now.grid.cells) c.args.lanes.now _ (Plan c.in-Plan.request) c.requires.lanes (c.order_at.ensures ∙ ap (λ o. Some o) c.in-Plan.is)).0

pub plan-requires-clause-goal : goal.plan-requires-clause-goal
plan-requires-clause-goal c =
    (order_on (length c.args.book.now.grid.cells) c.args.lanes.now _ (Plan c.in-Plan.request) c.requires.lanes (c.order_at.ensures ∙ ap (λ o. Some o) c.in-Plan.is)).1

pub given-requires : goal.given-requires
given-requires c =
    let at : slice_get (all_orders c.args.lanes.now) (length c.args.answers.now.items) ≡ Some (Cancel c.in-Cancel.target) =
    ap (slice_get (all_orders c.args.lanes.now)) (sym c.requires.next) ∙ c.order_at.ensures ∙ ap (λ o. Some o) c.in-Cancel.is in
    subst (λ xs. IsReplyAt xs c.in-Cancel.target) (sym c.as_slice.ensures.value)
    (named_reply _ _ _ c.args.answers.now.items c.args.book.now c.requires.underway c.in-Cancel.target (all_names _ c.args.lanes.now c.requires.lanes) at)

pub end_route-entry-requires-clause-live : goal.end_route-entry-requires-clause-live
end_route-entry-requires-clause-live c =
    let at : slice_get (all_orders c.args.lanes.now) (length c.args.answers.now.items) ≡ Some (Cancel c.in-Cancel.target) =
    ap (slice_get (all_orders c.args.lanes.now)) (sym c.requires.next) ∙ c.order_at.ensures ∙ ap (λ o. Some o) c.in-Cancel.is in
    named_live _ _ _ c.args.answers.now.items c.args.book.now c.requires.underway c.in-Cancel.target c.in-Some.id (all_names _ c.args.lanes.now c.requires.lanes) at
    (subst (λ xs. Committed xs c.in-Cancel.target c.in-Some.id) c.as_slice.ensures.value c.in-Some.ensures)

pub returns-in_ok-push-in-Plan-clause-underway : goal.returns-in_ok-push-in-Plan-clause-underway
returns-in_ok-push-in-Plan-clause-underway c =
    let at : slice_get (all_orders c.args.lanes.now) (length c.args.answers.now.items) ≡ Some (Plan c.in-Plan.request) =
    ap (slice_get (all_orders c.args.lanes.now)) (sym c.requires.next) ∙ c.order_at.ensures ∙ ap (λ o. Some o) c.in-Plan.is in
    subst (λ xs. IsUnderway c.args.book.now.grid c.args.book.now.horizon (all_orders c.args.lanes.now) xs c.plan.new.self) (sym c.in_ok-push-in-Plan.ensures.items)
    (plan_more _ _ _ c.args.answers.now.items c.args.book.now c.requires.underway c.args.order c.in-Plan.request _ c.plan.new.self at c.requires.next c.in_ok-entry-in-Plan.ensures.reply c.in_ok-entry-in-Plan.ensures.history)

pub returns-in_ok-push-in-None-clause-underway : goal.returns-in_ok-push-in-None-clause-underway
returns-in_ok-push-in-None-clause-underway c =
    let at : slice_get (all_orders c.args.lanes.now) (length c.args.answers.now.items) ≡ Some (Cancel c.in-Cancel.target) =
    ap (slice_get (all_orders c.args.lanes.now)) (sym c.requires.next) ∙ c.order_at.ensures ∙ ap (λ o. Some o) c.in-Cancel.is in
    subst (λ xs. IsUnderway c.args.book.now.grid c.args.book.now.horizon (all_orders c.args.lanes.now) xs c.args.book.now) (sym c.in_ok-push-in-None.ensures.items)
    (gone_more_step _ _ _ c.args.answers.now.items c.args.book.now c.requires.underway c.args.order c.in-Cancel.target at c.requires.next
    (subst (λ xs. Refused xs c.in-Cancel.target) c.as_slice.ensures.value c.in-None.ensures))

pub returns-in_ok-push-in-Some-clause-underway : goal.returns-in_ok-push-in-Some-clause-underway
returns-in_ok-push-in-Some-clause-underway c =
    let at : slice_get (all_orders c.args.lanes.now) (length c.args.answers.now.items) ≡ Some (Cancel c.in-Cancel.target) =
    ap (slice_get (all_orders c.args.lanes.now)) (sym c.requires.next) ∙ c.order_at.ensures ∙ ap (λ o. Some o) c.in-Cancel.is in
    subst (λ xs. IsUnderway c.args.book.now.grid c.args.book.now.horizon (all_orders c.args.lanes.now) xs c.end_route-entry.new.book) (sym c.in_ok-push-in-Some.ensures.items)
    (cancel_more _ _ _ c.args.answers.now.items c.args.book.now c.requires.underway c.args.order c.in-Cancel.target c.in-Some.id c.end_route-entry.result c.end_route-entry.new.book
    (all_names _ c.args.lanes.now c.requires.lanes) at c.requires.next (subst (λ xs. Committed xs c.in-Cancel.target c.in-Some.id) c.as_slice.ensures.value c.in-Some.ensures)
    c.end_route-entry.ensures.ends c.end_route-entry.ensures.history)
