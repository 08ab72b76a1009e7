use Rattle.order_text.proofs.MarkLemmas.{plan_marked, cancel_marked}
use Rattle.order_text.proofs.builder.LaneBuilder.mark.Goals as goal

pub returns-in_ok-push-in-Plan-clause-marked : goal.returns-in_ok-push-in-Plan-clause-marked
returns-in_ok-push-in-Plan-clause-marked c = rw (c.in-Plan.is, c.in_ok-push-in-Plan.ensures.items) (plan_marked _ _ _ c.in-Plan.request c.requires.marked)

pub returns-in_ok-push-in-Cancel-clause-marked : goal.returns-in_ok-push-in-Cancel-clause-marked
returns-in_ok-push-in-Cancel-clause-marked c =
    let named = rw c.in-Cancel.is at c.requires.named in
    rw (c.in-Cancel.is, c.in_ok-push-in-Cancel.ensures.items) (cancel_marked _ _ _ c.in-Cancel.target c.requires.marked named)
