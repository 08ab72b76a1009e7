use Rattle.std.proofs.Common.{rules, refl, ◌+◌}
use Rattle.order_text.specs.declared.order.Order.TheVariants.{Plan, Cancel}
use Rattle.planner_pool.proofs.LaneLemmas.{order_here, done_plan, done_gone, done_cancel, named_after, named_reply, named_live}
use Rattle.planner_pool.proofs.lane.answer_order.Goals as goal

pub overflow_sub-target : goal.overflow_sub-target
overflow_sub-target g c =
    let at = order_here c.args.lane.now c.args.next c.args.answers.now.items _ (Cancel c.in-Cancel.target) (search rules) c.requires.next.1 c.requires.next.0 c.in-Cancel.is in
    named_after c.args.lane.now c.args.answers.now.items c.args.next (c.args.lane.now.first + c.args.next) _ c.requires.so_far c.requires.next.0 refl _ c.requires.lane.0 c.in-Cancel.target at

pub given-requires : goal.given-requires
given-requires g c =
    let at = order_here c.args.lane.now c.args.next c.args.answers.now.items _ (Cancel c.in-Cancel.target) (search rules) c.requires.next.1 c.requires.next.0 c.in-Cancel.is in
    named_reply c.args.lane.now c.args.answers.now.items c.args.next (c.args.lane.now.first + c.args.next) _ c.requires.so_far c.requires.next.0 refl _ c.requires.lane.0 c.in-Cancel.target at

pub cancel_with_tries-requires-clause-live : goal.cancel_with_tries-requires-clause-live
cancel_with_tries-requires-clause-live g c κs within =
    let at = order_here c.args.lane.now c.args.next c.args.answers.now.items _ (Cancel c.in-Cancel.target) (search rules) c.requires.next.1 c.requires.next.0 c.in-Cancel.is in
    (named_live c.args.lane.now c.args.answers.now.items c.args.next (c.args.lane.now.first + c.args.next) _ c.requires.so_far c.requires.next.0 refl _ c.requires.lane.0 c.in-Cancel.target c.in-Some-given.id at c.in-Some-given.ensures).live

pub returns-in_ok-push-in-Plan-clause-answered : goal.returns-in_ok-push-in-Plan-clause-answered
returns-in_ok-push-in-Plan-clause-answered g c =
    let at = order_here c.args.lane.now c.args.next c.args.answers.now.items _ (Plan c.in-Plan.request) (search rules) c.requires.next.1 c.requires.next.0 c.in-Plan.is in
    done_plan c.args.lane.now c.args.answers.now.items c.args.next _ _ c.requires.so_far c.requires.next.0 refl _ c.args.caller c.in-Plan.request c.in-Some.reply _ _ at (search rules) c.requires.pass.1 c.entry_for-entry.ensures c.in_ok-push-in-Plan.ensures.items

pub returns-in_ok-push-in-None-clause-answered : goal.returns-in_ok-push-in-None-clause-answered
returns-in_ok-push-in-None-clause-answered g c =
    let at = order_here c.args.lane.now c.args.next c.args.answers.now.items _ (Cancel c.in-Cancel.target) (search rules) c.requires.next.1 c.requires.next.0 c.in-Cancel.is in
    done_gone c.args.lane.now c.args.answers.now.items c.args.next _ _ c.requires.so_far c.requires.next.0 refl _ c.in-Cancel.target at c.in-None.ensures c.in_ok-push-in-None.ensures.items

pub returns-in_ok-push-in-Some-given-clause-answered :
    goal.returns-in_ok-push-in-Some-given-clause-answered
returns-in_ok-push-in-Some-given-clause-answered g c =
    let at = order_here c.args.lane.now c.args.next c.args.answers.now.items _ (Cancel c.in-Cancel.target) (search rules) c.requires.next.1 c.requires.next.0 c.in-Cancel.is in
    done_cancel c.args.lane.now c.args.answers.now.items c.args.next _ _ c.requires.so_far c.requires.next.0 refl _ c.requires.lane.0 _ c.in-Cancel.target c.in-Some-cancel_with_tries.era c.in-Some-given.id _ at c.in-Some-given.ensures (search rules) c.in_ok-push-in-Some-given.ensures.items
