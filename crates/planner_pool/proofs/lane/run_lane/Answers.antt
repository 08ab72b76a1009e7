use Rattle.std.proofs.Common.{rules, refl}
use Rattle.planner_pool.specs.LaneSteps.{AnswersOrder, IsLeft}
use Rattle.planner_pool.proofs.LaneLemmas.{at_next, at_left}
use Rattle.planner_pool.proofs.lane.run_lane.Goals as goal

pub loop-next-preserved : goal.loop-next-preserved
loop-next-preserved g c =
    let one : AnswersOrder c.args.lane.now c.loop-next.answers.items (g.B.SharedBook.pass_view c.loop-next.pass) c.answer_order.new.answers.items (g.B.SharedBook.pass_view c.answer_order.new.pass) = search rules in
    (c.in_ok-answer_order.ensures.pass, at_next _ _ _ _ _ _ _ c.loop-next.invariant.1 one, search rules, refl, refl, refl, refl)

pub returns-then-not-branch-clause-answered : goal.returns-then-not-branch-clause-answered
returns-then-not-branch-clause-answered g c =
    let left : IsLeft c.loop-next.answers.items (g.B.SharedBook.pass_view c.loop-next.pass) c.answer_order.new.answers.items (g.B.SharedBook.pass_view c.answer_order.new.pass) = search rules in
    at_left _ _ _ _ _ _ _ c.loop-next.invariant.1 (search rules) left
