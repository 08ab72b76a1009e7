use Rattle.std.proofs.Common.{ap, ◌∙◌, subst, sym, List}
use Rattle.sipp_search.specs.declared.answer.Settled.{Settled}
use Rattle.sipp_search.specs.Answer.{IsRoute}
use Rattle.sipp_search.specs.Tabled.{table_from}
use Rattle.sipp_search.proofs.Answering.{none_right}
use Rattle.sipp_search.proofs.reply.answer.Goals as goal

pub returns-in_default-clause-answer : goal.returns-in_default-clause-answer
returns-in_default-clause-answer g c = λ a agrees.
    (let over = rw c.in_default.is at (c.requires.over a agrees) in
    let ends = rw c.in_default.is at (c.requires.ends a agrees) in
    none_right c.args.task.now.grid.now c.args.task.now.request c.args.task.now.horizon a c.requires.ready.bound c.args.arena.now.states.items c.in_ok-table.table over ends
    (c.in_ok-table.ensures ∙ ap table_from c.deref.ensures.value))

pub walk_to-requires-clause-in_time : goal.walk_to-requires-clause-in_time
walk_to-requires-clause-in_time g c = rw c.in-Some.is at c.requires.in_time

pub walk_to-requires-clause-over : goal.walk_to-requires-clause-over
walk_to-requires-clause-over g c = λ a agrees. rw c.in-Some.is at (c.requires.over a agrees)

pub walk_to-requires-clause-ends : goal.walk_to-requires-clause-ends
walk_to-requires-clause-ends g c = λ a agrees. rw c.in-Some.is at (c.requires.ends a agrees)

pub returns-clause-answer : goal.returns-clause-answer
returns-clause-answer g c = λ a agrees.
    subst (λ (xs : List Settled). IsRoute c.args.task.now.grid.now c.args.task.now.horizon a c.args.task.now.request c.in_ok-walk.walk xs) (sym (c.in_ok-table.ensures ∙ ap table_from c.deref.ensures.value))
    (c.in_ok-walk.ensures a agrees)
