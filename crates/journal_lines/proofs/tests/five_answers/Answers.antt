use Rattle.journal_lines.specs.declared.tests.TheConstants.{ACROSS, FIRST, SECOND}
use Rattle.journal_lines.proofs.TestLemmas.{pushed_five, five_right}
use Rattle.journal_lines.proofs.tests.five_answers.Goals as goal

pub returns-clause-right : goal.returns-clause-right
returns-clause-right c =
    five_right ACROSS FIRST SECOND c.in_ok-committed-2.ensures.0 c.in_ok-committed.ensures.0 c.push-5.new.self.items c.in_ok-committed.field-0 c.in_ok-committed-2.field-0
    (pushed_five _ _ _ _ _ _ _ _ _ _ _ c.in_ok-answers.ensures.items c.in_ok-push.ensures.items c.in_ok-push-2.ensures.items c.in_ok-push-3.ensures.items c.in_ok-push-4.ensures.items c.in_ok-push-5.ensures.items)
    c.in_ok-committed.ensures.1 c.in_ok-committed-2.ensures.1
