use Rattle.std.proofs.Common.{subst}
use Rattle.order_text.specs.Lanes.{all_orders}
use Rattle.lane_runs.specs.Runs.{IsRun}
use Rattle.plain_run.specs.PlainRun.{IsPlainRun}
use Rattle.fleet_run.proofs.RunLemmas.{journal_text, can_be_written}
use Rattle.fleet_run.proofs.runs.journal_alone.Goals as goal

pub returns-clause-text : goal.returns-clause-text
returns-clause-text c = λ text says.
    journal_text c.args.grid c.args.horizon c.args.lanes.items c.in_ok-answers.answers.items c.in_ok-book.book c.in_ok-book.ensures
    (subst (λ lanes. IsPlainRun c.in_ok-book.book.grid c.in_ok-book.book.horizon (all_orders lanes) c.in_ok-answers.answers.items) c.deref.ensures.value c.in_ok-answers.ensures.plain)
    (subst (λ lanes. IsRun lanes c.in_ok-answers.answers.items) c.deref.ensures.value c.in_ok-answers.ensures.run)
    c.in_ok-answers.ensures.strong c.in_ok-answers.ensures.in_order c.run_alone.new.book c.in_ok-answers.ensures.grid text says

pub returns-clause-right : goal.returns-clause-right
returns-clause-right c =
    can_be_written _ _ _ c.args.lanes.items c.in_ok-answers.answers.items c.requires.lanes
    (subst (λ lanes. IsPlainRun c.in_ok-book.book.grid c.in_ok-book.book.horizon (all_orders lanes) c.in_ok-answers.answers.items) c.deref.ensures.value c.in_ok-answers.ensures.plain)
