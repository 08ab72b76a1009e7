use Rattle.std.proofs.Common.{◌∙◌, ap, map}
use Rattle.journal_lines.specs.Totals.{totals_of}
use Rattle.fleet_run.proofs.RunLemmas.{last_text}
use Rattle.fleet_run.proofs.runs.last_line_alone.Goals as goal

pub returns-clause-text : goal.returns-clause-text
returns-clause-text c = λ text says.
    last_text c.args.grid c.args.horizon c.args.lanes.now c.in_ok-answers.answers.items c.in_ok-book.book c.in_ok-book.ensures c.in_ok-answers.ensures.plain c.in_ok-answers.ensures.run
    c.in_ok-answers.ensures.strong c.in_ok-answers.ensures.in_order c.count_all-totals.result
    (c.count_all-totals.ensures ∙ ap totals_of (ap (map (λ a. a.now)) c.deref-2.ensures.value ∙ c.in_ok-lend_each.ensures ∙ c.deref.ensures.value)) text says
