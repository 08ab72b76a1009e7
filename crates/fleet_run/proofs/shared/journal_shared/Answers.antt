use Rattle.std.proofs.Common.{◌∙◌, ap, subst}
use Rattle.turn_book.specs.Passes.{joined_view}
use Rattle.fleet_run.specs.Workers.{IsFromWorkers}
use Rattle.fleet_run.proofs.SharedLemmas.{shared_text}
use Rattle.fleet_run.proofs.shared.journal_shared.Goals as goal

pub returns-clause-text : goal.returns-clause-text
returns-clause-text g c = λ text prints.
    shared_text c.args.grid c.args.horizon c.args.workers c.args.lanes.items (joined_view c.in_ok-answers.field-0.joined) c.in_ok-answers.field-0.answers.items c.requires.workers.0
    (subst (λ l. IsFromWorkers c.args.grid c.args.horizon c.args.workers l (joined_view c.in_ok-answers.field-0.joined) c.in_ok-answers.field-0.answers.items) c.deref.ensures.value c.in_ok-answers.ensures) text prints
