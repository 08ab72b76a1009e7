use Rattle.std.proofs.Common.{◌≡◌, ◌∙◌, ◌≤◌, ap, map, sym, subst, length}
use Rattle.journal_lines.specs.Totals.{totals_of}
use Rattle.turn_book.specs.Passes.{joined_view}
use Rattle.fleet_run.specs.Workers.{IsFromWorkers}
use Rattle.fleet_run.proofs.SharedLemmas.{shared_last, lent_few}
use Rattle.fleet_run.proofs.shared.last_line_shared.Goals as goal

pub count_all-totals-requires : goal.count_all-totals-requires
count_all-totals-requires g c =
    lent_few c.args.grid.now c.args.horizon c.args.workers c.args.lanes.now (joined_view c.in_ok-answers.field-0.joined) c.in_ok-answers.field-0.answers.items c.in_ok-print_order.field-0.items c.deref-2.result.now
    c.in_ok-answers.ensures c.deref.result.now c.deref.ensures.value c.in_ok-print_order.ensures c.deref-2.ensures.value

pub returns-clause-text : goal.returns-clause-text
returns-clause-text g c = λ text says.
    shared_last c.args.grid.now c.args.horizon c.args.workers c.args.lanes.now (joined_view c.in_ok-answers.field-0.joined) c.deref.result.now (map (λ a. a.now) c.in_ok-print_order.field-0.items) c.count_all-totals.result
    c.requires.workers.0 (subst (λ l. IsFromWorkers c.args.grid.now c.args.horizon c.args.workers c.args.lanes.now (joined_view c.in_ok-answers.field-0.joined) l) (sym c.deref.ensures.value) c.in_ok-answers.ensures)
    c.in_ok-print_order.ensures (c.count_all-totals.ensures ∙ ap (λ l. totals_of (map (λ a. a.now) l)) c.deref-2.ensures.value) text says
