use Rattle.std.proofs.Common.{◌≡◌, ◌∙◌, ap, sym}
use Rattle.book_trait.specs.Passes.{BookView}
use Rattle.fleet_run.proofs.SharedLemmas.{fresh_passes}
use Rattle.worked_rows.proofs.tail.answers_stay_where_nothing_was_left.Goals as goal

pub run_lanes-requires-clause-passes : goal.run_lanes-requires-clause-passes
run_lanes-requires-clause-passes g c κs =
    (c.in_ok-book.ensures.passes.0 ∙ sym (ap (λ (b : BookView). b.callers) c.in_ok-book.ensures.book), fresh_passes c.in_ok-book.book c.in_ok-book.passes.items c.in_ok-book.ensures.passes.1)
