use Rattle.std.proofs.Common.{◌∙◌, subst, sym, lit<}
use Rattle.order_text.specs.Lanes.{AreLanes}
use Rattle.lane_runs.specs.Runs.{IsRun}
use Rattle.journal_lines.specs.declared.tests.TheConstants.{ACROSS}
use Rattle.journal_lines.proofs.TestLemmas.{three_are_lanes, three_run}
use Rattle.journal_lines.proofs.tests.lines_stand_in_the_order_of_the_journal.Goals as goal

pub journal_text-requires-clause-lanes : goal.journal_text-requires-clause-lanes
journal_text-requires-clause-lanes g c =
    subst (λ n. AreLanes n c.as_slice.result.now) (sym c.in_ok-grid.ensures)
    (three_are_lanes 2 ACROSS (lit< tt, lit< tt) c.as_slice.result.now (c.as_slice.ensures.value ∙ c.in_ok-lanes.ensures))

pub journal_text-requires-clause-run : goal.journal_text-requires-clause-run
journal_text-requires-clause-run g c =
    subst (λ xs. IsRun c.as_slice.result.now xs) (sym c.as_slice-2.ensures.value)
    (three_run ACROSS c.as_slice.result.now c.in_ok-answers.answers.items (c.as_slice.ensures.value ∙ c.in_ok-lanes.ensures) c.in_ok-answers.ensures.five c.in_ok-answers.ensures.right)
