use Rattle.std.proofs.Common.{◌≤◌, ◌<◌, length, subst, sym}
use Rattle.std.specs.Prelude.{All}
use Rattle.order_text.specs.Lanes.{all_orders}
use Rattle.lane_runs.specs.Answers.{order_of}
use Rattle.journal_lines.proofs.TextLemmas.{printed_within, printed_few}
use Rattle.journal_lines.proofs.text.journal_text.Goals as goal

pub lines_of-requires-clause-within : goal.lines_of-requires-clause-within
lines_of-requires-clause-within c =
    subst (λ xs. All (λ a. order_of a.now < length (all_orders c.args.lanes.now)) xs) (sym c.as_slice.ensures.value)
    (printed_within (length c.args.grid.now.cells) c.args.lanes.now c.args.answers.now c.in_ok-printed.printed.items c.requires.lanes c.requires.run c.in_ok-printed.ensures)

pub lines_of-requires-clause-few : goal.lines_of-requires-clause-few
lines_of-requires-clause-few c =
    subst (λ xs. length xs ≤ 32767) (sym c.as_slice.ensures.value)
    (printed_few (length c.args.grid.now.cells) c.args.lanes.now c.args.answers.now c.in_ok-printed.printed.items c.requires.lanes c.requires.run c.in_ok-printed.ensures)
