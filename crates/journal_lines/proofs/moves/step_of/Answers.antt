use Rattle.std.proofs.Common.{arith}
use Rattle.journal_lines.proofs.Steps.{letter_waits, letter_up, letter_down, letter_left, letter_right, column_of_last}
use Rattle.journal_lines.proofs.moves.step_of.Goals as goal

pub returns-then-after-before-clause-letter : goal.returns-then-after-before-clause-letter
returns-then-after-before-clause-letter c = letter_waits c.args.width c.args.from c.args.to (omega arith)

pub returns-then-after-row-clause-letter : goal.returns-then-after-row-clause-letter
returns-then-after-row-clause-letter c = letter_up c.args.width c.args.from c.args.to (omega arith) (omega arith)

pub returns-then-before-row-clause-letter : goal.returns-then-before-row-clause-letter
returns-then-before-row-clause-letter c = letter_down c.args.width c.args.from c.args.to (omega arith) (omega arith)

pub returns-then-column-gt0-clause-letter : goal.returns-then-column-gt0-clause-letter
returns-then-column-gt0-clause-letter c = letter_left c.args.width c.args.from c.args.to (omega arith) (omega arith) (omega arith)

pub returns-then-column-gt0-clause-column : goal.returns-then-column-gt0-clause-column
returns-then-column-gt0-clause-column c =
    omega (arith, column_of_last c.args.from.0 c.args.to.0 c.args.width (omega arith) (omega arith) (omega arith))

pub returns-then-column-width-clause-letter : goal.returns-then-column-width-clause-letter
returns-then-column-width-clause-letter c = letter_right c.args.width c.args.from c.args.to (omega arith) (omega arith)
