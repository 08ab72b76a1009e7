use Rattle.turn_book.proofs.Openings.{ArePassing}
use Rattle.turn_book.proofs.steps.TurnBook.passes.Given as goal

abbrev pub invariant-loop-caller : goal.invariant-loop-caller
invariant-loop-caller l = ArePassing l.fn.self l.seat l.passes.items l.caller
