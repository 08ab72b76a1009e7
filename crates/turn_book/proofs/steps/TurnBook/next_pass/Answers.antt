use Rattle.turn_book.proofs.Openings.{one_cut}
use Rattle.turn_book.proofs.steps.TurnBook.next_pass.Goals as goal

pub returns-clause-seat : goal.returns-clause-seat
returns-clause-seat c = one_cut _ _ _ _ c.requires.opening c.requires.more c.cut.ensures.aside.0 c.cut.ensures.views.0
