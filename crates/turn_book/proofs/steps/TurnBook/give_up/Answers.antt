use Rattle.std.proofs.Common.{refl}
use Rattle.turn_book.proofs.Answering.{may_give_none, refused_in_turn}
use Rattle.turn_book.proofs.steps.TurnBook.give_up.Goals as goal

pub give-requires-clause-may : goal.give-requires-clause-may
give-requires-clause-may c = may_give_none _ _ _ c.requires

pub returns-clause-pass : goal.returns-clause-pass
returns-clause-pass c = (refused_in_turn _ _ _ _ _ _ refl c.requires c.give.ensures refl).0

pub returns-clause-view : goal.returns-clause-view
returns-clause-view c = (refused_in_turn _ _ _ _ _ _ refl c.requires c.give.ensures refl).1
