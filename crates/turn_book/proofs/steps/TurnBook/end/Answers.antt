use Rattle.std.proofs.Common.{refl}
use Rattle.turn_book.proofs.Answering.{may_give_ended, ended}
use Rattle.turn_book.proofs.steps.TurnBook.end.Goals as goal

pub give-requires-clause-may : goal.give-requires-clause-may
give-requires-clause-may c = may_give_ended _ _ _ _ _ _ _ c.from_ref.ensures.value c.requires.turn.keeping c.requires.ended

pub returns-clause-pass : goal.returns-clause-pass
returns-clause-pass c = (ended _ _ _ _ _ _ _ c.from_ref.ensures.value c.requires.turn c.requires.ended c.requires.place _ c.give.ensures c.remove.ensures.items refl).0

pub returns-clause-made : goal.returns-clause-made
returns-clause-made c = (ended _ _ _ _ _ _ _ c.from_ref.ensures.value c.requires.turn c.requires.ended c.requires.place record c.args.pass.now { seat = c.give.new.seat; live = c.remove.new.self } c.give.ensures c.remove.ensures.items refl).1
