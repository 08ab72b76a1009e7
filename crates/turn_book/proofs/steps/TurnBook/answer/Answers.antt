use Rattle.turn_book.proofs.Answering.{reply_is, may_give_planned, planned}
use Rattle.turn_book.proofs.steps.TurnBook.answer.Goals as goal

pub give-requires-clause-may : goal.give-requires-clause-may
give-requires-clause-may c = may_give_planned _ _ _ _ _ _ c.from_ref.ensures.value c.requires.turn.keeping c.requires.planned

pub keep-requires-clause-reply : goal.keep-requires-clause-reply
keep-requires-clause-reply c = reply_is c.requires.planned.before _ _ _ _ c.requires.planned.reply

pub returns-clause-pass : goal.returns-clause-pass
returns-clause-pass c = (planned _ _ _ _ _ _ _ c.from_ref.ensures.value c.requires.turn c.requires.planned c.keep.ensures.told _ _ c.give.ensures c.keep.ensures.live c.keep.ensures.last).0

pub returns-clause-made : goal.returns-clause-made
returns-clause-made c = (planned _ _ _ _ _ _ _ c.from_ref.ensures.value c.requires.turn c.requires.planned c.keep.ensures.told _ _ c.give.ensures c.keep.ensures.live c.keep.ensures.last).1

pub returns-clause-stamp : goal.returns-clause-stamp
returns-clause-stamp c = (planned _ _ _ _ _ _ _ c.from_ref.ensures.value c.requires.turn c.requires.planned c.keep.ensures.told _ _ c.give.ensures c.keep.ensures.live c.keep.ensures.last).2
