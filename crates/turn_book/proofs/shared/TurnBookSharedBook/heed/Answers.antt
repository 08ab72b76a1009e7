use Rattle.turn_book.proofs.Heeding.{heeded}
use Rattle.turn_book.proofs.shared.TurnBookSharedBook.heed.Goals as goal

pub returns-clause-pass : goal.returns-clause-pass
returns-clause-pass c = (heeded _ _ _ _ _ c.requires.pass c.requires.note c.merge.ensures c.max-pass.ensures).0

pub returns-clause-is_pass : goal.returns-clause-is_pass
returns-clause-is_pass c = (heeded _ _ _ _ _ c.requires.pass c.requires.note c.merge.ensures c.max-pass.ensures).0.keeping.is_pass

pub returns-clause-seen : goal.returns-clause-seen
returns-clause-seen c = (heeded _ _ _ _ _ c.requires.pass c.requires.note c.merge.ensures c.max-pass.ensures).1
