use Rattle.book_trait.proofs.EndedLemmas.{is_pass, refused_as_it_was, nothing_live}
use Rattle.book_trait.proofs.ended_book.EndedBookSharedBook.cancel.Goals as goal

pub returns-clause-is_pass : goal.returns-clause-is_pass
returns-clause-is_pass c = let r = c.requires.pass in is_pass _ _ r.history _ _ _ _ _ _ r.entries r.seen r.caller r.silent r.last

pub returns-clause-stop : goal.returns-clause-stop
returns-clause-stop c = let r = c.requires.pass in (refused_as_it_was _, nothing_live _ _ _ _ c.args._pass.now.last c.args._pass.now.again c.args._pass.now.told _ r.entries r.silent)
