use Rattle.book_trait.proofs.EndedLemmas.{is_pass, is_note}
use Rattle.book_trait.proofs.ended_book.EndedBookSharedBook.tell.Goals as goal

pub returns-then-pass-clause-is_pass : goal.returns-then-pass-clause-is_pass
returns-then-pass-clause-is_pass c = let r = c.requires in is_pass _ _ r.history _ _ _ _ _ _ r.entries r.seen r.caller r.silent r.last

pub returns-clause-is_pass : goal.returns-clause-is_pass
returns-clause-is_pass c = let r = c.requires in is_pass _ _ r.history _ _ _ _ _ _ r.entries r.seen r.caller r.silent r.last

pub returns-clause-is_note : goal.returns-clause-is_note
returns-clause-is_note c = let r = c.requires in is_note _ _ r.history _ _ _ r.entries r.seen r.last
