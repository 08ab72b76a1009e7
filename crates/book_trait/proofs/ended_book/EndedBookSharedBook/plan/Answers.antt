use Rattle.std.proofs.Common.{arith}
use Rattle.book_trait.proofs.EndedLemmas.{is_pass, refused, stamp_yet}
use Rattle.book_trait.proofs.ended_book.EndedBookSharedBook.plan.Goals as goal

pub returns-then-pass-clause-is_pass : goal.returns-then-pass-clause-is_pass
returns-then-pass-clause-is_pass c = let r = c.requires.pass in is_pass _ _ r.history _ _ _ _ _ _ r.entries r.seen r.caller r.silent r.last

pub returns-clause-pass : goal.returns-clause-pass
returns-clause-pass c = let r = c.requires.pass in record { history = r.history; entries = r.entries; seen = omega arith; caller = r.caller; silent = r.silent; last = stamp_yet _ _ _ _ r.seen r.last }

pub returns-clause-is_pass : goal.returns-clause-is_pass
returns-clause-is_pass c = let r = c.requires.pass in is_pass _ _ r.history _ _ _ _ _ _ r.entries (omega arith) r.caller r.silent (stamp_yet _ _ _ _ r.seen r.last)

pub returns-clause-stop : goal.returns-clause-stop
returns-clause-stop c = let r = c.requires.pass in refused _ _ _ _ _ _ _ _ r.entries r.seen r.silent
