use Rattle.std.proofs.Common.{arith}
use Rattle.book_trait.proofs.EndedLemmas.{is_pass, greater_stamp, heeded}
use Rattle.book_trait.proofs.ended_book.EndedBookSharedBook.heed.Goals as goal

pub returns-clause-pass : goal.returns-clause-pass
returns-clause-pass c = let r = c.requires.pass in let n = c.requires.note in record {
  history = r.history;
  entries = r.entries;
  seen = omega arith;
  caller = r.caller;
  silent = r.silent;
  last = greater_stamp _ _ _ _ _ _ _ c.max-pass-2.ensures c.max-pass.ensures r.last n.last;
}

pub returns-clause-is_pass : goal.returns-clause-is_pass
returns-clause-is_pass c = let r = c.requires.pass in let n = c.requires.note in
    is_pass _ _ r.history _ _ _ _ _ _ r.entries (omega arith) r.caller r.silent (greater_stamp _ _ _ _ _ _ _ c.max-pass-2.ensures c.max-pass.ensures r.last n.last)

pub returns-clause-seen : goal.returns-clause-seen
returns-clause-seen c = let r = c.requires.pass in heeded _ _ _ _ _ _ _ _ _ _ _ _ r.entries c.requires.note.entries c.max-pass.ensures c.max-pass-2.ensures r.silent
