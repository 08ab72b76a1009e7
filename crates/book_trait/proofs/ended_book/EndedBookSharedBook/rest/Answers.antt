use Rattle.std.proofs.Common.{ℕ, [], ◌<◌, List, sym, subst}
use Rattle.std.specs.Prelude.{All}
use Rattle.std.proofs.lemmas.List.Elements.{All-nil, All-cons}
use Rattle.book_trait.proofs.EndedLemmas.{is_joined}
use Rattle.book_trait.proofs.ended_book.EndedBookSharedBook.rest.Goals as goal

pub returns-clause-is_joined : goal.returns-clause-is_joined
returns-clause-is_joined c = let r = c.requires in
    is_joined _ _ r.history _ _ _ _ r.entries r.seen
    (subst (λ (cs : List ℕ). All (λ n. n < c.args.self.now.callers) cs) (sym c.alone_in.ensures.callers) (All-cons (λ n. n < c.args.self.now.callers) c.args.pass.caller [] r.caller (All-nil (λ n. n < c.args.self.now.callers))))
