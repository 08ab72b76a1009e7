use Rattle.std.proofs.Common.{ℕ, ◌<◌, ◌+◌, ◌++◌, List, sym, ap, ◌∙◌, subst, arith}
use Rattle.std.specs.Prelude.{All}
use Rattle.std.proofs.lemmas.List.Elements.{All-append}
use Rattle.book_trait.specs.EndedCallers.{callers_in, again_in}
use Rattle.book_trait.proofs.EndedLemmas.{is_joined, joins}
use Rattle.book_trait.proofs.ended_book.EndedBookSharedBook.join.Goals as goal

pub returns-clause-is_joined : goal.returns-clause-is_joined
returns-clause-is_joined c = let r = c.requires.first in let s = c.requires.second in
    let callers = c.put_behind.ensures.callers ∙ ap (λ z. callers_in z ++ callers_in c.args.second.first.value) c.deref_mut.ensures.value in
    is_joined _ _ r.history _ _ _ _ r.entries (omega arith)
    (subst (λ (cs : List ℕ). All (λ n. n < c.args.self.now.callers) cs) (sym callers) (All-append (λ n. n < c.args.self.now.callers) _ _ r.callers s.callers))

pub returns-clause-view : goal.returns-clause-view
returns-clause-view c = let r = c.requires.first in let s = c.requires.second in
    let callers = c.put_behind.ensures.callers ∙ ap (λ z. callers_in z ++ callers_in c.args.second.first.value) c.deref_mut.ensures.value in
    let again = c.put_behind.ensures.again ∙ ap (λ z. again_in z + again_in c.args.second.first.value) c.deref_mut.ensures.value in
    joins _ _ _ _ _ _ _ _ _ _ _ _ r.entries s.entries c.max.ensures callers again r.silent s.silent
