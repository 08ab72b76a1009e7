use Rattle.std.proofs.Common.{◌∙◌, refl, ◌≡◌, Some, slice_get}
use Rattle.std.proofs.lemmas.Option.{slice_get_read, get_or_from_slice_get}
use Rattle.sipp_search.proofs.Marking.{keys-set, offered_nothing}
use Rattle.sipp_search.proofs.enter.offer.Goals as goal

pub returns-in_ok-put-clause-queue : goal.returns-in_ok-put-clause-queue
returns-in_ok-put-clause-queue c =
    let at : slice_get c.args.states.now.items c.args.id ≡ Some c.index_mut.result.now = slice_get_read _ _ _ _ refl c.requires.known c.index_mut.ensures.value in
    rw (← keys-set c.args.states.now.items c.args.id c.args.arrival c.args.key c.index_mut.result.now at (c.requires.key _ at), ← c.requires.paired) (c.in_ok-put.ensures.ok)

pub returns-else-is_better-clause-states : goal.returns-else-is_better-clause-states
returns-else-is_better-clause-states c = λ s at.
    let same : c.index.result.now ≡ s = c.index.ensures ∙ get_or_from_slice_get c.args.states.now.items c.args.id s c.index.result.now at in
    offered_nothing c.args.states.now.items c.args.id c.args.arrival s at (rw same at c.if-is_better.ensures.worse)
