use Rattle.std.proofs.Common.{◌≡◌, ◌++◌}
use Rattle.plain_book.specs.Resuming.{HasRoutes}
use Rattle.plain_book.proofs.book.PlainBook.resume.Given as goal

abbrev pub invariant-loop-live : goal.invariant-loop-live
invariant-loop-live l =
    HasRoutes l.book l.fn.grid l.fn.horizon l.yielded l.stamp l.era
    × (l.yielded ++ l.live-iterator.rest.items ≡ l.fn.routes.items)
    × (goal.iterator-loop-live).can_next l.live-iterator
    × (goal.iterator-loop-live).is_finite l.live-iterator
