use Rattle.std.proofs.Common.{arith, refl, ◌∙◌}
use Rattle.book_trait.proofs.EndedExample.{closed_map, its_stamp}
use Rattle.book_trait.proofs.tests.onlookers_see_one_history.Goals as goal

pub look_on-requires-clause-history : goal.look_on-requires-clause-history
look_on-requires-clause-history g c = closed_map _ _ _ _ c.new-book.ensures.entries (omega arith) (c.new-book.ensures.kind.0 ∙ c.new-grid.ensures) c.in_ok-from_array.ensures.items refl

pub last_note-requires-clause-last : goal.last_note-requires-clause-last
last_note-requires-clause-last g c = its_stamp _ _ c.new-book.ensures.entries
