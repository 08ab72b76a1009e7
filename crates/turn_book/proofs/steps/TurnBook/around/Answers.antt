use Rattle.turn_book.proofs.Openings.{opened}
use Rattle.turn_book.proofs.steps.TurnBook.around.Goals as goal

pub new-requires : goal.new-requires
new-requires c = opened _ _ _ c.requires c.in_ok-slots.ensures.items
