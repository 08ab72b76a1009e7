use Rattle.std.proofs.Common.{arith}
use Rattle.turn_book.proofs.Keeping.{splits_told}
use Rattle.turn_book.proofs.steps.TurnBook.told.Goals as goal

pub split_seat-requires : goal.split_seat-requires
split_seat-requires c = let w = c.args.self.now.words in (c.requires.seat_is.table, omega arith, splits_told _ _ _ c.requires.without)
