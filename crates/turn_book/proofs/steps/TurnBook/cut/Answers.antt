use Rattle.std.proofs.Common.{arith}
use Rattle.turn_book.proofs.Keeping.{splits_first}
use Rattle.turn_book.proofs.steps.TurnBook.cut.Goals as goal

pub split_seat-requires : goal.split_seat-requires
split_seat-requires c = let w = c.args.self.now.words in (c.requires.seat_is.table, omega arith, splits_first _ _ _ c.requires.without)
