use Rattle.std.proofs.Common.{arith, ◌∙◌}
use Rattle.turn_book.proofs.Keeping.{allows_said}
use Rattle.turn_book.proofs.steps.TurnBook.give.Goals as goal

pub compare_exchange-requires : goal.compare_exchange-requires
compare_exchange-requires g c =
    let w = c.args.self.now.words in
    let o = c.requires.out in
    let m = c.requires.may in
    let e = c.exchange-none.ensures in
    (e.0 ∙ o.seat_is.table, omega arith, allows_said _ _ _ _ _ _ _ _ _ _ c.requires.said.0 e.3 o.slot o.with o.callers m.by m.shared m.after)
