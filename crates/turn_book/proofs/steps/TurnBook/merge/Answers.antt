use Rattle.std.proofs.Common.{arith, ap, ◌∙◌}
use Rattle.atomic_table.specs.Table.{Me}
use Rattle.turn_book.specs.declared.rule.View.{View}
use Rattle.turn_book.specs.Turns.{Slot}
use Rattle.turn_book.proofs.Keeping.{joins_both, allows_look}
use Rattle.turn_book.proofs.steps.TurnBook.merge.Goals as goal

pub join_seat-requires : goal.join_seat-requires
join_seat-requires c =
    let w = c.args.self.now.words in
    let a = c.requires.first in
    let b = c.requires.second in (a.seat_is.table, b.seat_is.table, b.nothing, omega arith, joins_both _ _ _ _ _ a.without b.without)

pub load-requires : goal.load-requires
load-requires c =
    let w = c.args.self.now.words in
    let a = c.requires.first in
    let e = c.join_seat.ensures in
    (e.0 ∙ a.seat_is.table, omega arith, allows_look _ _ _ _ (ap (λ (m : Me Slot View). m.0.layout) e.2 ∙ a.seat_is.layout) (ap (λ (m : Me Slot View). m.0.holds) e.2 ∙ a.without))
