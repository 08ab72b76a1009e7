use Rattle.std.proofs.Common.{arith, ap, ◌∙◌, ◌≡◌, ◌+◌}
use Rattle.atomic_table.specs.Table.{Me}
use Rattle.ticket_line.specs.declared.hand.Hand.{Hand}
use Rattle.ticket_line.proofs.Keeps.{joins_both, allows_look}
use Rattle.ticket_line.proofs.line.TicketLine.merge.Goals as goal

pub join_seat-requires : goal.join_seat-requires
join_seat-requires c =
    let w = c.args.self.now.words in (
      c.requires.first.0,
      c.requires.second.0,
      c.requires.second.1,
      omega arith,
      joins_both _ _ _ _ _ c.requires.first.1,
    )

pub load-requires : goal.load-requires
load-requires c =
    let w = c.args.self.now.words in
    let both : c.join_seat.new.seat.me.0.parts ≡ c.args.seat.now.me.0.parts + c.args.other.me.0.parts = ap (λ (m : Me Unit Hand). m.0.parts) c.join_seat.ensures.2 in
    let some_parts = c.requires.first.1 in
    (c.join_seat.ensures.0 ∙ c.requires.first.0, omega arith, allows_look _ _ _ _ (omega arith))
