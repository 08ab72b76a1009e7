-- What a ticket stands for.
use Rattle.std.specs.Prelude.{◌≡◌, ℕ, Bool, false, List, []}
use Rattle.ticket_line.specs.declared.line.Ticket.{Ticket}
use Rattle.ticket_line.specs.declared.line.TicketLine.{TicketLine}

-- how many numbers the line has, and how many tickets it was opened with
abbrev pub count_of : TicketLine → ℕ
count_of line = line.table.shared.key.count

abbrev pub workers_of : TicketLine → ℕ
workers_of line = line.table.shared.key.workers

-- for how many tickets of the line it stands
abbrev pub parts : Ticket → ℕ
parts t = t.seat.me.0.parts

-- the numbers that were drawn with it, in their order
abbrev pub drawn : Ticket → List ℕ
drawn t = t.seat.me.0.drawn

-- it was answered none
abbrev pub has_ended : Ticket → Bool
has_ended t = t.ended

-- the ticket belongs to the line
pub record IsOf (line : TicketLine) (t : Ticket) : Type 0 where
  pub table : t.seat.table_id ≡ line.table.shared.table_id
  pub count : t.count ≡ line.table.shared.key.count
  pub workers : t.seat.me.0.workers ≡ line.table.shared.key.workers

-- one ticket, with which nothing was drawn
pub record IsNew (t : Ticket) : Type 0 where
  pub part : parts t ≡ 1
  pub nothing : drawn t ≡ []
  pub not_ended : has_ended t ≡ false
