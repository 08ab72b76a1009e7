-- A crew of workers, and what they did together.
use Rattle.std.specs.Prelude.{◌≡◌, ℕ, ◌+◌, ◌≤◌, length, true, List, Some, slice_get}
use Rattle.std.specs.List.{range_with_len}
use Rattle.order_text.specs.declared.lane.Lane.{Lane}
use Rattle.book_trait.specs.Passes.{BookView, PassView, JoinedView, IsJoined, fresh}
use Rattle.ticket_line.specs.declared.line.Ticket.{Ticket}
use Rattle.ticket_line.specs.declared.line.TicketLine.{TicketLine}
use Rattle.ticket_line.specs.Tickets.{IsOf, IsNew, parts, drawn, has_ended, count_of, workers_of}
use Rattle.ticket_line.specs.Numbers.{EachOnce}
use Rattle.planner_pool.specs.declared.worker.Work.{Work}
use Rattle.planner_pool.specs.Parts.{AreOnGrid, HasWorked}

-- the passes of the callers from this number on, as the book's opening gives them
pub record AreFresh {P : Type 0} (has : P → Type 0) (view : P → PassView) (from : ℕ) (passes : List P) : Type 0 where
  pub each : (k : ℕ) (p : P) → slice_get passes k ≡ Some p → has p × (view p ≡ fresh (from + k))

-- tickets of the line with which nothing was drawn
pub record AreNew (line : TicketLine) (tickets : List Ticket) : Type 0 where
  pub each : (k : ℕ) (t : Ticket) → slice_get tickets k ≡ Some t → IsOf line t × IsNew t

-- so many callers, from this number on, have ended, and the line's tickets are gathered as far as they were theirs
pub record IsDone {J : Type 0} (book : BookView) (has : J → Type 0) (view : J → JoinedView) (line : TicketLine) (lanes : List Lane) (from n : ℕ) (w : Work J) : Type 0 where
  pub of_book : has w.joined
  pub is_joined : IsJoined book (view w.joined)
  pub callers : (view w.joined).callers ≡ range_with_len from n
  pub of_line : IsOf line w.ticket
  pub share : parts w.ticket ≡ n
  pub ended : has_ended w.ticket ≡ true
  pub all : workers_of line ≡ n → EachOnce (count_of line) (drawn w.ticket)
  pub worked : HasWorked lanes (drawn w.ticket) w.answers.items w.left.items (view w.joined)

-- what a crew needs: a fresh pass and a new ticket for each worker, and lanes as many as the line has numbers
pub record CanRun {P : Type 0} (has : P → Type 0) (view : P → PassView) (line : TicketLine) (cells : ℕ) (lanes : List Lane) (from : ℕ) (passes : List P) (tickets : List Ticket) : Type 0 where
  pub some_passes : 1 ≤ length passes
  pub few : from + length passes ≤ 16
  pub fresh_passes : AreFresh has view from passes
  pub one_each : length tickets ≡ length passes
  pub new_tickets : AreNew line tickets
  pub count : count_of line ≡ length lanes
  pub on_grid : AreOnGrid cells lanes
