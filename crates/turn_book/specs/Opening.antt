-- A book that is being opened.
use Rattle.std.specs.Prelude.{◌≡◌, ℕ, ◌-◌, []}
use Rattle.std.specs.List.{range_with_len}
use Rattle.atomic_table.specs.declared.shared.Seat.{Seat}
use Rattle.plain_book.specs.BookState.{BookState}
use Rattle.book_trait.specs.Passes.{fresh}
use Rattle.turn_book.specs.declared.rule.Layout.{Layout}
use Rattle.turn_book.specs.declared.rule.View.{View}
use Rattle.turn_book.specs.declared.steps.TurnBook.{TurnBook}
use Rattle.turn_book.specs.declared.pass.TurnPass.{TurnPass}
use Rattle.turn_book.specs.Turns.{Slot}
use Rattle.turn_book.specs.Seats.{layout_of, IsAside}
use Rattle.turn_book.specs.Passes.{pass_view, IsPassOf}

-- the plain book of the layout, without routes
abbrev pub HasPlain : Layout → BookState → Type 0
HasPlain k b = b ≡ record { grid = k.grid; horizon = k.horizon; routes = []; stamp = 0; era = 0 }

-- the seat of the callers that have no pass yet, from this one on
pub record IsOpening (b : TurnBook) (seat : Seat Slot View) (next : ℕ) : Type 0 where
  pub aside : IsAside b seat
  pub callers : seat.me.0.mine.callers ≡ range_with_len next ((layout_of b).callers - next)
  pub nothing : (seat.me.0.mine.seen ≡ []) × (seat.me.0.again ≡ 0) × (seat.me.0.full ≡ 0)

-- the caller's pass, which has made no call
pub record IsFresh (b : TurnBook) (caller : ℕ) (p : TurnPass) : Type 0 where
  pub pass : IsPassOf b p
  pub view : pass_view p ≡ fresh caller
