-- A seat of the book, before and after its steps.
use Rattle.std.specs.Prelude.{◌≡◌, ℕ, true, false, List, [], ◌∷◌, ◌++◌, None, All}
use Rattle.atomic_table.specs.declared.shared.Seat.{Seat}
use Rattle.fleet_base.specs.declared.request.Entry.{Entry}
use Rattle.fleet_base.specs.History.{caller_of}
use Rattle.plain_book.specs.BookState.{BookState}
use Rattle.book_trait.specs.Passes.{IsShared}
use Rattle.turn_book.specs.declared.rule.Layout.{Layout}
use Rattle.turn_book.specs.declared.rule.View.{View}
use Rattle.turn_book.specs.declared.steps.TurnBook.{TurnBook}
use Rattle.turn_book.specs.Turns.{Slot, kind_of, IsAfter, Looks, NamesAnother, with_turn, without_turn, given, looked, both}

abbrev pub layout_of : TurnBook → Layout
layout_of b = b.table.shared.key

-- the seat is one of the book's
pub record IsSeat (b : TurnBook) (seat : Seat Slot View) : Type 0 where
  pub table : seat.table_id ≡ b.table.shared.table_id
  pub of_book : seat.me.0.of_book ≡ true
  pub layout : seat.me.0.layout ≡ layout_of b

-- the seat doesn't have the turn
pub record IsAside (b : TurnBook) (seat : Seat Slot View) : Type 0 where
  pub seat_is : IsSeat b seat
  pub without : seat.me.0.holds ≡ false
  pub nothing : seat.me.1 ≡ []

-- the seat of that caller has the turn, and the book is out of its slot
pub record HasOut (b : TurnBook) (caller : ℕ) (seat : Seat Slot View) : Type 0 where
  pub seat_is : IsSeat b seat
  pub with : seat.me.0.holds ≡ true
  pub slot : seat.me.1 ≡ (0, None) ∷ []
  pub callers : seat.me.0.mine.callers ≡ caller ∷ []

-- the turn was free, and the seat took it and the book
pub record HasTaken (b : TurnBook) (caller : ℕ) (old new : Seat Slot View) (book : BookState) : Type 0 where
  pub out : HasOut b caller new
  pub view : new.me.0 ≡ with_turn old.me.0 new.me.0.mine.seen
  pub looks : Looks old.me.0 new.me.0.mine.seen
  pub after : IsAfter (layout_of b) new.me.0.mine.seen book

-- the turn was another caller's
pub record HasMissed (b : TurnBook) (old new : Seat Slot View) : Type 0 where
  pub aside : IsAside b new
  pub view : new.me.0 ≡ without_turn old.me.0 new.me.0.found
  pub another : NamesAnother (layout_of b).callers old.me.0.mine.callers new.me.0.found

-- the entries are the caller's, and the list with them leads to the book
pub record MayGive (b : TurnBook) (caller : ℕ) (seen more : List Entry) (book : BookState) : Type 0 where
  pub by : All (λ e. caller_of e ≡ caller) more
  pub shared : IsShared (kind_of (layout_of b)) (seen ++ more)
  pub after : IsAfter (layout_of b) (seen ++ more) book

-- the seat gave the turn back
pub record HasGiven (b : TurnBook) (old new : Seat Slot View) (more : List Entry) (full : ℕ) : Type 0 where
  pub aside : IsAside b new
  pub view : new.me.0 ≡ given old.me.0 more full

-- the seat took in what the other knew, and looked at the list
pub record HasMerged (b : TurnBook) (old new other : Seat Slot View) : Type 0 where
  pub aside : IsAside b new
  pub view : new.me.0 ≡ looked (both old.me.0 other.me.0) new.me.0.mine.seen
  pub looks : Looks (both old.me.0 other.me.0) new.me.0.mine.seen
