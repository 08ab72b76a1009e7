-- What a book, a pass, a note and a joined value stand for, and what each keeps.
use Rattle.std.specs.Prelude.{◌≡◌, ◌==◌, ℕ, ◌<◌, ◌≤◌, List, [], ◌∷◌, Some, slice_get, All, AllPairs}
use Rattle.std.specs.List.{list_any}
use Rattle.fleet_base.specs.History.{same_id}
use Rattle.plain_book.specs.BookState.{BookState}
use Rattle.book_trait.specs.Passes.{BookView, PassView, NoteView, JoinedView, live_routes, IsPass, IsNote, IsJoined, fresh}
use Rattle.turn_book.specs.declared.steps.TurnBook.{TurnBook}
use Rattle.turn_book.specs.declared.pass.TurnPass.{TurnPass}
use Rattle.turn_book.specs.declared.pass.TurnNote.{TurnNote}
use Rattle.turn_book.specs.declared.pass.TurnJoined.{TurnJoined}
use Rattle.turn_book.specs.Turns.{kind_of, IsAfter}
use Rattle.turn_book.specs.Seats.{layout_of, IsAside, HasOut}

abbrev pub book_view : TurnBook → BookView
book_view b = kind_of (layout_of b)

abbrev pub pass_view : TurnPass → PassView
pass_view p = record { caller = p.caller; seen = p.seat.me.0.mine.seen; last = p.last; again = p.seat.me.0.again; full = p.seat.me.0.full; told = p.told }

abbrev pub note_view : TurnNote → NoteView
note_view n = record { seen = n.seat.me.0.mine.seen; last = n.last }

abbrev pub joined_view : TurnJoined → JoinedView
joined_view j = record { callers = j.seat.me.0.mine.callers; seen = j.seat.me.0.mine.seen; again = j.seat.me.0.again; full = j.seat.me.0.full }

-- the list has exactly the stamps of the pass's live routes, and they rise
pub record ListsLive (p : PassView) (live : List ℕ) : Type 0 where
  pub rising : AllPairs (λ x y. x < y) live
  pub low : All (λ x. x ≤ p.last) live
  pub each : (stamp : ℕ) → list_any (λ x. x == stamp) live ≡ list_any (λ r. same_id r.id record { stamp = stamp; caller = p.caller }) (live_routes p)

-- what a pass keeps, in its turn and outside of it
pub record IsKeeping (b : TurnBook) (p : TurnPass) : Type 0 where
  pub callers : p.seat.me.0.mine.callers ≡ p.caller ∷ []
  pub is_pass : IsPass (book_view b) (pass_view p)
  pub live : ListsLive (pass_view p) p.live.items

-- a pass of the book, which doesn't have the turn
pub record IsPassOf (b : TurnBook) (p : TurnPass) : Type 0 where
  pub keeping : IsKeeping b p
  pub aside : IsAside b p.seat

-- a pass of the book, which has the turn
pub record IsInTurn (b : TurnBook) (p : TurnPass) : Type 0 where
  pub keeping : IsKeeping b p
  pub out : HasOut b p.caller p.seat

-- the pass has the turn, and what it has seen leads to the book
pub record HasTurn (b : TurnBook) (p : TurnPass) (book : BookState) : Type 0 where
  pub in_turn : IsInTurn b p
  pub after : IsAfter (layout_of b) p.seat.me.0.mine.seen book

pub record IsNoteOf (b : TurnBook) (n : TurnNote) : Type 0 where
  pub aside : IsAside b n.seat
  pub is_note : IsNote (book_view b) (note_view n)
  pub nobody : n.seat.me.0.mine.callers ≡ []
  pub counts : (n.seat.me.0.again ≡ 0) × (n.seat.me.0.full ≡ 0)

pub record IsJoinedOf (b : TurnBook) (j : TurnJoined) : Type 0 where
  pub aside : IsAside b j.seat
  pub is_joined : IsJoined (book_view b) (joined_view j)

-- pass k is that of the caller k, and has made no call
pub record AreOpened (b : TurnBook) (passes : List TurnPass) : Type 0 where
  pub each : (k : ℕ) (p : TurnPass) → slice_get passes k ≡ Some p → IsPassOf b p × (pass_view p ≡ fresh k)
