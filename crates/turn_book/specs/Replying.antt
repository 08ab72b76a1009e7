-- A book's entry, and what its caller makes of it.
use Rattle.std.specs.Prelude.{◌≡◌, ℕ, ◌+◌, List, [], ◌∷◌}
use Rattle.fleet_base.specs.declared.request.Request.{Request}
use Rattle.fleet_base.specs.declared.request.Entry.{Entry}
use Rattle.fleet_base.specs.declared.request.Entry.TheVariants as E
use Rattle.plain_book.specs.BookState.{BookState, IsOnSameGrid}
use Rattle.plain_book.specs.Replies.{IsReplyTo, EndsRoute}
use Rattle.plain_book.specs.History.{AnswersBook}
use Rattle.book_trait.specs.declared.reply.Reply.{Reply}
use Rattle.book_trait.specs.declared.reply.Reply.TheVariants as R
use Rattle.turn_book.specs.declared.steps.TurnBook.{TurnBook}
use Rattle.turn_book.specs.declared.pass.TurnPass.{TurnPass}
use Rattle.turn_book.specs.Turns.{IsInRange, IsAfter}
use Rattle.turn_book.specs.Seats.{layout_of}

abbrev pub IsReply : Entry → Type 0
IsReply (E.Commit id era q w) = Unit {0}
IsReply (E.Cancel id era) = ⊥
IsReply (E.NoRoute stamp caller era q) = Unit {0}

-- the reply tells what the entry says
abbrev pub IsToldBy : Entry → Reply → Type 0
IsToldBy (E.Commit id era q w) r = r ≡ R.Committed id w era
IsToldBy (E.Cancel id era) r = ⊥
IsToldBy (E.NoRoute stamp caller era q) r = r ≡ R.NoRoute stamp era

-- the stamp of a commit
abbrev pub stamps_in : Entry → List ℕ
stamps_in (E.Commit id era q w) = id.stamp ∷ []
stamps_in (E.Cancel id era) = []
stamps_in (E.NoRoute stamp caller era q) = []

-- the book to which the pass's list leads answered its request by this entry
pub record HasPlanned (b : TurnBook) (p : TurnPass) (q : Request) (e : Entry) (new : BookState) : Type 0 where
  pub before : BookState
  pub was : IsAfter (layout_of b) p.seat.me.0.mine.seen before
  pub reply : IsReplyTo before p.caller q e new
  pub history : AnswersBook before new e
  pub counts : (new.stamp ≡ before.stamp + 1) × (new.era ≡ before.era)
  pub same : IsOnSameGrid before new
  pub in_range : IsInRange new

-- that book ended the pass's route of this stamp
pub record HasEnded (b : TurnBook) (p : TurnPass) (stamp era : ℕ) (e : Entry) (new : BookState) : Type 0 where
  pub before : BookState
  pub was : IsAfter (layout_of b) p.seat.me.0.mine.seen before
  pub era_is : era ≡ before.era
  pub ends : EndsRoute before record { stamp = stamp; caller = p.caller } e new
  pub history : AnswersBook before new e
  pub counts : (new.stamp ≡ before.stamp) × (new.era ≡ before.era + 1)
  pub same : IsOnSameGrid before new
  pub in_range : IsInRange new
