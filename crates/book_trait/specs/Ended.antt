-- A book whose history is over, and its onlookers.
use Rattle.std.specs.Prelude.{◌≡◌, ◌≢◌, ℕ, ◌<◌, ◌≤◌, List, length, take, All}
use Rattle.fleet_base.specs.declared.request.Entry.{Entry}
use Rattle.fleet_base.specs.History.{caller_of}
use Rattle.book_trait.specs.declared.reply.PlanStop.{PlanStop}
use Rattle.book_trait.specs.declared.reply.PlanStop.TheVariants as P
use Rattle.book_trait.specs.declared.reply.CancelStop.{CancelStop}
use Rattle.book_trait.specs.declared.reply.CancelStop.TheVariants as C
use Rattle.book_trait.specs.declared.ended_book.EndedBook.{EndedBook}
use Rattle.book_trait.specs.declared.ended_book.Onlooker.{Onlooker}
use Rattle.book_trait.specs.declared.ended_book.EndedNote.{EndedNote}
use Rattle.book_trait.specs.declared.ended_book.EndedCallers.{EndedCallers}
use Rattle.book_trait.specs.declared.ended_book.Over.{Over}
use Rattle.book_trait.specs.Passes.{BookView, PassView, NoteView, JoinedView, IsShared, IsStampIn}
use Rattle.book_trait.specs.EndedCallers.{callers_in, again_in}

abbrev pub ended_book : EndedBook → BookView
ended_book b = record { grid = b.grid.now; horizon = b.horizon; callers = b.callers }

abbrev pub onlooker : Onlooker → PassView
onlooker p = record { caller = p.caller; seen = take p.seen p.entries.now; last = p.last; again = p.again; full = 0; told = p.told }

abbrev pub ended_note : EndedNote → NoteView
ended_note n = record { seen = take n.seen n.entries.now; last = n.last }

abbrev pub ended_callers : EndedCallers → JoinedView
ended_callers j = record { callers = callers_in j.first.value; seen = take j.seen j.entries.now; again = again_in j.first.value; full = 0 }

-- its entries are a history that such a book may have
abbrev pub HasHistory : EndedBook → Type 0
HasHistory b = IsShared (ended_book b) b.entries.now

-- the caller made none of the entries
abbrev pub IsSilent : ℕ → List Entry → Type 0
IsSilent c list = All (λ e. caller_of e ≢ c) list

-- a caller of the book that made none of its entries
pub record IsOnlooker (b : EndedBook) (p : Onlooker) : Type 0 where
  pub history : HasHistory b
  pub entries : p.entries.now ≡ b.entries.now
  pub seen : p.seen ≤ length b.entries.now
  pub caller : p.caller < b.callers
  pub silent : IsSilent p.caller b.entries.now
  pub last : IsStampIn p.last (take p.seen b.entries.now)

pub record IsEndedNote (b : EndedBook) (n : EndedNote) : Type 0 where
  pub history : HasHistory b
  pub entries : n.entries.now ≡ b.entries.now
  pub seen : n.seen ≤ length b.entries.now
  pub last : IsStampIn n.last (take n.seen b.entries.now)

-- callers of the book that made none of its entries
pub record AreEnded (b : EndedBook) (j : EndedCallers) : Type 0 where
  pub history : HasHistory b
  pub entries : j.entries.now ≡ b.entries.now
  pub seen : j.seen ≤ length b.entries.now
  pub callers : All (λ c. c < b.callers) (callers_in j.first.value)
  pub silent : All (λ c. IsSilent c b.entries.now) (callers_in j.first.value)

-- a plan is refused once the pass has seen the whole history, and 'memory' comes only where no more refusals can be counted
abbrev pub PlanIsOver : EndedBook → Onlooker → PlanStop Over → Onlooker → Type 0
PlanIsOver b p (P.Again word cause) p' = p'.seen ≡ length b.entries.now
PlanIsOver b p (P.Full kind) p' = ⊥
PlanIsOver b p P.Memory p' = p.again ≡ 4294967295

abbrev pub HasNoRoute : CancelStop Over → Type 0
HasNoRoute C.NotLive = Unit {0}
HasNoRoute (C.Again word cause) = ⊥
HasNoRoute (C.Full kind) = ⊥
