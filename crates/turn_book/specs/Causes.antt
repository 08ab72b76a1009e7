-- Why a call of the book is refused: what its one exchange found, or what there is no room for.
use Rattle.std.specs.Prelude.{◌≡◌, ℕ, ◌+◌, [], ◌∷◌, length}
use Rattle.fleet_base.specs.History.{past_of}
use Rattle.book_trait.specs.declared.reply.Cause.TheVariants.{Held}
use Rattle.book_trait.specs.declared.reply.FullKind.TheVariants.{StampsSpent, ErasSpent}
use Rattle.book_trait.specs.declared.reply.Reply.{Reply}
use Rattle.book_trait.specs.Calls.{stamp_of}
use Rattle.book_trait.specs.declared.reply.PlanStop.{PlanStop}
use Rattle.book_trait.specs.declared.reply.PlanStop.TheVariants as P
use Rattle.book_trait.specs.declared.reply.CancelStop.{CancelStop}
use Rattle.book_trait.specs.declared.reply.CancelStop.TheVariants as C
use Rattle.turn_book.specs.declared.steps.TurnBook.{TurnBook}
use Rattle.turn_book.specs.declared.pass.Turn.{Turn}
use Rattle.turn_book.specs.declared.pass.TurnPass.{TurnPass}
use Rattle.turn_book.specs.Turns.{NamesAnother}
use Rattle.turn_book.specs.Seats.{layout_of}

-- how many exchanges of the pass were to take the turn, and which word the last one found
abbrev pub tries : TurnPass → ℕ
tries p = p.seat.me.0.tries

abbrev pub found : TurnPass → ℕ
found p = p.seat.me.0.found

pub record SameTry (p p' : TurnPass) : Type 0 where
  pub tries : tries p' ≡ tries p
  pub found : found p' ≡ found p

-- the one exchange found the turn free
pub record FoundFree (p p' : TurnPass) : Type 0 where
  pub once : tries p' ≡ tries p + 1
  pub free : found p' ≡ 0

-- the one exchange found another caller's number
pub record FoundTaken (b : TurnBook) (p p' : TurnPass) : Type 0 where
  pub once : tries p' ≡ tries p + 1
  pub another : NamesAnother (layout_of b).callers (p.caller ∷ []) (found p')

-- the reply's stamp is the number of replies up to it
abbrev pub IsCountedStamp : Reply → TurnPass → Type 0
IsCountedStamp r p = stamp_of r ≡ length (past_of p.seat.me.0.mine.seen).replies

-- as many replies as there are stamps, which rise by 1 from 1 on
abbrev pub AreStampsSpent : TurnPass → Type 0
AreStampsSpent p = length (past_of p.seat.me.0.mine.seen).replies ≡ 67108863

-- as many cancels as there are eras
abbrev pub AreErasSpent : TurnPass → Type 0
AreErasSpent p = (past_of p.seat.me.0.mine.seen).era ≡ 1099511627775

-- why a call stops in its turn
abbrev pub PlanIsShort : PlanStop Turn → TurnPass → Type 0
PlanIsShort (P.Again word cause) p' = ⊥
PlanIsShort (P.Full kind) p' = (kind ≡ StampsSpent) × AreStampsSpent p'
PlanIsShort P.Memory p' = Unit {0}

abbrev pub CancelIsShort : CancelStop Turn → TurnPass → Type 0
CancelIsShort C.NotLive p' = ⊥
CancelIsShort (C.Again word cause) p' = ⊥
CancelIsShort (C.Full kind) p' = (kind ≡ ErasSpent) × AreErasSpent p'

abbrev pub PlanCause : TurnBook → TurnPass → PlanStop Turn → TurnPass → Type 0
PlanCause b p (P.Again word cause) p' = (cause ≡ Held) × FoundTaken b p p'
PlanCause b p (P.Full kind) p' = (kind ≡ StampsSpent) × FoundFree p p' × AreStampsSpent p'
PlanCause b p P.Memory p' = FoundFree p p'

-- nothing is tried where the pass has no such live route
abbrev pub CancelCause : TurnBook → TurnPass → CancelStop Turn → TurnPass → Type 0
CancelCause b p C.NotLive p' = p' ≡ p
CancelCause b p (C.Again word cause) p' = (cause ≡ Held) × FoundTaken b p p'
CancelCause b p (C.Full kind) p' = (kind ≡ ErasSpent) × FoundFree p p' × AreErasSpent p'
