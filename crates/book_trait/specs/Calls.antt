-- What each call of a shared book does to the pass that makes it.
use Rattle.std.specs.Prelude.{◌≡◌, ℕ, ◌+◌, ◌<◌, List, [], ◌∷◌, ◌++◌, max, Contains}
use Rattle.fleet_base.specs.declared.request.Request.{Request}
use Rattle.fleet_base.specs.declared.request.Entry.{Entry}
use Rattle.fleet_base.specs.declared.request.Entry.TheVariants.{Commit, Cancel, NoRoute}
use Rattle.fleet_base.specs.History.{caller_of}
use Rattle.book_trait.specs.declared.reply.Reply.{Reply}
use Rattle.book_trait.specs.declared.reply.Reply.TheVariants as R
use Rattle.book_trait.specs.declared.reply.PlanStop.{PlanStop}
use Rattle.book_trait.specs.declared.reply.PlanStop.TheVariants as P
use Rattle.book_trait.specs.declared.reply.CancelStop.{CancelStop}
use Rattle.book_trait.specs.declared.reply.CancelStop.TheVariants as C
use Rattle.book_trait.specs.Passes.{PassView, NoteView, JoinedView, entries_of, own, HasLive}

-- the list goes on from what it was
pub record GoesOn (before list : List Entry) : Type 0 where
  pub more : List Entry
  pub is : list ≡ before ++ more

-- the entry stands in the list once, after all that the pass had seen, and no other new one is its caller's
pub record Adds (p : PassView) (e : Entry) (q : PassView) : Type 0 where
  pub between : List Entry
  pub behind : List Entry
  pub seen : q.seen ≡ p.seen ++ between ++ e ∷ behind
  pub by : caller_of e ≡ p.caller
  pub others : entries_of p.caller (between ++ behind) ≡ []
  pub rest : q ≡ record p { seen = q.seen; last = q.last }

-- the entry of a reply to the caller's request
abbrev pub entry_of : ℕ → Request → Reply → Entry
entry_of caller q (R.Committed id walk era) = Commit id era q walk
entry_of caller q (R.NoRoute stamp era) = NoRoute stamp caller era q

abbrev pub stamp_of : Reply → ℕ
stamp_of (R.Committed id walk era) = id.stamp
stamp_of (R.NoRoute stamp era) = stamp

-- a plan was answered: its entry was added, and its stamp, which is the last one now, is above the last one before
pub record Plans (p : PassView) (q : Request) (r : Reply) (p' : PassView) : Type 0 where
  pub adds : Adds p (entry_of p.caller q r) p'
  pub rises : p.last < stamp_of r
  pub last : p'.last ≡ stamp_of r

-- a cancel was answered: the caller's route of that stamp was live, and its end was added
pub record Cancels (p : PassView) (stamp era : ℕ) (p' : PassView) : Type 0 where
  pub live : HasLive p stamp
  pub adds : Adds p (Cancel record { stamp = stamp; caller = p.caller } era) p'
  pub last : p'.last ≡ p.last

-- no entry was made, and the counts of 'again' and 'full' grew by these
pub record Refuses (p : PassView) (again full : ℕ) (p' : PassView) : Type 0 where
  pub goes_on : GoesOn p.seen p'.seen
  pub own : own p' ≡ own p
  pub rest : p' ≡ record p { seen = p'.seen; again = p.again + again; full = p.full + full }

abbrev pub PlanStops : {W : Type 0} → PassView → PlanStop W → PassView → Type 0
PlanStops p (P.Again word cause) p' = Refuses p 1 0 p'
PlanStops p (P.Full kind) p' = Refuses p 0 1 p'
PlanStops p P.Memory p' = Refuses p 0 0 p'

-- of the refusals of a cancel, 'not live' comes exactly where the caller has no live route of that stamp
abbrev pub CancelStops : {W : Type 0} → PassView → ℕ → CancelStop W → PassView → Type 0
CancelStops p stamp C.NotLive p' = Refuses p 0 0 p' × ¬ (HasLive p stamp)
CancelStops p stamp (C.Again word cause) p' = Refuses p 1 0 p' × HasLive p stamp
CancelStops p stamp (C.Full kind) p' = Refuses p 0 1 p' × HasLive p stamp

-- a note was told of what the pass has seen
pub record Tells (p : PassView) (n : NoteView) (p' : PassView) : Type 0 where
  pub few : p.told < 4294967295
  pub note : n ≡ record { seen = p.seen; last = p.last }
  pub pass : p' ≡ record p { told = p.told + 1 }

-- no more notes can be counted
pub record IsSpent (p p' : PassView) : Type 0 where
  pub spent : p.told ≡ 4294967295
  pub pass : p' ≡ p

-- the pass has then seen all that both had, so both had seen beginnings of one list
pub record Heeds (p : PassView) (n : NoteView) (p' : PassView) : Type 0 where
  pub mine : GoesOn p.seen p'.seen
  pub theirs : GoesOn n.seen p'.seen
  pub own : own p' ≡ own p
  pub rest : p' ≡ record p { seen = p'.seen; last = max p.last n.last }

-- what a pass stands for once it has ended
abbrev pub rested : PassView → JoinedView
rested p = record { callers = p.caller ∷ []; seen = p.seen; again = p.again; full = p.full }

-- one value for the callers of both: the list goes on from both, and has no entries of these callers but theirs
pub record Joins (a b j : JoinedView) : Type 0 where
  pub first : GoesOn a.seen j.seen
  pub second : GoesOn b.seen j.seen
  pub first_own : (c : ℕ) → Contains a.callers c → entries_of c j.seen ≡ entries_of c a.seen
  pub second_own : (c : ℕ) → Contains b.callers c → entries_of c j.seen ≡ entries_of c b.seen
  pub counts : j ≡ record { callers = a.callers ++ b.callers; seen = j.seen; again = a.again + b.again; full = a.full + b.full }
