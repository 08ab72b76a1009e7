-- What a book, a pass, a note and a joined value stand for, and what holds of each.
use Rattle.std.specs.Prelude.{◌≡◌, ◌==◌, ℕ, ◌+◌, ◌<◌, ◌≤◌, ◌⊎◌, List, [], length, filter, All, Any, IfSome}
use Rattle.fleet_base.specs.declared.request.RouteId.{RouteId}
use Rattle.fleet_base.specs.declared.request.Live.{Live}
use Rattle.fleet_base.specs.declared.request.Entry.{Entry}
use Rattle.fleet_base.specs.Terrain.{Terrain}
use Rattle.fleet_base.specs.History.{Past, nothing, past_of, book_after, caller_of, reply_of, EachFollows, IsStrong, IsLive}

-- what a book is for: its grid and horizon, and how many callers it has
pub record BookView : Type 0 where
  pub grid : Terrain
  pub horizon : ℕ
  pub callers : ℕ

-- a caller, what it has seen of the book's one list, its last stamp, how often it was answered 'again' and 'full', and
-- how many notes it has told
pub record PassView : Type 0 where
  pub caller : ℕ
  pub seen : List Entry
  pub last : ℕ
  pub again : ℕ
  pub full : ℕ
  pub told : ℕ

-- what a note hands on: what its pass had seen, and its last stamp
pub record NoteView : Type 0 where
  pub seen : List Entry
  pub last : ℕ

-- callers that have ended, what they have seen together, and how often they were answered 'again' and 'full'
pub record JoinedView : Type 0 where
  pub callers : List ℕ
  pub seen : List Entry
  pub again : ℕ
  pub full : ℕ

-- the entries of one caller, in their order
abbrev pub entries_of : ℕ → List Entry → List Entry
entries_of c list = filter (λ e. caller_of e == c) list

-- the caller's own entries
abbrev pub own : PassView → List Entry
own p = entries_of p.caller p.seen

-- the caller's live routes
abbrev pub live_routes : PassView → List Live
live_routes p = book_after (own p)

-- the caller has a live route of this stamp
abbrev pub HasLive : PassView → ℕ → Type 0
HasLive p stamp = IsLive record { stamp = stamp; caller = p.caller } (live_routes p)

-- the stamp of the entry is at most the number of replies up to it, itself included
abbrev pub IsCounted : Past → Entry → Type 0
IsCounted p e = IfSome (reply_of e) (λ id. id.stamp ≤ length p.replies + 1)

-- a beginning of the one list of a book: strong, so that its journal is legal too, with stamps no higher than counted,
-- and by callers of the book alone
pub record IsShared (b : BookView) (list : List Entry) : Type 0 where
  pub strong : IsStrong b.grid b.horizon list
  pub counted : EachFollows IsCounted nothing list
  pub callers : All (λ e. caller_of e < b.callers) list

-- the stamp is 0, or that of a reply in the list
abbrev pub IsStampIn : ℕ → List Entry → Type 0
IsStampIn stamp list = (stamp ≡ 0) ⊎ Any (λ (id : RouteId). id.stamp ≡ stamp) (past_of list).replies

-- the pass of a caller of the book: its last stamp stands in what it has seen, and none of its own is above it
pub record IsPass (b : BookView) (p : PassView) : Type 0 where
  pub caller : p.caller < b.callers
  pub list : IsShared b p.seen
  pub last : IsStampIn p.last p.seen
  pub over : All (λ (id : RouteId). id.stamp ≤ p.last) (past_of (own p)).replies

pub record IsNote (b : BookView) (n : NoteView) : Type 0 where
  pub list : IsShared b n.seen
  pub last : IsStampIn n.last n.seen

pub record IsJoined (b : BookView) (j : JoinedView) : Type 0 where
  pub callers : All (λ c. c < b.callers) j.callers
  pub list : IsShared b j.seen

-- the caller's pass as the book's opening gives it
abbrev pub fresh : ℕ → PassView
fresh c = record { caller = c; seen = []; last = 0; again = 0; full = 0; told = 0 }
