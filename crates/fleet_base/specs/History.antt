-- Histories: lists of entries, what they leave live, and which of them are legal and strong.
use Rattle.std.specs.Prelude.{◌≡◌, ℕ, ◌+◌, ◌<◌, ◌≤◌, Bool, ◌&&◌, ◌==◌, nat_lt, List, [], ◌∷◌, Option, Some, None, IsTrue, All, filter, fold}
use Rattle.std.proofs.Common.{not}
use Rattle.std.specs.List.{list_any}
use Rattle.fleet_base.specs.declared.request.RouteId.{RouteId}
use Rattle.fleet_base.specs.declared.request.Request.{Request}
use Rattle.fleet_base.specs.declared.request.Entry.{Entry}
use Rattle.fleet_base.specs.declared.request.Entry.TheVariants.{Commit, Cancel, NoRoute}
use Rattle.fleet_base.specs.declared.request.Live.{Live}
use Rattle.fleet_base.specs.Terrain.{Terrain}
use Rattle.fleet_base.specs.TimedWalk.{TimedWalk, arrival}
use Rattle.fleet_base.specs.Planned.{IsLeast, NoneBefore, NoneFree}

-- the stamp and the caller of a commit or of a reply without a route
abbrev pub reply_of : Entry → Option RouteId
reply_of (Commit id era q w) = Some id
reply_of (Cancel id era) = None
reply_of (NoRoute stamp caller era q) = Some (record { stamp = stamp; caller = caller })

abbrev pub caller_of : Entry → ℕ
caller_of (Commit id era q w) = id.caller
caller_of (Cancel id era) = id.caller
caller_of (NoRoute stamp caller era q) = caller

abbrev pub era_of : Entry → ℕ
era_of (Commit id era q w) = era
era_of (Cancel id era) = era
era_of (NoRoute stamp caller era q) = era

abbrev pub same_id : RouteId → RouteId → Bool
same_id a b = (a.stamp == b.stamp) && (a.caller == b.caller)

-- what a list of entries comes to: the live routes, the number of cancels, and the replies
pub record Past : Type 0 where
  pub book : List Live
  pub era : ℕ
  pub replies : List RouteId

abbrev pub nothing : Past
nothing = record { book = []; era = 0; replies = [] }

-- one entry more
abbrev pub followed_by : Past → Entry → Past
followed_by p (Commit id era q w) = record { book = record { id = id; walk = w } ∷ p.book; era = p.era; replies = id ∷ p.replies }
followed_by p (Cancel id era) = record { book = filter (λ r. not (same_id r.id id)) p.book; era = p.era + 1; replies = p.replies }
followed_by p (NoRoute stamp caller era q) = record { book = p.book; era = p.era; replies = record { stamp = stamp; caller = caller } ∷ p.replies }

abbrev pub past_of : List Entry → Past
past_of entries = fold followed_by nothing entries

abbrev pub book_after : List Entry → List Live
book_after entries = (past_of entries).book

-- some live route of the book has this id
abbrev pub IsLive : RouteId → List Live → Type 0
IsLive id book = IsTrue (list_any (λ r. same_id r.id id) book)

-- a reply of the same caller has a lower stamp
abbrev pub IsAbove : RouteId → RouteId → Type 0
IsAbove id old = old.caller ≡ id.caller → old.stamp < id.stamp

-- the stamp is in range, and above each stamp that the caller had
pub record IsNewStamp (id : RouteId) (replies : List RouteId) : Type 0 where
  pub low : 1 ≤ id.stamp
  pub high : id.stamp ≤ 67108863
  pub above : All (IsAbove id) replies

pub record MayCommit (g : Terrain) (horizon : ℕ) (p : Past) (id : RouteId) (era : ℕ) (q : Request) (w : TimedWalk) : Type 0 where
  pub in_era : era ≡ p.era
  pub new_stamp : IsNewStamp id p.replies
  pub least : IsLeast g horizon q p.book w

pub record MayCancel (p : Past) (id : RouteId) (era : ℕ) : Type 0 where
  pub in_era : era ≡ p.era
  pub live : IsLive id p.book

pub record MayRefuse (g : Terrain) (horizon : ℕ) (p : Past) (id : RouteId) (era : ℕ) (q : Request) : Type 0 where
  pub in_era : era ≡ p.era
  pub new_stamp : IsNewStamp id p.replies
  pub none_free : NoneFree g horizon q p.book

-- the entry may follow what came before
abbrev pub IsAllowed : Terrain → ℕ → Past → Entry → Type 0
IsAllowed g horizon p (Commit id era q w) = MayCommit g horizon p id era q w
IsAllowed g horizon p (Cancel id era) = MayCancel p id era
IsAllowed g horizon p (NoRoute stamp caller era q) = MayRefuse g horizon p (record { stamp = stamp; caller = caller }) era q

-- the routes of lower stamps, which alone are enough for the answer
abbrev pub known : ℕ → List Live → List Live
known stamp book = filter (λ r. nat_lt r.id.stamp stamp) book

abbrev pub IsForeseen : Terrain → ℕ → Past → Entry → Type 0
IsForeseen g horizon p (Commit id era q w) = NoneBefore g horizon q (known id.stamp p.book) (arrival w)
IsForeseen g horizon p (Cancel id era) = Unit {0}
IsForeseen g horizon p (NoRoute stamp caller era q) = NoneFree g horizon q (known stamp p.book)

abbrev pub IsStronglyAllowed : Terrain → ℕ → Past → Entry → Type 0
IsStronglyAllowed g horizon p e = IsAllowed g horizon p e × IsForeseen g horizon p e

-- each entry may follow what came before it
abbrev pub EachFollows : (Past → Entry → Type 0) → Past → List Entry → Type 0
EachFollows May p [] = Unit {0}
EachFollows May p (e ∷ es) = May p e × EachFollows May (followed_by p e) es

abbrev pub IsLegal : Terrain → ℕ → List Entry → Type 0
IsLegal g horizon entries = EachFollows (IsAllowed g horizon) nothing entries

abbrev pub IsStrong : Terrain → ℕ → List Entry → Type 0
IsStrong g horizon entries = EachFollows (IsStronglyAllowed g horizon) nothing entries
