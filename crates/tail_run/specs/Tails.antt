-- A tail while it goes on.
use Rattle.std.specs.Prelude.{◌≡◌, ℕ, ◌+◌, ◌<◌, ◌≤◌, ◌⊎◌, List, [], ◌∷◌, ◌++◌, length, All, Contains, Some, None, IfSome, fold, slice_get, IsPermutation}
use Rattle.fleet_base.specs.declared.request.RouteId.{RouteId}
use Rattle.fleet_base.specs.declared.request.Request.{Request}
use Rattle.fleet_base.specs.declared.request.Entry.{Entry}
use Rattle.fleet_base.specs.Terrain.{Terrain}
use Rattle.fleet_base.specs.History.{Past, past_of, followed_by, reply_of, IsLive, IsStrong, IsStronglyAllowed, EachFollows}
use Rattle.fleet_base.specs.Journal.{Precedes, IsInOrder}
use Rattle.order_text.specs.declared.order.Order.{Order}
use Rattle.order_text.specs.declared.order.Order.TheVariants.{Plan, Cancel}
use Rattle.order_text.specs.declared.lane.Lane.{Lane}
use Rattle.order_text.specs.Lanes.{all_orders}
use Rattle.lane_runs.specs.declared.answer.Answer.{Answer}
use Rattle.lane_runs.specs.declared.answer.Answer.TheVariants.{Made, Gone}
use Rattle.lane_runs.specs.declared.answer.Left.{Left}
use Rattle.lane_runs.specs.Answers.{entries_made, order_of, Committed}
use Rattle.lane_runs.specs.Answering.{AreBeingAnswered}
use Rattle.plain_book.specs.BookState.{LeadsTo, IsOnSameGrid}
use Rattle.plain_book.specs.Replies.{IsReplyTo, EndsRoute}
use Rattle.plain_book.specs.History.{AnswersBook}
use Rattle.plain_run.specs.Underway.{IsBehind}
use Rattle.planner_pool.specs.Runs.{IsRunUpTo}
use Rattle.tail_run.specs.declared.lane.Tail.{Tail}
use Rattle.tail_run.specs.Ids.{noted, ids_of, AreIdsOf}
use Rattle.tail_run.specs.Finished.{HasBegun, IsOfLeft}

-- a reply has this caller
abbrev pub IsReplyBy : ℕ → Entry → Type 0
IsReplyBy caller e = IfSome (reply_of e) (λ id. id.caller ≡ caller)

-- ---- one order

-- the order that a cancel names has a place among the ids, and a route that it was given is live
abbrev pub MayBeAnswered : Tail → Order → Type 0
MayBeAnswered t (Plan q) = (q.start.0 < length t.book.grid.cells) × (q.goal.0 < length t.book.grid.cells)
MayBeAnswered t (Cancel target) = (target < length t.ids.items) × ((id : RouteId) → slice_get t.ids.items target ≡ Some (Some id) → IsLive id t.book.routes)

-- one answer more
pub record HasKept (old new : Tail) (a : Answer) : Type 0 where
  pub answers : new.answers.items ≡ old.answers.items ++ a ∷ []
  pub ids : new.ids.items ≡ noted old.ids.items a

-- a plan was answered by the book
pub record HasPlanned (caller number : ℕ) (q : Request) (old new : Tail) : Type 0 where
  pub entry : Entry
  pub reply : IsReplyTo old.book caller q entry new.book
  pub history : AnswersBook old.book new.book entry
  pub same : IsOnSameGrid old.book new.book
  pub kept : HasKept old new (Made number entry)

-- a cancel is gone, since its target was given no route
pub record HasGone (number target : ℕ) (old new : Tail) : Type 0 where
  pub none : slice_get old.ids.items target ≡ Some None
  pub book : new.book ≡ old.book
  pub kept : HasKept old new (Gone number target)

-- a cancel ended the route that its target was given
pub record HasEnded (number target : ℕ) (old new : Tail) : Type 0 where
  pub id : RouteId
  pub given : slice_get old.ids.items target ≡ Some (Some id)
  pub entry : Entry
  pub ends : EndsRoute old.book id entry new.book
  pub history : AnswersBook old.book new.book entry
  pub same : IsOnSameGrid old.book new.book
  pub kept : HasKept old new (Made number entry)

abbrev pub AnswersOne : ℕ → ℕ → Order → Tail → Tail → Type 0
AnswersOne caller number (Plan q) old new = HasPlanned caller number q old new
AnswersOne caller number (Cancel target) old new = HasGone number target old new ⊎ HasEnded number target old new

-- ---- one lane

-- the lane has these answers to its first orders, of which the first without one has this number
pub record IsStart (lane : Lane) (xs : List Answer) (from : ℕ) (t : Tail) : Type 0 where
  pub answering : AreBeingAnswered lane.first lane.orders xs t.book.stamp (λ id. IsLive id t.book.routes)
  pub ids : AreIdsOf lane xs t.ids.items
  pub place : from ≡ lane.first + length xs

-- The lane, of which these answers were there, has these more. The book may have come to what it is by their entries, and
-- what was behind it stands before them in the journal. The routes of other lanes that were live still are.
pub record GoesOn (caller : ℕ) (lane : Lane) (xs : List Answer) (old : Tail) (more : List Answer) (new : Tail) : Type 0 where
  pub answers : new.answers.items ≡ old.answers.items ++ more
  pub ids : new.ids.items ≡ fold noted old.ids.items more
  pub answering : AreBeingAnswered lane.first lane.orders (xs ++ more) new.book.stamp (λ id. IsLive id new.book.routes)
  pub others : (id : RouteId) → IsLive id old.book.routes → ((j : ℕ) → ¬ (Committed (xs ++ more) j id)) → IsLive id new.book.routes
  pub same : IsOnSameGrid old.book new.book
  pub follows : (p : Past) → LeadsTo p old.book → EachFollows (IsStronglyAllowed old.book.grid old.book.horizon) p (entries_made more) × LeadsTo (fold followed_by p (entries_made more)) new.book
  pub by : All (IsReplyBy caller) (entries_made more)
  pub in_order : IsInOrder (entries_made more)
  pub before : (x : Entry) → IsBehind old.book x → All (Precedes x) (entries_made more)
  pub behind : All (IsBehind new.book) (entries_made more)
  pub eras : (old.book.era ≤ new.book.era) × (new.book.era ≤ old.book.era + length more)
  pub stamps : (old.book.stamp ≤ new.book.stamp) × (new.book.stamp ≤ old.book.stamp + length more)

-- the lane has come to the order at this place
pub record IsAtPlace (caller : ℕ) (lane : Lane) (xs : List Answer) (old : Tail) (place : ℕ) (new : Tail) : Type 0 where
  pub more : List Answer
  pub goes : GoesOn caller lane xs old more new
  pub ids : AreIdsOf lane (xs ++ more) new.ids.items
  pub at : length xs + length more ≡ place

-- ---- all that were left

-- The tail has come so far that these lanes are still left: the entries of all answers are a strong history that leads to the
-- book, and so on for each lane.
pub record IsGoing (g : Terrain) (horizon caller : ℕ) (lanes : List Lane) (made : List Answer) (all left : List Left) (t : Tail) : Type 0 where
  pub by_lane : List (List Answer)
  pub list : List Entry
  pub tail : List Answer
  pub grid : t.book.grid ≡ g
  pub horizon_is : t.book.horizon ≡ horizon
  pub answers_are : t.answers.items ≡ made ++ tail
  pub entries : IsPermutation (entries_made made) list
  pub strong : IsStrong g horizon (list ++ entries_made tail)
  pub leads : LeadsTo (past_of (list ++ entries_made tail)) t.book
  pub run : IsRunUpTo lanes by_lane t.answers.items left
  pub among : (l : Left) → Contains left l → Contains all l
  pub each : (k : ℕ) (lane : Lane) (xs : List Answer) → slice_get lanes k ≡ Some lane → slice_get by_lane k ≡ Some xs
      → AreBeingAnswered lane.first lane.orders xs t.book.stamp (λ id. IsLive id t.book.routes)
  pub in_order : (k : ℕ) (xs : List Answer) → slice_get by_lane k ≡ Some xs → IsInOrder (entries_made xs)
  pub behind : All (IsBehind t.book) (list ++ entries_made tail)
  pub by : All (IsReplyBy caller) (entries_made tail)
  pub of_left : All (λ a. IsOfLeft lanes all (order_of a)) tail
  pub ids : t.ids.items ≡ ids_of (length (all_orders lanes)) t.answers.items
  pub stamps : t.book.stamp ≤ length t.answers.items
  pub eras : t.book.era ≤ length t.answers.items

-- no lane is left of a tail that has come to these answers
pub record AreAtEnd (g : Terrain) (horizon caller : ℕ) (lanes : List Lane) (made : List Answer) (all : List Left) (answers : List Answer) : Type 0 where
  pub tail : Tail
  pub going : IsGoing g horizon caller lanes made all [] tail
  pub answers_are : answers ≡ tail.answers.items

-- the tail that begins after these answers, whichever lanes were left, in whatever order
abbrev pub IsBeginning : Terrain → ℕ → List Lane → List Answer → Tail → Type 0
IsBeginning g horizon lanes made t = (caller : ℕ) (left all : List Left) → HasBegun g horizon lanes made left → IsPermutation left all → IsGoing g horizon caller lanes made all all t

-- a tail of which these lanes are left, after some answers
abbrev pub IsGoingOn : ℕ → List Lane → List Left → Tail → Type 0
IsGoingOn caller lanes left t = (g : Terrain) × (horizon : ℕ) × (made : List Answer) × (all : List Left) × IsGoing g horizon caller lanes made all left t

-- the tail has come from one of which the first lanes were left to one of which the second are, whichever answers were made
abbrev pub ComesTo : ℕ → List Lane → List Left → Tail → List Left → Tail → Type 0
ComesTo caller lanes left t left' t' =
    (g : Terrain) (horizon : ℕ) (made : List Answer) (all : List Left) → IsGoing g horizon caller lanes made all left t → IsGoing g horizon caller lanes made all left' t'

-- the same, of all answers at the end
abbrev pub ComesToEnd : ℕ → List Lane → List Left → Tail → List Answer → Type 0
ComesToEnd caller lanes left t answers =
    (g : Terrain) (horizon : ℕ) (made : List Answer) (all : List Left) → IsGoing g horizon caller lanes made all left t → AreAtEnd g horizon caller lanes made all answers
