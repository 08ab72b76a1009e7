-- One lane while its orders are answered.
use Rattle.std.specs.Prelude.{◌≡◌, ℕ, ◌<◌, Bool, List, [], ◌∷◌, ◌++◌, length, MatchBool}
use Rattle.fleet_base.specs.declared.request.RouteId.{RouteId}
use Rattle.order_text.specs.declared.lane.Lane.{Lane}
use Rattle.lane_runs.specs.declared.answer.Answer.{Answer}
use Rattle.lane_runs.specs.Answers.{entries_made}
use Rattle.lane_runs.specs.Answering.{AreBeingAnswered}
use Rattle.book_trait.specs.Passes.{PassView, HasLive}
use Rattle.planner_pool.specs.Tries.{Makes, Counts}

-- the route is the caller's, and live
pub record IsOwnLive (q : PassView) (id : RouteId) : Type 0 where
  pub caller : id.caller ≡ q.caller
  pub live : HasLive q id.stamp

-- the first orders of the lane are answered by the pass, and the routes that none of them ended are live and its caller's
abbrev pub IsAnswering : Lane → List Answer → PassView → Type 0
IsAnswering lane answers q = AreBeingAnswered lane.first lane.orders answers q.last (IsOwnLive q)

-- one more order was answered
pub record AnswersOrder (lane : Lane) (before : List Answer) (p : PassView) (answers : List Answer) (q : PassView) : Type 0 where
  pub answer : Answer
  pub one_more : answers ≡ before ++ answer ∷ []
  pub makes : Makes p (entries_made (answer ∷ [])) q
  pub counts : Counts p q 1 0
  pub so_far : IsAnswering lane answers q

-- the next order was left
pub record IsLeft (before : List Answer) (p : PassView) (answers : List Answer) (q : PassView) : Type 0 where
  pub same : answers ≡ before
  pub makes : Makes p [] q
  pub counts : Counts p q 0 1

-- what became of a lane: all its orders were answered, or the next one was left
pub record RunsLane (lane : Lane) (p : PassView) (answers : List Answer) (done : Bool) (q : PassView) : Type 0 where
  pub so_far : IsAnswering lane answers q
  pub makes : Makes p (entries_made answers) q
  pub ends : MatchBool done ((length answers ≡ length lane.orders) × Counts p q (length answers) 0) ((length answers < length lane.orders) × Counts p q (length answers) 1)

-- the loop over a lane: so many orders are answered, by these entries
pub record IsAt (lane : Lane) (p : PassView) (next : ℕ) (answers : List Answer) (q : PassView) : Type 0 where
  pub so_far : IsAnswering lane answers q
  pub makes : Makes p (entries_made answers) q
  pub count : length answers ≡ next
  pub counts : Counts p q next 0
