-- What workers did over the lanes that they drew.
use Rattle.std.specs.Prelude.{◌≡◌, ℕ, ◌+◌, ◌≤◌, List, [], length, map, All, Contains, Option, Some, None, slice_get, nat_le}
use Rattle.std.specs.List.{flat_map}
use Rattle.fleet_base.specs.declared.request.RouteId.{RouteId}
use Rattle.fleet_base.specs.History.{caller_of, book_after, IsLive}
use Rattle.order_text.specs.declared.lane.Lane.{Lane}
use Rattle.order_text.specs.Lanes.{IsLane, after_lane}
use Rattle.lane_runs.specs.declared.answer.Answer.{Answer}
use Rattle.lane_runs.specs.declared.answer.Left.{Left}
use Rattle.lane_runs.specs.Answers.{entries_made}
use Rattle.lane_runs.specs.Answering.{AreBeingAnswered}
use Rattle.book_trait.specs.Passes.{PassView, JoinedView, entries_of}
use Rattle.planner_pool.specs.Tries.{Makes, Counts}
use Rattle.planner_pool.specs.LaneSteps.{IsOwnLive}
use Rattle.planner_pool.specs.Runs.{rest_of}
use Rattle.planner_pool.specs.PoolRun.{AreCounted}

-- lanes of which each may be run by itself
pub record AreOnGrid (cells : ℕ) (lanes : List Lane) : Type 0 where
  pub each : (k : ℕ) (lane : Lane) → slice_get lanes k ≡ Some lane → IsLane cells lane × (after_lane lane ≤ 32767)

-- what became of one lane: its place, who drew it, and the answers to its first orders
pub record Part : Type 0 where
  pub lane : ℕ
  pub caller : ℕ
  pub answers : List Answer

-- the answers are right, with stamps up to this last one, and by the caller; the routes that none of them ended live
pub record IsPart (lanes : List Lane) (last : ℕ) (Lives : RouteId → Type 0) (p : Part) : Type 0 where
  pub orders : Lane
  pub at : slice_get lanes p.lane ≡ Some orders
  pub answering : AreBeingAnswered orders.first orders.orders p.answers last Lives
  pub by : All (λ e. caller_of e ≡ p.caller) (entries_made p.answers)

-- the rest of the lane that the part left
abbrev pub left_of : Option Lane → Part → List Left
left_of None p = []
left_of (Some lane) p = rest_of (nat_le (length lane.orders) (length p.answers)) p.lane (lane.first + length p.answers)

-- the answers are those of these parts, and so are the lanes that were left
pub record AreMadeOf (lanes : List Lane) (parts : List Part) (answers : List Answer) (left : List Left) : Type 0 where
  pub answers_are : answers ≡ flat_map (λ p. p.answers) parts
  pub left_are : left ≡ flat_map (λ p. left_of (slice_get lanes p.lane) p) parts

-- one worker so far: the lanes that its ticket has drawn, one part each
pub record IsWorking (lanes : List Lane) (p : PassView) (drawn : List ℕ) (answers : List Answer) (left : List Left) (q : PassView) : Type 0 where
  pub parts : List Part
  pub each : All (IsPart lanes q.last (IsOwnLive q)) parts
  pub made_of : AreMadeOf lanes parts answers left
  pub drawn_are : map (λ x. x.lane) parts ≡ drawn
  pub makes : Makes p (entries_made answers) q
  pub counts : Counts p q (length answers) (length left)

-- the route is one of these callers, and live by the caller's own entries
pub record IsTheirs (j : JoinedView) (id : RouteId) : Type 0 where
  pub caller : Contains j.callers id.caller
  pub live : IsLive id (book_after (entries_of id.caller j.seen))

-- some workers that have ended: of each of their callers the list has the entries made, and the answers have no others
pub record HasWorked (lanes : List Lane) (drawn : List ℕ) (answers : List Answer) (left : List Left) (j : JoinedView) : Type 0 where
  pub parts : List Part
  pub last : ℕ
  pub each : All (IsPart lanes last (IsTheirs j)) parts
  pub made_of : AreMadeOf lanes parts answers left
  pub drawn_are : map (λ x. x.lane) parts ≡ drawn
  pub theirs : (c : ℕ) → Contains j.callers c → entries_of c j.seen ≡ entries_of c (entries_made answers)
  pub no_others : (c : ℕ) → ¬ (Contains j.callers c) → entries_of c (entries_made answers) ≡ []
  pub counts : AreCounted j (length answers) (length left)
