-- Orders while they are answered, one after the other.
use Rattle.std.specs.Prelude.{◌≡◌, ℕ, ◌+◌, ◌<◌, ◌≤◌, List, length, Some, slice_get}
use Rattle.fleet_base.specs.declared.request.RouteId.{RouteId}
use Rattle.fleet_base.specs.declared.request.Request.{Request}
use Rattle.order_text.specs.declared.order.Order.{Order}
use Rattle.order_text.specs.declared.order.Order.TheVariants.{Plan, Cancel}
use Rattle.lane_runs.specs.declared.answer.Answer.{Answer}
use Rattle.lane_runs.specs.Answers.{Committed, AreAnswers}

-- each cancel names an earlier plan that no earlier cancel names; the first of the orders has this number
pub record NamePlans (first : ℕ) (orders : List Order) : Type 0 where
  pub plan : (i target : ℕ) → slice_get orders i ≡ Some (Cancel target) → (j : ℕ) × (j < i) × (target ≡ first + j) × (q : Request) × (slice_get orders j ≡ Some (Plan q))
  pub once : (i k target : ℕ) → i < k → slice_get orders i ≡ Some (Cancel target) → slice_get orders k ≡ Some (Cancel target) → ⊥

-- none of so many orders ends the route of the order at place j
abbrev pub NotEnded : ℕ → List Order → ℕ → ℕ → Type 0
NotEnded first orders upto j = (k target : ℕ) → k < upto → slice_get orders k ≡ Some (Cancel target) → target ≡ first + j → ⊥

-- The orders up to now are answered, with rising stamps up to this last one, and the routes that none of them ended are live.
pub record AreBeingAnswered (first : ℕ) (orders : List Order) (answers : List Answer) (last : ℕ) (Lives : RouteId → Type 0) : Type 0 where
  pub right : AreAnswers first orders answers
  pub live : (j : ℕ) (id : RouteId) → Committed answers j id → NotEnded first orders (length answers) j → Lives id
  pub under : (j : ℕ) (id : RouteId) → Committed answers j id → id.stamp ≤ last
  pub rising : (j k : ℕ) (id next : RouteId) → j < k → Committed answers j id → Committed answers k next → id.stamp < next.stamp
