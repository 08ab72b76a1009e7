-- What became of the orders of a run.
use Rattle.std.specs.Prelude.{◌≡◌, ℕ, ◌+◌, ◌-◌, ◌≤◌, ◌⊎◌, List, length, Option, Some, None, slice_get}
use Rattle.std.specs.List.{filter_map}
use Rattle.fleet_base.specs.declared.request.RouteId.{RouteId}
use Rattle.fleet_base.specs.declared.request.Request.{Request}
use Rattle.fleet_base.specs.declared.request.Entry.{Entry}
use Rattle.fleet_base.specs.declared.request.Entry.TheVariants as E
use Rattle.fleet_base.specs.TimedWalk.{TimedWalk}
use Rattle.order_text.specs.declared.order.Order.{Order}
use Rattle.order_text.specs.declared.order.Order.TheVariants.{Plan, Cancel}
use Rattle.lane_runs.specs.declared.answer.Answer.{Answer}
use Rattle.lane_runs.specs.declared.answer.Answer.TheVariants.{Made, Gone}

-- the entry of an answer
abbrev pub entry_made : Answer → Option Entry
entry_made (Made order e) = Some e
entry_made (Gone order target) = None

-- the entries of the answers, in their order
abbrev pub entries_made : List Answer → List Entry
entries_made answers = filter_map entry_made answers

-- the number of the order that was answered
abbrev pub order_of : Answer → ℕ
order_of (Made order e) = order
order_of (Gone order target) = order

-- the answer at this place is a commit of that id
pub record Committed (answers : List Answer) (i : ℕ) (id : RouteId) : Type 0 where
  pub order : ℕ
  pub era : ℕ
  pub request : Request
  pub walk : TimedWalk
  pub at : slice_get answers i ≡ Some (Made order (E.Commit id era request walk))

-- the answer at this place is a reply without a route
pub record Refused (answers : List Answer) (i : ℕ) : Type 0 where
  pub order : ℕ
  pub id : RouteId
  pub era : ℕ
  pub request : Request
  pub at : slice_get answers i ≡ Some (Made order (E.NoRoute id.stamp id.caller era request))

-- the answer at this place is one to a plan
abbrev pub IsReplyAt : List Answer → ℕ → Type 0
IsReplyAt answers i = Refused answers i ⊎ ((id : RouteId) × Committed answers i id)

-- The answer to an order, among the answers to the orders from the number `first` on: to a plan a commit or a reply
-- without a route, of its request; to a cancel the end of the route that its target was given, or gone where its
-- target was answered without a route.
abbrev pub Fits : ℕ → List Answer → Order → Answer → Type 0
Fits first answers (Plan q) (Made n (E.Commit id era r w)) = r ≡ q
Fits first answers (Plan q) (Made n (E.NoRoute stamp caller era r)) = r ≡ q
Fits first answers (Plan q) (Made n (E.Cancel id era)) = ⊥
Fits first answers (Plan q) (Gone n target) = ⊥
Fits first answers (Cancel target) (Made n (E.Commit id era r w)) = ⊥
Fits first answers (Cancel target) (Made n (E.NoRoute stamp caller era r)) = ⊥
Fits first answers (Cancel target) (Made n (E.Cancel id era)) = Committed answers (target - first) id
Fits first answers (Cancel target) (Gone n t) = (t ≡ target) × Refused answers (target - first)

-- the first of these orders were answered, one by one and in their order
pub record AreAnswers (first : ℕ) (orders : List Order) (answers : List Answer) : Type 0 where
  pub few : length answers ≤ length orders
  pub fits : (i : ℕ) (o : Order) (a : Answer) → slice_get orders i ≡ Some o → slice_get answers i ≡ Some a → (order_of a ≡ first + i) × Fits first answers o a
