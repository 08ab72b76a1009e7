-- What a run over lanes is, and when it keeps the lanes.
use Rattle.std.specs.Prelude.{◌≡◌, ℕ, ◌<◌, ◌≤◌, List, length, Some, AllPairs, IsPermutation, slice_get}
use Rattle.order_text.specs.declared.lane.Lane.{Lane}
use Rattle.order_text.specs.Lanes.{all_orders, after_lane}
use Rattle.lane_runs.specs.declared.answer.Answer.{Answer}
use Rattle.lane_runs.specs.Answers.{order_of, AreAnswers}

-- each order of the lanes was answered, once: the answers in the order of the orders' numbers are right
pub record IsRun (lanes : List Lane) (answers : List Answer) : Type 0 where
  pub by_number : List Answer
  pub right : AreAnswers 0 (all_orders lanes) by_number
  pub whole : length by_number ≡ length (all_orders lanes)
  pub same : IsPermutation by_number answers

-- the orders of these numbers are of one lane
pub record AreOfOneLane (lanes : List Lane) (m n : ℕ) : Type 0 where
  pub place : ℕ
  pub lane : Lane
  pub at : slice_get lanes place ≡ Some lane
  pub first : (lane.first ≤ m) × (m < after_lane lane)
  pub second : (lane.first ≤ n) × (n < after_lane lane)

-- of two answers to orders of one lane that of the earlier order stands first
abbrev pub KeepsLanes : List Lane → List Answer → Type 0
KeepsLanes lanes answers = AllPairs (λ a b. AreOfOneLane lanes (order_of a) (order_of b) → order_of a < order_of b) answers
