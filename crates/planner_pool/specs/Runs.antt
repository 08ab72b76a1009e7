-- A run over lanes of which some were left.
use Rattle.std.specs.Prelude.{◌≡◌, ℕ, ◌+◌, ◌<◌, Bool, true, false, nat_le, List, [], ◌∷◌, ◌++◌, length, Some, slice_get, IsPermutation}
use Rattle.std.specs.List.{flat_map}
use Rattle.order_text.specs.declared.lane.Lane.{Lane}
use Rattle.lane_runs.specs.declared.answer.Answer.{Answer}
use Rattle.lane_runs.specs.declared.answer.Left.{Left}
use Rattle.lane_runs.specs.Answers.{AreAnswers}

-- what is left of the lane at this place whose next order is this one: nothing where all its orders are done
abbrev pub rest_of : Bool → ℕ → ℕ → List Left
rest_of true lane from = []
rest_of false lane from = record { lane = lane; from = from } ∷ []

-- What is left of the lanes from this place on, where the first orders of each lane have these answers: of each lane
-- that has more orders than answers its place, and the number of the first order without an answer.
abbrev pub lanes_left : ℕ → List Lane → List (List Answer) → List Left
lanes_left place [] by_lane = []
lanes_left place (lane ∷ lanes) [] = []
lanes_left place (lane ∷ lanes) (answers ∷ by_lane) = rest_of (nat_le (length lane.orders) (length answers)) place (lane.first + length answers) ++ lanes_left (place + 1) lanes by_lane

-- the lane that this names has orders without an answer, and this is the number of the first of them
pub record IsLeftOf (lanes : List Lane) (by_lane : List (List Answer)) (l : Left) : Type 0 where
  pub lane : Lane
  pub answers : List Answer
  pub at : slice_get lanes l.lane ≡ Some lane
  pub answered : slice_get by_lane l.lane ≡ Some answers
  pub from : l.from ≡ lane.first + length answers
  pub more : length answers < length lane.orders

-- Each order was answered or left, once: the first orders of each lane have the answers that stand in its place here,
-- and the lanes that have more orders are left.
pub record IsRunUpTo (lanes : List Lane) (by_lane : List (List Answer)) (answers : List Answer) (left : List Left) : Type 0 where
  pub long : length by_lane ≡ length lanes
  pub each : (k : ℕ) (lane : Lane) (xs : List Answer) → slice_get lanes k ≡ Some lane → slice_get by_lane k ≡ Some xs → AreAnswers lane.first lane.orders xs
  pub answers_are : IsPermutation (flat_map (λ xs. xs) by_lane) answers
  pub left_are : IsPermutation (lanes_left 0 lanes by_lane) left
