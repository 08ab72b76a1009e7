-- Orders by their numbers.
use Rattle.std.specs.Prelude.{◌≡◌, ℕ, ◌-◌, ◌<◌, ◌≤◌, List, slice_get}
use Rattle.order_text.specs.declared.lane.Lane.{Lane}
use Rattle.order_text.specs.declared.order.Order.{Order}
use Rattle.order_text.specs.Lanes.{after_lane}

-- the lane has the order of that number, of all these orders
pub record HasNumber (lane : Lane) (orders : List Order) (number : ℕ) : Type 0 where
  pub begun : lane.first ≤ number
  pub before_end : number < after_lane lane
  pub found : slice_get orders number ≡ slice_get lane.orders (number - lane.first)
