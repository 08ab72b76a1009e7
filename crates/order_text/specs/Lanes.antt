-- Lanes, and which of their orders a cancel may name.
use Rattle.std.specs.Prelude.{◌≡◌, ℕ, ◌+◌, ◌-◌, ◌<◌, ◌≤◌, Bool, true, false, ◌==◌, ◌&&◌, nat_le, List, [], ◌∷◌, ◌++◌, length, take, All, if◌then◌else◌, Option, Some, None, slice_get}
use Rattle.std.specs.List.{list_any, flat_map}
use Rattle.std.proofs.Common.{not}
use Rattle.fleet_base.specs.declared.request.Request.{Request}
use Rattle.order_text.specs.declared.order.Order.{Order}
use Rattle.order_text.specs.declared.order.Order.TheVariants.{Plan, Cancel}
use Rattle.order_text.specs.declared.lane.Lane.{Lane}

-- a lane with one plan for each request, the first of this number
abbrev pub request_lanes : ℕ → List Request → List Lane
request_lanes number [] = []
request_lanes number (request ∷ requests) = record { first = number; orders = Plan request ∷ [] } ∷ request_lanes (number + 1) requests

-- there is an order, and it is a plan; a park is one too
abbrev pub is_plan : Option Order → Bool
is_plan (Some (Plan request)) = true
is_plan (Some (Cancel target)) = false
is_plan None = false

-- the order is a cancel of order k
abbrev pub cancels : ℕ → Order → Bool
cancels k (Plan request) = false
cancels k (Cancel target) = target == k

-- order k is a plan of these orders, of which the first has this number, and none of them cancels it
unfoldable pub may_cancel : ℕ → List Order → ℕ → Bool
may_cancel first orders k = nat_le first k && is_plan (slice_get orders (k - first)) && not (list_any (cancels k) orders)

-- where the order is a cancel, it names one that may be cancelled
abbrev pub MayName : ℕ → List Order → Order → Type 0
MayName first orders (Plan request) = Unit {0}
MayName first orders (Cancel target) = may_cancel first orders target ≡ true

-- the number of the order after a lane
abbrev pub after_lane : Lane → ℕ
after_lane lane = lane.first + length lane.orders

-- a lane with one order more
abbrev pub with_order : Lane → Order → Lane
with_order lane order = record { first = lane.first; orders = lane.orders ++ order ∷ [] }

-- lanes, and one lane more; a lane without orders is dropped
abbrev pub with_lane : List Lane → Lane → List Lane
with_lane lanes lane = if length lane.orders == 0 then lanes else lanes ++ lane ∷ []

-- all orders, in the order of their numbers
abbrev pub all_orders : List Lane → List Order
all_orders lanes = flat_map (λ lane. lane.orders) lanes

-- a plan from a cell to a cell, of a grid with so many cells
abbrev pub IsOrderOn : ℕ → Order → Type 0
IsOrderOn cells (Plan request) = (request.start.0 < cells) × (request.goal.0 < cells)
IsOrderOn cells (Cancel target) = Unit {0}

-- plans between cells of the grid, and cancels, each of an earlier plan of the lane that no earlier cancel names
pub record IsLane (cells : ℕ) (lane : Lane) : Type 0 where
  pub on_grid : All (IsOrderOn cells) lane.orders
  pub names : (i : ℕ) (order : Order) → slice_get lane.orders i ≡ Some order → MayName lane.first (take i lane.orders) order

-- the first lane begins at this number, and each later one where the lane before it ends
abbrev pub AreNumberedFrom : ℕ → List Lane → Type 0
AreNumberedFrom number [] = Unit {0}
AreNumberedFrom number (lane ∷ lanes) = (lane.first ≡ number) × AreNumberedFrom (after_lane lane) lanes

-- lanes whose orders are numbered from 0
pub record AreLanes (cells : ℕ) (lanes : List Lane) : Type 0 where
  pub few_lanes : length lanes ≤ 32767
  pub few_orders : length (all_orders lanes) ≤ 32767
  pub numbered : AreNumberedFrom 0 lanes
  pub each : All (IsLane cells) lanes
