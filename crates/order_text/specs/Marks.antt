-- What a builder of lanes keeps: its lanes, and marks for the orders that may be cancelled.
use Rattle.std.specs.Prelude.{◌≡◌, ℕ, ◌+◌, ◌-◌, ◌≤◌, Bool, false, ◌&&◌, nat_le, List, length, get_or, All}
use Rattle.std.specs.List.{list_any}
use Rattle.order_text.specs.declared.order.Order.{Order}
use Rattle.order_text.specs.declared.builder.LaneBuilder.{LaneBuilder}
use Rattle.order_text.specs.declared.line.Line.{Line}
use Rattle.order_text.specs.declared.line.Line.TheVariants.{NewLane, Next}
use Rattle.order_text.specs.Lanes.{cancels, may_cancel, after_lane, all_orders, IsOrderOn, IsLane, AreNumberedFrom}
use Rattle.order_text.specs.OrderGrammar.{LanesSoFar}

-- the lanes that were read
abbrev pub lanes_so_far : LaneBuilder → LanesSoFar
lanes_so_far builder = record { before = builder.before.items; present = record { first = builder.first; orders = builder.orders.items } }

-- each mark says whether its order may be cancelled
pub record AreMarked (first : ℕ) (orders : List Order) (marks : List Bool) : Type 0 where
  pub one_each : length marks ≡ length orders
  pub right : (k : ℕ) → may_cancel first orders k ≡ (nat_le first k && get_or marks (k - first) false)
  pub earlier : (k : ℕ) → first + length orders ≤ k → list_any (cancels k) orders ≡ false

-- the present lane is marked, and there are few orders
pub record IsBuilding (builder : LaneBuilder) : Type 0 where
  pub marked : AreMarked builder.first builder.orders.items builder.marks.items
  pub few : builder.first + length builder.orders.items ≤ 32767

-- what a line says is between cells of the grid
abbrev pub IsLineOn : ℕ → Line → Type 0
IsLineOn cells NewLane = Unit {0}
IsLineOn cells (Next order) = IsOrderOn cells order

-- the lanes so far are lanes that a run may be asked for
pub record AreLanesSoFar (cells : ℕ) (lanes : LanesSoFar) : Type 0 where
  pub numbered : AreNumberedFrom 0 lanes.before
  pub goes_on : lanes.present.first ≡ length (all_orders lanes.before)
  pub filled : length lanes.before ≤ length (all_orders lanes.before)
  pub each : All (IsLane cells) lanes.before
  pub present : IsLane cells lanes.present
  pub few : after_lane lanes.present ≤ 32767
