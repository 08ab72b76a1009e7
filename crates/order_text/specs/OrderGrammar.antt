-- The grammar of orders: the lanes that their lines give, or their first fault.
use Rattle.std.specs.Prelude.{ℕ, Bool, true, false, ◌&&◌, nat_lt, if◌then◌else◌, List, [], ◌∷◌, codes, Option, Some, None, Result, Ok, Err}
use Rattle.std.specs.Option.{ok_or}
use Rattle.std.specs.Str.{bytes_eq}
use Rattle.fleet_base.specs.Terrain.{Terrain, cell_at}
use Rattle.text_lines.specs.Numbers.{number_of, small}
use Rattle.text_lines.specs.Numbered.{Numbered, numbered_from}
use Rattle.text_lines.specs.Faults.{Fault, at, need, ◌>>=◌}
use Rattle.order_text.specs.declared.order.Order.{Order}
use Rattle.order_text.specs.declared.order.Order.TheVariants.{Plan, Cancel}
use Rattle.order_text.specs.declared.lane.Lane.{Lane}
use Rattle.order_text.specs.declared.line.Line.{Line}
use Rattle.order_text.specs.declared.line.Line.TheVariants.{NewLane, Next}
use Rattle.order_text.specs.declared.fault.OrderKind.{OrderKind}
use Rattle.order_text.specs.declared.fault.OrderKind.TheVariants.{BadWord, FieldCount, BadNumber, Outside, BadCancel, TooMany}
use Rattle.order_text.specs.declared.fault.OrderFault.{OrderFault}
use Rattle.order_text.specs.declared.fault.OrderFault.TheVariants.{At, Memory}
use Rattle.order_text.specs.Lanes.{may_cancel, after_lane, with_order, with_lane}

-- the fault of the text that a reader reports; want of memory is none
abbrev pub fault_of : OrderFault → Option (Fault OrderKind)
fault_of (At line kind) = Some (record { line = line; kind = kind })
fault_of Memory = None

-- ---- one line by itself

-- a field that is a number of at most 32 bits
abbrev pub small_field : List ℕ → Result ℕ OrderKind
small_field field = ok_or (small (number_of field)) BadNumber

-- a column and a row of the grid
abbrev pub is_inside : Terrain → ℕ → ℕ → Bool
is_inside g x y = nat_lt x g.width && nat_lt y g.height

-- the fields after `plan`, or after `park`, whose request stays
unfoldable pub plan_of : Terrain → Bool → List (List ℕ) → Result Line OrderKind
plan_of g stay (start_x ∷ start_y ∷ goal_x ∷ goal_y ∷ time ∷ []) = do
  from_x ← small_field start_x
  from_y ← small_field start_y
  to_x ← small_field goal_x
  to_y ← small_field goal_y
  depart ← small_field time
  inside ← need (is_inside g from_x from_y && is_inside g to_x to_y) Outside
  Ok (Next (Plan (record { start = cell_at g from_x from_y; goal = cell_at g to_x to_y; depart = depart; stay = stay })))
plan_of g stay fields = Err FieldCount

-- the field after `cancel`: the number of an order
unfoldable pub cancel_of : List (List ℕ) → Result Line OrderKind
cancel_of (number ∷ []) = small_field number >>= λ target. Ok (Next (Cancel target))
cancel_of fields = Err FieldCount

-- nothing comes after `lane`
unfoldable pub lane_of : List (List ℕ) → Result Line OrderKind
lane_of [] = Ok NewLane
lane_of (field ∷ fields) = Err FieldCount

-- a line by its first field
unfoldable pub line_of : Terrain → List (List ℕ) → Result Line OrderKind
line_of g [] = Err BadWord
line_of g (word ∷ fields) =
    if bytes_eq word (codes "lane") then lane_of fields
    else if bytes_eq word (codes "plan") then plan_of g false fields
    else if bytes_eq word (codes "park") then plan_of g true fields
    else if bytes_eq word (codes "cancel") then cancel_of fields
    else Err BadWord

-- ---- all lines

-- there may be 32,767 orders
abbrev pub has_room : Lane → Result (Unit {0}) OrderKind
has_room lane = need (nat_lt (after_lane lane) 32767) TooMany

-- what an order has to be where it stands in its lane
unfoldable pub fits : Lane → Order → Result (Unit {0}) OrderKind
fits lane (Plan request) = has_room lane
fits lane (Cancel target) = need (may_cancel lane.first lane.orders target) BadCancel >>= λ named. has_room lane

-- what was read so far: the lanes before, and the present one
pub record LanesSoFar : Type 0 where
  pub before : List Lane
  pub present : Lane

-- the lanes where the present one ends
abbrev pub closed : LanesSoFar → List Lane
closed lanes = with_lane lanes.before lanes.present

-- one line more
unfoldable pub put : LanesSoFar → Line → Result LanesSoFar OrderKind
put lanes NewLane = Ok (record { before = closed lanes; present = record { first = after_lane lanes.present; orders = [] } })
put lanes (Next order) = do
  right ← fits lanes.present order
  Ok (record { before = lanes.before; present = with_order lanes.present order })

-- the lanes after a line of these fields
abbrev pub next_lanes : Terrain → LanesSoFar → List (List ℕ) → Result LanesSoFar OrderKind
next_lanes g lanes fields = line_of g fields >>= put lanes

-- the lanes of all lines, after those that were read
unfoldable pub lanes_from : Terrain → LanesSoFar → List Numbered → Result (List Lane) (Fault OrderKind)
lanes_from g lanes [] = Ok (closed lanes)
lanes_from g lanes (row ∷ rows) = do
  next ← at row.line (next_lanes g lanes row.fields)
  lanes_from g next rows

-- before the first line; orders are numbered from 0
abbrev pub no_lanes : LanesSoFar
no_lanes = record { before = []; present = record { first = 0; orders = [] } }

-- empty lines are passed over, and keep their numbers
unfoldable pub orders_of : Terrain → List (List ℕ) → Result (List Lane) (Fault OrderKind)
orders_of g lines = lanes_from g no_lanes (numbered_from 1 lines)
