-- Reading lines one after the other, as a loop does; lanes that are made of requests.
use Rattle.std.proofs.Common.{◌≡◌, ℕ, ◌+◌, ◌<◌, Bool, true, false, List, [], ◌∷◌, ◌++◌, length, get_or, take, Vec, Global, Result, Ok, Err, refl, sym, ap, ◌∙◌, arith}
use Rattle.std.specs.Prelude.{nat_lt, IfOk, IsOkUnless}
use Rattle.std.proofs.lemmas.Bool.{ltb-true}
use Rattle.std.proofs.lemmas.List.{take_more, length-take}
use Rattle.fleet_base.specs.Terrain.{Terrain}
use Rattle.fleet_base.specs.declared.request.Request.{Request}
use Rattle.text_lines.specs.Numbered.{Numbered}
use Rattle.text_lines.specs.Faults.{Fault, at, need, GivesFault, Gives, ◌>>=◌}
use Rattle.order_text.specs.declared.fault.OrderKind.{OrderKind}
use Rattle.order_text.specs.declared.fault.OrderKind.TheVariants.{BadCancel, TooMany}
use Rattle.order_text.specs.declared.fault.OrderFault.{OrderFault}
use Rattle.order_text.specs.declared.fault.OrderFault.TheVariants.{At, Memory}
use Rattle.order_text.specs.declared.lane.Lane.{Lane}
use Rattle.order_text.specs.declared.order.Order.{Order}
use Rattle.order_text.specs.declared.order.Order.TheVariants.{Plan, Cancel}
use Rattle.order_text.specs.Lanes.{request_lanes, may_cancel, MayName, after_lane}
use Rattle.order_text.specs.OrderGrammar.{LanesSoFar, next_lanes, lanes_from, closed, fits, has_room, fault_of}

-- ---- one line after the other

-- a line that is right
pub goes_on : (g : Terrain) (lanes next : LanesSoFar) (rows : List Numbered) (row : Numbered) (after : List Numbered) (total : Result (List Lane) (Fault OrderKind))
    → rows ≡ row ∷ after → at row.line (next_lanes g lanes row.fields) ≡ Ok next → lanes_from g lanes rows ≡ total → lanes_from g next after ≡ total
unfolding lanes_from
goes_on g lanes next rows row after total e right so_far =
    let one : lanes_from g lanes rows ≡ lanes_from g next after = rw (e, right) refl in
    sym one ∙ so_far

-- a line with a fault
pub bad_line : (g : Terrain) (lanes : LanesSoFar) (rows : List Numbered) (row : Numbered) (after : List Numbered) (fault : Fault OrderKind) (total : Result (List Lane) (Fault OrderKind))
    → rows ≡ row ∷ after → at row.line (next_lanes g lanes row.fields) ≡ Err fault → lanes_from g lanes rows ≡ total → total ≡ Err fault
unfolding lanes_from
bad_line g lanes rows row after fault total e wrong so_far =
    let one : lanes_from g lanes rows ≡ Err fault = rw (e, wrong) refl in
    sym so_far ∙ one

-- all lines were read
pub is_done : (g : Terrain) (lanes : LanesSoFar) (rows : List Numbered) (total : Result (List Lane) (Fault OrderKind))
    → rows ≡ [] → lanes_from g lanes rows ≡ total → total ≡ Ok (closed lanes)
unfolding lanes_from
is_done g lanes rows total e so_far =
    let one : lanes_from g lanes rows ≡ Ok (closed lanes) = rw e refl in
    sym so_far ∙ one

-- a fault of a line is the text's; want of memory may come at any time
pub failed : (g : Terrain) (lanes : LanesSoFar) (rows : List Numbered) (row : Numbered) (after : List Numbered) (e : OrderFault) (total : Result (List Lane) (Fault OrderKind))
    → rows ≡ row ∷ after → GivesFault (fault_of e) (at row.line (next_lanes g lanes row.fields)) → lanes_from g lanes rows ≡ total → GivesFault (fault_of e) total
failed g lanes rows row after (At line kind) total is wrong so_far = bad_line g lanes rows row after (record { line = line; kind = kind }) total is wrong so_far
failed g lanes rows row after Memory total is wrong so_far = tt

-- the lanes where the text ends
pub ended : (answer : Result (Vec Lane Global) OrderFault) (lanes : LanesSoFar) (total : Result (List Lane) (Fault OrderKind))
    → IsOkUnless answer Memory → IfOk answer (λ v. v.items ≡ closed lanes) → total ≡ Ok (closed lanes) → Gives fault_of (λ v. v.items) answer total
ended (Ok v) lanes total memory same e = e ∙ ap (λ (found : List Lane). Ok found) (sym same)
ended (Err (At line kind)) lanes total memory same e = absurd cc
ended (Err Memory) lanes total memory same e = tt

-- ---- an order that is right

need_met : (b : Bool) (kind : OrderKind) → need b kind ≡ Ok tt → b ≡ true
need_met true kind e = refl
need_met false kind e = absurd cc

need_then : (b : Bool) (kind : OrderKind) (next : Result (Unit {0}) OrderKind) → (need b kind >>= λ met. next) ≡ Ok tt → (b ≡ true) × (next ≡ Ok tt)
need_then true kind next e = (refl, e)
need_then false kind next e = absurd cc

-- a cancel that is right names an order that may be cancelled
pub right_name : (lane : Lane) (order : Order) → fits lane order ≡ Ok tt → MayName lane.first lane.orders order
unfolding fits
right_name lane (Plan request) e = tt
right_name lane (Cancel target) e = (need_then (may_cancel lane.first lane.orders target) BadCancel (has_room lane) e).0

-- an order that is right has room
pub right_room : (lane : Lane) (order : Order) → fits lane order ≡ Ok tt → after_lane lane < 32767
unfolding fits
right_room lane (Plan request) e = ltb-true _ _ (need_met (nat_lt (after_lane lane) 32767) TooMany e)
right_room lane (Cancel target) e = ltb-true _ _ (need_met (nat_lt (after_lane lane) 32767) TooMany (need_then (may_cancel lane.first lane.orders target) BadCancel (has_room lane) e).1)

-- ---- lanes of requests

request_lanes-append : (number : ℕ) (requests : List Request) (request : Request) → request_lanes number (requests ++ request ∷ []) ≡ request_lanes number requests ++ record { first = number + length requests; orders = Plan request ∷ [] } ∷ []
request_lanes-append number [] request = let e : number + 0 ≡ number = omega arith in rw e refl
request_lanes-append number (x ∷ xs) request =
    let e : number + length (x ∷ xs) ≡ number + 1 + length xs = omega arith in
    rw e (ap (λ (lanes : List Lane). record { first = number; orders = Plan x ∷ [] } ∷ lanes) (request_lanes-append (number + 1) xs request))

-- one request more
pub one_lane_more : (requests : List Request) (i : ℕ) (d : Request) → i < length requests
    → request_lanes 0 (take (i + 1) requests) ≡ request_lanes 0 (take i requests) ++ record { first = i; orders = Plan (get_or requests i d) ∷ [] } ∷ []
one_lane_more requests i d h =
    let n : 0 + length (take i requests) ≡ i = omega (arith, length-take i requests) in
    ap (request_lanes 0) (take_more requests i d h) ∙ request_lanes-append 0 (take i requests) (get_or requests i d) ∙ rw n refl
