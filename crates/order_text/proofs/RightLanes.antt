-- Lanes that the grammar gives are lanes that a run may be asked for.
use Rattle.std.proofs.Common.{◌≡◌, ◌≢◌, ℕ, zero, suc, ◌+◌, ◌<◌, ◌≤◌, ◌⊎◌, inl, inr, Bool, true, false, true≢false, eqb-true, eq-eqb, List, [], ◌∷◌, ◌++◌, length, take, Vec, Global, Some, Result, Ok, Err, refl, sym, ap, ◌∙◌, subst, arith, append-nil}
use Rattle.std.specs.Prelude.{◌==◌, if◌then◌else◌, All, IfOk, OnOk, slice_get}
use Rattle.std.proofs.lemmas.List.{length-append}
use Rattle.std.proofs.lemmas.List.Elements.{All-nil, All-cons, All-push, All-head, All-tail}
use Rattle.std.proofs.lemmas.Option.{slice_get_within}
use Rattle.std.proofs.lemmas.Grind.{flat_map-append}
use Rattle.fleet_base.specs.declared.request.Request.{Request}
use Rattle.text_lines.specs.Faults.{at, need, Gives, ◌>>=◌}
use Rattle.order_text.specs.declared.fault.OrderFault.{OrderFault}
use Rattle.order_text.specs.declared.lane.Lane.{Lane}
use Rattle.order_text.specs.declared.line.Line.{Line}
use Rattle.order_text.specs.declared.line.Line.TheVariants.{NewLane, Next}
use Rattle.order_text.specs.declared.order.Order.{Order}
use Rattle.order_text.specs.declared.order.Order.TheVariants.{Plan}
use Rattle.order_text.specs.Lanes.{request_lanes, MayName, after_lane, with_order, all_orders, IsOrderOn, IsLane, AreNumberedFrom, AreLanes}
use Rattle.order_text.specs.Marks.{IsLineOn, AreLanesSoFar}
use Rattle.order_text.specs.OrderGrammar.{fits, LanesSoFar, closed, put, no_lanes, fault_of}
use Rattle.order_text.proofs.LaneLemmas.{right_name, right_room}

-- ---- lists that grow at their end

module _ {X : Type 0} where
  get_cases : (xs : List X) (y : X) (i : ℕ) (a : X) → slice_get (xs ++ y ∷ []) i ≡ Some a → (slice_get xs i ≡ Some a) ⊎ ((i ≡ length xs) × (y ≡ a))
  get_cases [] y zero a h = inr (refl, cc)
  get_cases [] y (suc i) a h = absurd (cc)
  get_cases (x ∷ xs) y zero a h = inl h
  get_cases (x ∷ xs) y (suc i) a h = elim (get_cases xs y i a h) [ inl old ↦ inl old | inr new ↦ inr (ap suc new.0, new.1) ]

  take_front : (xs ys : List X) (n : ℕ) → n ≤ length xs → take n (xs ++ ys) ≡ take n xs
  take_front xs ys zero h = refl
  take_front [] ys (suc n) h = absurd (omega arith)
  take_front (x ∷ xs) ys (suc n) h = ap (λ (l : List X). x ∷ l) (take_front xs ys n (omega arith))

  take_all : (xs ys : List X) → take (length xs) (xs ++ ys) ≡ xs
  take_all [] ys = refl
  take_all (x ∷ xs) ys = ap (λ (l : List X). x ∷ l) (take_all xs ys)

-- ---- steps that had no fault

pub bound : {A B E : Type 0} (r : Result A E) (f : A → Result B E) (y : B) → (r >>= f) ≡ Ok y → (x : A) × (r ≡ Ok x) × (f x ≡ Ok y)
bound (Ok x) f y e = (x, refl, e)
bound (Err k) f y e = absurd cc

pub at_right : {A K : Type 0} (line : ℕ) (r : Result A K) (y : A) → at line r ≡ Ok y → r ≡ Ok y
at_right line (Ok x) y e = let same : x ≡ y = cc in ap (λ z. Ok z) same
at_right line (Err k) y e = absurd cc

pub need_right : {K : Type 0} (b : Bool) (kind : K) (u : Unit {0}) → need b kind ≡ Ok u → b ≡ true
need_right true kind u e = refl
need_right false kind u e = absurd cc

-- ---- lanes one after the other

-- the number after the last lane
after_all : ℕ → List Lane → ℕ
after_all number lanes = number + length (all_orders lanes)

all_orders-snoc : (lanes : List Lane) (lane : Lane) → length (all_orders (lanes ++ lane ∷ [])) ≡ length (all_orders lanes) + length lane.orders
all_orders-snoc lanes lane =
    ap length (flat_map-append (λ (l : Lane). l.orders) lanes (lane ∷ []))
    ∙ length-append (all_orders lanes) (lane.orders ++ [])
    ∙ ap (λ (n : ℕ). length (all_orders lanes) + n) (ap length (append-nil lane.orders))

numbered-snoc : (number : ℕ) (lanes : List Lane) (lane : Lane) → AreNumberedFrom number lanes → lane.first ≡ number + length (all_orders lanes) → AreNumberedFrom number (lanes ++ lane ∷ [])
numbered-snoc number [] lane before first = (omega (arith, first), tt)
numbered-snoc number (l ∷ ls) lane before first =
    let cut = length-append l.orders (all_orders ls) in
    let here = before.0 in
    (before.0, numbered-snoc (after_lane l) ls lane before.1 (omega (arith, first, cut)))

no_orders : (cells first : ℕ) → IsLane cells (record { first = first; orders = [] })
no_orders cells first = record { on_grid = All-nil (IsOrderOn cells); names = λ i order here. absurd cc }

-- a lane with one order more, which is right there
one_order_more : (cells : ℕ) (lane : Lane) (order : Order) → IsLane cells lane → IsOrderOn cells order → MayName lane.first lane.orders order → IsLane cells (with_order lane order)
one_order_more cells lane order is on name = record {
  on_grid = All-push (IsOrderOn cells) lane.orders order is.on_grid on;
  names = λ i other here. elim (get_cases lane.orders order i other here) [
    | inl old ↦
        let below = slice_get_within lane.orders i other old in
        subst (λ (front : List Order). MayName lane.first front other) (sym (take_front lane.orders (order ∷ []) i (omega arith))) (is.names i other old)
    | inr new ↦
        let whole : take i (lane.orders ++ order ∷ []) ≡ lane.orders = ap (λ (n : ℕ). take n (lane.orders ++ order ∷ [])) new.0 ∙ take_all lane.orders (order ∷ []) in
        subst (λ (z : List Order × Order). MayName lane.first z.0 z.1) (λ j. (sym whole j, new.1 j)) name
  ];
}

-- ---- lanes so far

pub no_lanes_yet : (cells : ℕ) → AreLanesSoFar cells no_lanes
no_lanes_yet cells = record { numbered = tt; goes_on = refl; filled = omega arith; each = All-nil (IsLane cells); present = no_orders cells 0; few = omega arith }

-- the present lane ends
pub lane_ends : (cells : ℕ) (lanes : LanesSoFar) → AreLanesSoFar cells lanes → AreLanesSoFar cells (record { before = closed lanes; present = record { first = after_lane lanes.present; orders = [] } })
lane_ends cells lanes is = by_count (length lanes.present.orders == 0) refl
  where
    by_count : (b : Bool) → (length lanes.present.orders == 0) ≡ b
        → AreLanesSoFar cells (record { before = if b then lanes.before else lanes.before ++ lanes.present ∷ []; present = record { first = after_lane lanes.present; orders = [] } })
    by_count true e =
        let empty : length lanes.present.orders ≡ 0 = eqb-true (length lanes.present.orders) 0 e in
        let goes_on = is.goes_on in
        let few = is.few in
        record { numbered = is.numbered; goes_on = omega arith; filled = is.filled; each = is.each; present = no_orders cells (after_lane lanes.present); few = omega arith }
    by_count false e =
        let some : length lanes.present.orders ≢ 0 = λ same. true≢false (sym (eq-eqb (length lanes.present.orders) 0 same) ∙ e) in
        let goes_on = is.goes_on in
        let few = is.few in
        let filled = is.filled in
        let long = length-append lanes.before (lanes.present ∷ []) in
        let more = all_orders-snoc lanes.before lanes.present in
        record {
          numbered = numbered-snoc 0 lanes.before lanes.present is.numbered (omega arith);
          goes_on = omega arith;
          filled = omega arith;
          each = All-push (IsLane cells) lanes.before lanes.present is.each is.present;
          present = no_orders cells (after_lane lanes.present);
          few = omega arith;
        }

-- one line more
pub line_more : (cells : ℕ) (lanes next : LanesSoFar) (line : Line) → AreLanesSoFar cells lanes → IsLineOn cells line → put lanes line ≡ Ok next → AreLanesSoFar cells next
unfolding put
line_more cells lanes next NewLane is on e =
    let same : record { before = closed lanes; present = record { first = after_lane lanes.present; orders = [] } } ≡ next = cc in
    subst (AreLanesSoFar cells) same (lane_ends cells lanes is)
line_more cells lanes next (Next order) is on e =
    let right = bound (fits lanes.present order) _ next e in
    let last = right.2 in
    let met : fits lanes.present order ≡ Ok tt = right.1 in
    let same : record { before = lanes.before; present = with_order lanes.present order } ≡ next = cc in
    let room = right_room lanes.present order met in
    let long = length-append lanes.present.orders (order ∷ []) in
    subst (AreLanesSoFar cells) same record {
      numbered = is.numbered;
      goes_on = is.goes_on;
      filled = is.filled;
      each = is.each;
      present = one_order_more cells lanes.present order is.present on (right_name lanes.present order met);
      few = omega arith;
    }

-- where the line was put without a fault
pub taken : {A : Type 0} (cells number : ℕ) (lanes next : LanesSoFar) (line : Line) (answer : Result A OrderFault) → IsLineOn cells line → Gives fault_of (λ done. next) answer (at number (put lanes line))
    → OnOk answer (AreLanesSoFar cells lanes → AreLanesSoFar cells next)
taken cells number lanes next line (Ok done) on gives = λ is. line_more cells lanes next line is on (at_right number (put lanes line) next gives)
taken cells number lanes next line (Err e) on gives = tt

-- the lanes where the text ends
pub lanes_end : (cells : ℕ) (lanes : LanesSoFar) → AreLanesSoFar cells lanes → AreLanes cells (closed lanes)
lanes_end cells lanes is =
    let ended = lane_ends cells lanes is in
    let goes_on = ended.goes_on in
    let filled = ended.filled in
    let few = is.few in
    record { few_lanes = omega arith; few_orders = omega arith; numbered = ended.numbered; each = ended.each }

pub finished : (cells : ℕ) (lanes : LanesSoFar) (answer : Result (Vec Lane Global) OrderFault) → IfOk answer (λ v. v.items ≡ closed lanes) → AreLanesSoFar cells lanes → IfOk answer (λ v. AreLanes cells v.items)
finished cells lanes (Ok v) same is = subst (AreLanes cells) (sym same) (lanes_end cells lanes is)
finished cells lanes (Err e) same is = tt

-- ---- lanes of requests

request_lane : (cells number : ℕ) (request : Request) → request.start.0 < cells → request.goal.0 < cells → IsLane cells (record { first = number; orders = Plan request ∷ [] })
request_lane cells number request start goal = record {
  on_grid = All-cons (IsOrderOn cells) (Plan request) [] (start, goal) (All-nil (IsOrderOn cells));
  names = only;
}
  where
    only : (i : ℕ) (order : Order) → slice_get (Plan request ∷ []) i ≡ Some order → MayName number (take i (Plan request ∷ [])) order
    only zero order here = let same : Plan request ≡ order = cc in subst (MayName number []) same tt
    only (suc i) order here = absurd cc

-- the cells of the request are on the grid
abbrev pub IsRequestOn : ℕ → Request → Type 0
IsRequestOn cells request = (request.start.0 < cells) × (request.goal.0 < cells)

request_lanes_numbered : (number : ℕ) (requests : List Request) → AreNumberedFrom number (request_lanes number requests)
request_lanes_numbered number [] = tt
request_lanes_numbered number (request ∷ requests) = (refl, request_lanes_numbered (number + 1) requests)

request_lanes_each : (cells number : ℕ) (requests : List Request) → All (IsRequestOn cells) requests → All (IsLane cells) (request_lanes number requests)
request_lanes_each cells number [] on = All-nil (IsLane cells)
request_lanes_each cells number (request ∷ requests) on =
    let here = All-head (IsRequestOn cells) request requests on in
    All-cons (IsLane cells) _ _ (request_lane cells number request here.0 here.1) (request_lanes_each cells (number + 1) requests (All-tail (IsRequestOn cells) request requests on))

request_lanes_count : (number : ℕ) (requests : List Request) → (length (request_lanes number requests) ≡ length requests) × (length (all_orders (request_lanes number requests)) ≡ length requests)
request_lanes_count number [] = (refl, refl)
request_lanes_count number (request ∷ requests) = let rest = request_lanes_count (number + 1) requests in (ap suc rest.0, ap suc rest.1)

pub request_lanes_right : (cells : ℕ) (requests : List Request) → length requests ≤ 32767 → All (IsRequestOn cells) requests → AreLanes cells (request_lanes 0 requests)
request_lanes_right cells requests few on =
    let count = request_lanes_count 0 requests in
    let lanes = count.0 in
    let orders = count.1 in
    record { few_lanes = omega arith; few_orders = omega arith; numbered = request_lanes_numbered 0 requests; each = request_lanes_each cells 0 requests on }
