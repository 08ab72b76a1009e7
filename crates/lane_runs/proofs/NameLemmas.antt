-- Cancels of lanes name plans, in one lane and among all orders.
use Rattle.std.proofs.Common.{◌≡◌, ℕ, zero, suc, ◌+◌, ◌-◌, ◌<◌, ◌≤◌, ◌⊎◌, inl, inr, ◌&&◌, ◌||◌, Bool, true, false, true≢false, not, List, [], ◌∷◌, ◌++◌, length, take, Some, Option, refl, sym, ap, ◌∙◌, subst, arith, eq-eqb}
use Rattle.std.specs.Prelude.{nat_le, None, All, slice_get}
use Rattle.std.specs.List.{list_any}
use Rattle.std.proofs.lemmas.Bool.{leb-true}
use Rattle.std.proofs.lemmas.List.Elements.{All-nil, All-append, All-head, All-tail}
use Rattle.std.proofs.lemmas.Option.{slice_get_within, get_or_from_slice_get}
use Rattle.fleet_base.specs.declared.request.Request.{Request}
use Rattle.order_text.specs.declared.lane.Lane.{Lane}
use Rattle.order_text.specs.declared.order.Order.{Order}
use Rattle.order_text.specs.declared.order.Order.TheVariants.{Plan, Cancel}
use Rattle.order_text.specs.Lanes.{is_plan, cancels, may_cancel, after_lane, all_orders, IsOrderOn, IsLane, AreNumberedFrom, AreLanes}
use Rattle.lane_runs.specs.Answering.{NamePlans}
use Rattle.lane_runs.proofs.AnswerLemmas.{get_longer}

-- ---- one lane

and_parts : (a b : Bool) → (a && b) ≡ true → (a ≡ true) × (b ≡ true)
and_parts true true e = (refl, refl)
and_parts true false e = absurd cc
and_parts false b e = absurd cc

take_get : {X : Type 0} (xs : List X) (n i : ℕ) (x : X) → slice_get (take n xs) i ≡ Some x → (i < n) × (slice_get xs i ≡ Some x)
take_get xs zero i x h = absurd (cc)
take_get [] (suc n) i x h = absurd (cc)
take_get (y ∷ ys) (suc n) zero x h = (omega arith, h)
take_get (y ∷ ys) (suc n) (suc i) x h = let rest = take_get ys n i x h in (omega (arith, rest.0), rest.1)

take_has : {X : Type 0} (xs : List X) (n i : ℕ) (x : X) → i < n → slice_get xs i ≡ Some x → slice_get (take n xs) i ≡ Some x
take_has xs zero i x less h = absurd (omega arith)
take_has [] (suc n) i x less h = absurd (cc)
take_has (y ∷ ys) (suc n) zero x less h = h
take_has (y ∷ ys) (suc n) (suc i) x less h = take_has ys n i x (omega arith) h

some_cancels : (orders : List Order) (i target : ℕ) → slice_get orders i ≡ Some (Cancel target) → list_any (cancels target) orders ≡ true
some_cancels [] i target h = absurd (cc)
some_cancels (o ∷ os) zero target h = let same : o ≡ Cancel target = cc in by_first (cancels target o) (ap (cancels target) same ∙ eq-eqb target target refl)
  where
    by_first : (b : Bool) → b ≡ true → (b || list_any (cancels target) os) ≡ true
    by_first true e = refl
    by_first false e = absurd (true≢false (sym e))
some_cancels (o ∷ os) (suc i) target h = by_first (cancels target o) (some_cancels os i target h)
  where
    by_first : (b : Bool) → list_any (cancels target) os ≡ true → (b || list_any (cancels target) os) ≡ true
    by_first true e = refl
    by_first false e = e

plan_there : (o : Option Order) → is_plan o ≡ true → (q : Request) × (o ≡ Some (Plan q))
plan_there (Some (Plan q)) e = (q, refl)
plan_there (Some (Cancel t)) e = absurd (true≢false (sym e))
plan_there None e = absurd (true≢false (sym e))

named_parts : (first : ℕ) (before : List Order) (target : ℕ) → may_cancel first before target ≡ true
    → (first ≤ target) × ((q : Request) × (slice_get before (target - first) ≡ Some (Plan q))) × (list_any (cancels target) before ≡ false)
unfolding may_cancel
named_parts first before target e =
    let outer = and_parts (nat_le first target && is_plan (slice_get before (target - first))) (not (list_any (cancels target) before)) e in
    let inner = and_parts (nat_le first target) (is_plan (slice_get before (target - first))) outer.0 in
    (leb-true first target inner.0, plan_there (slice_get before (target - first)) inner.1, turned (list_any (cancels target) before) outer.1)
  where
    turned : (b : Bool) → not b ≡ true → b ≡ false
    turned true e = absurd (true≢false (sym e))
    turned false e = refl

pub lane_names : (cells : ℕ) (lane : Lane) → IsLane cells lane → NamePlans lane.first lane.orders
lane_names cells lane is = record {
  plan = λ i target at.
      let named = named_parts lane.first (take i lane.orders) target (is.names i (Cancel target) at) in
      let low = named.0 in
      let there = take_get lane.orders i (target - lane.first) _ named.1.1 in
      (target - lane.first, there.0, omega arith, named.1.0, there.1);
  once = λ i k target less at later.
      let named = named_parts lane.first (take k lane.orders) target (is.names k (Cancel target) later) in
      true≢false (sym (some_cancels (take k lane.orders) i target (take_has lane.orders k i _ less at)) ∙ named.2);
}

-- ---- all orders

later_get : {X : Type 0} (xs ys : List X) (i : ℕ) (a : X) → slice_get (xs ++ ys) i ≡ Some a → (slice_get xs i ≡ Some a) ⊎ ((j : ℕ) × (i ≡ length xs + j) × (slice_get ys j ≡ Some a))
later_get [] ys i a h = inr (i, omega arith, h)
later_get (x ∷ xs) ys zero a h = inl h
later_get (x ∷ xs) ys (suc i) a h = elim (later_get xs ys i a h) [ inl old ↦ inl old | inr new ↦ let e = new.1 in inr (new.0, omega (arith, e), new.2) ]

get_beyond : {X : Type 0} (xs ys : List X) (i j : ℕ) (a : X) → i ≡ length xs + j → slice_get ys j ≡ Some a → slice_get (xs ++ ys) i ≡ Some a
get_beyond [] ys i j a e h = ap (slice_get ys) (omega (arith, e)) ∙ h
get_beyond (x ∷ xs) ys zero j a e h = absurd (omega (arith, e))
get_beyond (x ∷ xs) ys (suc i) j a e h = get_beyond xs ys i j a (omega (arith, e)) h

names_both : (first next : ℕ) (xs ys : List Order) → next ≡ first + length xs → NamePlans first xs → NamePlans next ys → NamePlans first (xs ++ ys)
names_both first next xs ys follows a b = record {
  plan = λ i target at. elim (later_get xs ys i _ at) [
    | inl old ↦ let h = a.plan i target old in (h.0, h.1, h.2, h.3, get_longer xs ys h.0 _ h.4)
    | inr new ↦
        let h = b.plan new.0 target new.2 in
        let less = h.1 in
        let named = h.2 in
        let place = new.1 in
        (length xs + h.0, omega arith, omega (arith, follows), h.3, get_beyond xs ys (length xs + h.0) h.0 _ refl h.4)
  ];
  once = λ i k target less at later. elim (later_get xs ys k _ later) [
    | inl old ↦ elim (later_get xs ys i _ at) [
      | inl first_too ↦ a.once i k target less first_too old
      | inr past ↦ let place = past.1 in absurd (omega (arith, slice_get_within xs k _ old))
    ]
    | inr new ↦ elim (later_get xs ys i _ at) [
      | inl first_too ↦
          let h = a.plan i target first_too in
          let g = b.plan new.0 target new.2 in
          let early = h.1 in let named = h.2 in let again = g.2 in
          absurd (omega (arith, follows, slice_get_within xs i _ first_too))
      | inr past ↦
          let p = past.1 in let n = new.1 in
          b.once past.0 new.0 target (omega arith) past.2 new.2
    ]
  ];
}

no_names : (first : ℕ) → NamePlans first []
no_names first = record { plan = λ i target at. absurd (cc); once = λ i k target less at. absurd (cc) }

names_from : (cells base : ℕ) (lanes : List Lane) → AreNumberedFrom base lanes → All (IsLane cells) lanes → NamePlans base (all_orders lanes)
names_from cells base [] numbered each = no_names base
names_from cells base (l ∷ ls) numbered each =
    let here = lane_names cells l (All-head (IsLane cells) l ls each) in
    let rest = names_from cells (after_lane l) ls numbered.1 (All-tail (IsLane cells) l ls each) in
    let first = numbered.0 in
    names_both base (after_lane l) l.orders (all_orders ls) (omega arith) (subst (λ (n : ℕ). NamePlans n l.orders) numbered.0 here) rest

pub all_names : (cells : ℕ) (lanes : List Lane) → AreLanes cells lanes → NamePlans 0 (all_orders lanes)
all_names cells lanes are = names_from cells 0 lanes are.numbered are.each

-- ---- orders on the grid

all_on : (cells : ℕ) (lanes : List Lane) → All (IsLane cells) lanes → All (IsOrderOn cells) (all_orders lanes)
all_on cells [] each = All-nil (IsOrderOn cells)
all_on cells (l ∷ ls) each =
    All-append (IsOrderOn cells) l.orders (all_orders ls) (All-head (IsLane cells) l ls each).on_grid (all_on cells ls (All-tail (IsLane cells) l ls each))

pub order_on : (cells : ℕ) (lanes : List Lane) (n : ℕ) (o : Order) → AreLanes cells lanes → slice_get (all_orders lanes) n ≡ Some o → IsOrderOn cells o
order_on cells lanes n o are at =
    subst (IsOrderOn cells) (get_or_from_slice_get (all_orders lanes) n o o at) (all_on cells lanes are.each n o (slice_get_within (all_orders lanes) n o at))
