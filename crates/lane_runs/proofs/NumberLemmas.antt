-- Orders by their numbers.
use Rattle.std.proofs.Common.{◌≡◌, ℕ, zero, suc, ◌+◌, ◌-◌, ◌<◌, ◌≤◌, true, false, true≢false, List, [], ◌∷◌, ◌++◌, length, get_or, Some, refl, sym, ap, ◌∙◌, subst, arith}
use Rattle.std.specs.Prelude.{nat_le, slice_get}
use Rattle.std.specs.List.Sorted.{IsPartitionedBy, IsPartitionPoint}
use Rattle.std.proofs.lemmas.Bool.{le-leb, leb-true, leb-false}
use Rattle.std.proofs.lemmas.List.{length-append}
use Rattle.std.proofs.lemmas.Option.{get_or_from_slice_get, slice_get_within}
use Rattle.order_text.specs.declared.lane.Lane.{Lane}
use Rattle.order_text.specs.declared.order.Order.{Order}
use Rattle.order_text.specs.Lanes.{all_orders, after_lane, AreNumberedFrom}
use Rattle.lane_runs.specs.Numbering.{HasNumber}

-- ---- lanes begin in rising order

since : (lanes : List Lane) (base i : ℕ) (d : Lane) → AreNumberedFrom base lanes → i < length lanes → base ≤ (get_or lanes i d).first
since [] base i d numbered h = absurd (omega arith)
since (l ∷ ls) base zero d numbered h = let first = numbered.0 in omega arith
since (l ∷ ls) base (suc i) d numbered h = let first = numbered.0 in omega (arith, since ls (after_lane l) i d numbered.1 (omega arith))

rising : (lanes : List Lane) (base i j : ℕ) (d : Lane) → AreNumberedFrom base lanes → i ≤ j → j < length lanes → (get_or lanes i d).first ≤ (get_or lanes j d).first
rising [] base i j d numbered le h = absurd (omega arith)
rising (l ∷ ls) base zero j d numbered le h = let first = numbered.0 in omega (arith, since (l ∷ ls) base j d numbered h)
rising (l ∷ ls) base (suc i) zero d numbered le h = absurd (omega arith)
rising (l ∷ ls) base (suc i) (suc j) d numbered le h = rising ls (after_lane l) i j d numbered.1 (omega arith) (omega arith)

pub partitioned : (lanes : List Lane) (number : ℕ) → AreNumberedFrom 0 lanes → IsPartitionedBy (λ l. nat_le l.first number) lanes
partitioned lanes number numbered i j d le within begun =
    let rises = rising lanes 0 i j d numbered le within in
    let at = leb-true (get_or lanes j d).first number begun in
    le-leb (get_or lanes i d).first number (omega arith)

-- ---- the lane that has an order

slice_get_later : {X : Type 0} (xs ys : List X) (i j : ℕ) → i ≡ length xs + j → slice_get (xs ++ ys) i ≡ slice_get ys j
slice_get_later [] ys i j e = ap (slice_get ys) (omega (arith, e))
slice_get_later (x ∷ xs) ys zero j e = absurd (omega (arith, e))
slice_get_later (x ∷ xs) ys (suc i) j e = slice_get_later xs ys i j (omega (arith, e))

pub slice_get_front : {X : Type 0} (xs ys : List X) (i : ℕ) → i < length xs → slice_get (xs ++ ys) i ≡ slice_get xs i
slice_get_front [] ys i h = absurd (omega arith)
slice_get_front (x ∷ xs) ys zero h = refl
slice_get_front (x ∷ xs) ys (suc i) h = slice_get_front xs ys i (omega arith)

-- the lane has the order of that number, of the orders from `base` on
record HasNumberFrom (base : ℕ) (lane : Lane) (orders : List Order) (number : ℕ) : Type 0 where
  pub begun : lane.first ≤ number
  pub before_end : number < after_lane lane
  pub found : slice_get orders (number - base) ≡ slice_get lane.orders (number - lane.first)

abbrev IsPlace : List Lane → ℕ → ℕ → Type 0
IsPlace lanes number k = IsPartitionPoint (λ l. nat_le l.first number ≡ true) (λ l. nat_le l.first number ≡ false) lanes k

first_has : (l : Lane) (ls : List Lane) (base number : ℕ) → l.first ≡ base → base ≤ number → number < after_lane l → HasNumberFrom base l (all_orders (l ∷ ls)) number
first_has l ls base number first low high = record {
  begun = omega (arith, first);
  before_end = high;
  found =
      let e : number - base ≡ number - l.first = omega (arith, first) in
      ap (slice_get (l.orders ++ all_orders ls)) e ∙ slice_get_front l.orders (all_orders ls) (number - l.first) (omega (arith, first));
}

later_has : (l : Lane) (ls : List Lane) (lane : Lane) (base number : ℕ) → l.first ≡ base → after_lane l ≤ number → HasNumberFrom (after_lane l) lane (all_orders ls) number → HasNumberFrom base lane (all_orders (l ∷ ls)) number
later_has l ls lane base number first low h = record {
  begun = h.begun;
  before_end = h.before_end;
  found = slice_get_later l.orders (all_orders ls) (number - base) (number - after_lane l) (omega (arith, first)) ∙ h.found;
}

found_in : (lanes : List Lane) (base number k : ℕ) (d : Lane) → AreNumberedFrom base lanes → base ≤ number → number < base + length (all_orders lanes) → k ≤ length lanes → IsPlace lanes number k
    → (j : ℕ) × (k ≡ suc j) × HasNumberFrom base (get_or lanes j d) (all_orders lanes) number
found_in [] base number k d numbered low high within point = absurd (omega arith)
found_in (l ∷ ls) base number zero d numbered low high within point =
    let first = numbered.0 in
    absurd (true≢false (sym (le-leb l.first number (omega arith)) ∙ point.1 0 d (omega arith) (omega arith)))
found_in (l ∷ []) base number (suc zero) d numbered low high within point =
    let first = numbered.0 in
    let cut = length-append l.orders [] in
    (0, refl, first_has l [] base number numbered.0 low (omega arith))
found_in (l ∷ next ∷ ls) base number (suc zero) d numbered low high within point =
    let first = numbered.0 in
    let follows : next.first ≡ after_lane l = numbered.1.0 in
    let not_yet = leb-false next.first number (point.1 1 d (omega arith) (omega arith)) in
    (0, refl, first_has l (next ∷ ls) base number numbered.0 low (omega arith))
found_in (l ∷ []) base number (suc (suc k)) d numbered low high within point = absurd (omega arith)
found_in (l ∷ next ∷ ls) base number (suc (suc k)) d numbered low high within point =
    let first = numbered.0 in
    let follows : next.first ≡ after_lane l = numbered.1.0 in
    let begun = leb-true next.first number (point.0 1 d (omega arith) (omega arith)) in
    let cut = length-append l.orders (all_orders (next ∷ ls)) in
    let rest = found_in (next ∷ ls) (after_lane l) number (suc k) d numbered.1 (omega arith) (omega arith) (omega arith)
    ((λ i e h less. point.0 (suc i) e (omega arith) (omega arith)), (λ i e le h. point.1 (suc i) e (omega arith) (omega arith))) in
    (suc rest.0, ap suc rest.1, later_has l (next ∷ ls) (get_or (next ∷ ls) rest.0 d) base number numbered.0 (omega arith) rest.2)

-- in the words of a binary search
pub some_before : (lanes : List Lane) (number k : ℕ) (d : Lane) → AreNumberedFrom 0 lanes → number < length (all_orders lanes) → k ≤ length lanes → IsPlace lanes number k → 1 ≤ k
some_before lanes number k d numbered high within point = let f = found_in lanes 0 number k d numbered (omega arith) (omega arith) within point in omega (arith, f.1)

pub lane_at : (lanes : List Lane) (number k : ℕ) (lane d : Lane) → AreNumberedFrom 0 lanes → number < length (all_orders lanes) → k ≤ length lanes → IsPlace lanes number k
    → lane ≡ get_or lanes (k - 1) d → HasNumber lane (all_orders lanes) number
lane_at lanes number k lane d numbered high within point is =
    let f = found_in lanes 0 number k d numbered (omega arith) (omega arith) within point in
    let place : k - 1 ≡ f.0 = omega (arith, f.1) in
    let h = subst (λ (l : Lane). HasNumberFrom 0 l (all_orders lanes) number) (sym (ap (λ (j : ℕ). get_or lanes j d) place) ∙ sym is) f.2 in
    record { begun = h.begun; before_end = h.before_end; found = ap (slice_get (all_orders lanes)) (omega arith) ∙ h.found }

-- ---- how many orders there are

count_is : (lanes : List Lane) (base : ℕ) (d : Lane) → AreNumberedFrom base lanes → 1 ≤ length lanes → (j : ℕ) × (length lanes ≡ suc j) × (base + length (all_orders lanes) ≡ after_lane (get_or lanes j d))
count_is [] base d numbered h = absurd (omega arith)
count_is (l ∷ []) base d numbered h = let first = numbered.0 in (0, refl, omega (arith, length-append l.orders []))
count_is (l ∷ next ∷ ls) base d numbered h =
    let first = numbered.0 in
    let rest = count_is (next ∷ ls) (after_lane l) d numbered.1 (omega arith) in
    let long = rest.2 in
    (suc rest.0, ap suc rest.1, omega (arith, length-append l.orders (all_orders (next ∷ ls)), long))

pub last_ends : (lanes : List Lane) (lane : Lane) → AreNumberedFrom 0 lanes → slice_get lanes (length lanes - 1) ≡ Some lane → after_lane lane ≡ length (all_orders lanes)
last_ends lanes lane numbered is =
    let some = slice_get_within lanes (length lanes - 1) lane is in
    let c = count_is lanes 0 lane numbered (omega arith) in
    let place : length lanes - 1 ≡ c.0 = omega (arith, c.1) in
    let same : get_or lanes c.0 lane ≡ lane = get_or_from_slice_get lanes c.0 lane lane (ap (slice_get lanes) (sym place) ∙ is) in
    let long = c.2 in
    omega (arith, long, ap after_lane same)
