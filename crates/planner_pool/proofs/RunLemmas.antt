-- Runs of which some lanes were left, lane by lane, and what they come to once no lane is left.
use Rattle.std.proofs.Common.{◌≡◌, ℕ, zero, suc, ◌+◌, ◌-◌, ◌<◌, ◌≤◌, ◌⊎◌, inl, inr, Bool, true, false, List, [], ◌∷◌, ◌++◌, length, set, Some, refl, sym, ap, ap₂, ◌∙◌, subst, arith, append_assoc, length-append, length-set}
use Rattle.std.specs.Prelude.{All, Contains, slice_get, nat_le, IsPermutation}
use Rattle.std.specs.List.{flat_map}
use Rattle.std.proofs.lemmas.Bool.{leb-true, leb-false, le-leb, lt-leb}
use Rattle.std.proofs.lemmas.Option.{slice_get_within}
use Rattle.std.proofs.lemmas.List.Elements.{All-head, All-tail, Contains-append_cases}
use Rattle.std.proofs.lemmas.List.Sorted.{Contains-permutation, IsPermutation-refl, IsPermutation-sym, IsPermutation-trans, IsPermutation-append_left, IsPermutation-append_right, IsPermutation-append_comm, IsPermutation-middle}
use Rattle.fleet_base.specs.declared.request.RouteId.{RouteId}
use Rattle.fleet_base.specs.declared.request.Entry.TheVariants as E
use Rattle.fleet_base.proofs.Reorder.{Reorder, Insert, here, there, Reorder-refl, Reorder-sym, Reorder-from_permutation, Reorder-is_permutation, taken, both, nothing_in_nothing}
use Rattle.order_text.specs.declared.order.Order.{Order}
use Rattle.order_text.specs.declared.order.Order.TheVariants.{Plan, Cancel}
use Rattle.order_text.specs.declared.lane.Lane.{Lane}
use Rattle.order_text.specs.Lanes.{IsLane, after_lane, all_orders, AreNumberedFrom, AreLanes}
use Rattle.lane_runs.specs.declared.answer.Answer.{Answer}
use Rattle.lane_runs.specs.declared.answer.Answer.TheVariants.{Made, Gone}
use Rattle.lane_runs.specs.declared.answer.Left.{Left}
use Rattle.lane_runs.specs.Answers.{Committed, Refused, Fits, AreAnswers}
use Rattle.lane_runs.specs.Runs.{IsRun}
use Rattle.lane_runs.proofs.AnswerLemmas.{get_longer}
use Rattle.lane_runs.proofs.NameLemmas.{lane_names}
use Rattle.planner_pool.specs.Runs.{rest_of, lanes_left, IsRunUpTo, IsLeftOf}
use Rattle.planner_pool.proofs.TryLemmas.{nothing_both}
use Rattle.planner_pool.proofs.StandLemmas.{put_in}

-- ---- two lists, one after the other

module _ {X : Type 0} where
  get_split : (xs ys : List X) (i : ℕ) (a : X) → slice_get (xs ++ ys) i ≡ Some a → (slice_get xs i ≡ Some a) ⊎ ((j : ℕ) × (i ≡ length xs + j) × (slice_get ys j ≡ Some a))
  get_split [] ys i a h = inr (i, omega arith, h)
  get_split (x ∷ xs) ys zero a h = inl h
  get_split (x ∷ xs) ys (suc i) a h = elim (get_split xs ys i a h) [ inl old ↦ inl old | inr new ↦ let e = new.1 in inr (new.0, omega (arith, e), new.2) ]

  get_beyond : (xs ys : List X) (i j : ℕ) (a : X) → i ≡ length xs + j → slice_get ys j ≡ Some a → slice_get (xs ++ ys) i ≡ Some a
  get_beyond [] ys i j a e h = ap (slice_get ys) (omega (arith, e)) ∙ h
  get_beyond (x ∷ xs) ys zero j a e h = absurd (omega (arith, e))
  get_beyond (x ∷ xs) ys (suc i) j a e h = get_beyond xs ys i j a (omega (arith, e)) h

-- ---- answers to orders, and to those after them

-- no order ends the route of an order before this one
abbrev NamesFrom : ℕ → List Order → Type 0
NamesFrom low orders = (i target : ℕ) → slice_get orders i ≡ Some (Cancel target) → low ≤ target

committed_front : (xs ys : List Answer) (i : ℕ) (id : RouteId) → Committed xs i id → Committed (xs ++ ys) i id
committed_front xs ys i id c = record { order = c.order; era = c.era; request = c.request; walk = c.walk; at = get_longer xs ys i _ c.at }

refused_front : (xs ys : List Answer) (i : ℕ) → Refused xs i → Refused (xs ++ ys) i
refused_front xs ys i c = record { order = c.order; id = c.id; era = c.era; request = c.request; at = get_longer xs ys i _ c.at }

committed_back : (xs ys : List Answer) (i j : ℕ) (id : RouteId) → i ≡ length xs + j → Committed ys j id → Committed (xs ++ ys) i id
committed_back xs ys i j id e c = record { order = c.order; era = c.era; request = c.request; walk = c.walk; at = get_beyond xs ys i j _ e c.at }

refused_back : (xs ys : List Answer) (i j : ℕ) → i ≡ length xs + j → Refused ys j → Refused (xs ++ ys) i
refused_back xs ys i j e c = record { order = c.order; id = c.id; era = c.era; request = c.request; at = get_beyond xs ys i j _ e c.at }

fits_front : (first : ℕ) (xs ys : List Answer) (o : Order) (a : Answer) → Fits first xs o a → Fits first (xs ++ ys) o a
fits_front first xs ys (Plan q) (Made n (E.Commit id era r w)) h = h
fits_front first xs ys (Plan q) (Made n (E.NoRoute stamp caller era r)) h = h
fits_front first xs ys (Plan q) (Made n (E.Cancel id era)) h = h
fits_front first xs ys (Plan q) (Gone n t) h = h
fits_front first xs ys (Cancel target) (Made n (E.Commit id era r w)) h = h
fits_front first xs ys (Cancel target) (Made n (E.NoRoute stamp caller era r)) h = h
fits_front first xs ys (Cancel target) (Made n (E.Cancel id era)) h = committed_front xs ys (target - first) id h
fits_front first xs ys (Cancel target) (Gone n t) h = (h.0, refused_front xs ys (target - first) h.1)

fits_back : (first next : ℕ) (xs ys : List Answer) (o : Order) (a : Answer) → next ≡ first + length xs → ((target : ℕ) → o ≡ Cancel target → next ≤ target) → Fits next ys o a → Fits first (xs ++ ys) o a
fits_back first next xs ys (Plan q) (Made n (E.Commit id era r w)) e low h = h
fits_back first next xs ys (Plan q) (Made n (E.NoRoute stamp caller era r)) e low h = h
fits_back first next xs ys (Plan q) (Made n (E.Cancel id era)) e low h = h
fits_back first next xs ys (Plan q) (Gone n t) e low h = h
fits_back first next xs ys (Cancel target) (Made n (E.Commit id era r w)) e low h = h
fits_back first next xs ys (Cancel target) (Made n (E.NoRoute stamp caller era r)) e low h = h
fits_back first next xs ys (Cancel target) (Made n (E.Cancel id era)) e low h = let l = low target refl in committed_back xs ys (target - first) (target - next) id (omega arith) h
fits_back first next xs ys (Cancel target) (Gone n t) e low h = let l = low target refl in (h.0, refused_back xs ys (target - first) (target - next) (omega arith) h.1)

answers_both : (first next : ℕ) (os ps : List Order) (xs ys : List Answer) → next ≡ first + length os → length xs ≡ length os → NamesFrom next ps → AreAnswers first os xs → AreAnswers next ps ys
    → AreAnswers first (os ++ ps) (xs ++ ys)
answers_both first next os ps xs ys follows full low a b = record {
  few = let f = a.few in let g = b.few in omega (arith, length-append os ps, length-append xs ys);
  fits = λ i o x at here. elim (get_split os ps i o at) [
    | inl old ↦ elim (get_split xs ys i x here) [
      | inl mine ↦ let f = a.fits i o x old mine in (f.0, fits_front first xs ys o x f.1)
      | inr later ↦ let e = later.1 in absurd (omega (arith, slice_get_within os i o old))
    ]
    | inr new ↦ elim (get_split xs ys i x here) [
      | inl mine ↦ let e = new.1 in absurd (omega (arith, slice_get_within xs i x mine))
      | inr later ↦
          let e = new.1 in
          let d = later.1 in
          let place : later.0 ≡ new.0 = omega arith in
          let f = b.fits new.0 o x new.2 (subst (λ (k : ℕ). slice_get ys k ≡ Some x) place later.2) in
          let number = f.0 in
          (omega arith, fits_back first next xs ys o x (omega arith) (λ target is. low new.0 target (new.2 ∙ ap (λ (z : Order). Some z) is)) f.1)
    ]
  ];
}

-- ---- lanes that are all answered

abbrev each_list : List (List Answer) → List Answer
each_list by_lane = flat_map (λ (xs : List Answer). xs) by_lane

names_from : (cells base : ℕ) (lanes : List Lane) → AreNumberedFrom base lanes → All (IsLane cells) lanes → NamesFrom base (all_orders lanes)
names_from cells base [] numbered each i target at = absurd (cc)
names_from cells base (l ∷ ls) numbered each i target at = elim (get_split l.orders (all_orders ls) i _ at) [
  | inl mine ↦
      let n = (lane_names cells l (All-head (IsLane cells) l ls each)).plan i target mine in
      let named = n.2 in
      let first = numbered.0 in
      omega arith
  | inr later ↦
      let first = numbered.0 in
      omega (arith, names_from cells (after_lane l) ls numbered.1 (All-tail (IsLane cells) l ls each) later.0 target later.2)
]

whole_from : (cells base : ℕ) (lanes : List Lane) (by_lane : List (List Answer)) → AreNumberedFrom base lanes → All (IsLane cells) lanes → length by_lane ≡ length lanes
    → ((k : ℕ) (lane : Lane) (xs : List Answer) → slice_get lanes k ≡ Some lane → slice_get by_lane k ≡ Some xs → AreAnswers lane.first lane.orders xs × (length lane.orders ≤ length xs))
    → AreAnswers base (all_orders lanes) (each_list by_lane) × (length (each_list by_lane) ≡ length (all_orders lanes))
whole_from cells base [] [] numbered each long full = (record { few = omega arith; fits = λ i o a at here. absurd (cc) }, refl)
whole_from cells base [] (xs ∷ by_lane) numbered each long full = absurd (omega arith)
whole_from cells base (l ∷ ls) [] numbered each long full = absurd (omega arith)
whole_from cells base (l ∷ ls) (xs ∷ by_lane) numbered each long full =
    let first_lane = full 0 l xs refl refl in
    let few = first_lane.0.few in
    let all = first_lane.1 in
    let same : length xs ≡ length l.orders = omega arith in
    let rest = whole_from cells (after_lane l) ls by_lane numbered.1 (All-tail (IsLane cells) l ls each) (omega arith) (λ k lane ys at there. full (suc k) lane ys at there) in
    let long_rest = rest.1 in
    let first = numbered.0 in (
      subst (λ (n : ℕ). AreAnswers n (l.orders ++ all_orders ls) (xs ++ each_list by_lane)) numbered.0
          (answers_both l.first (after_lane l) l.orders (all_orders ls) xs (each_list by_lane) refl same
          (names_from cells (after_lane l) ls numbered.1 (All-tail (IsLane cells) l ls each)) first_lane.0 rest.0),
      omega (arith, length-append xs (each_list by_lane), length-append l.orders (all_orders ls)),
    )

done_lane : (b : Bool) (lane from : ℕ) → rest_of b lane from ≡ [] → b ≡ true
done_lane true lane from h = refl
done_lane false lane from h = absurd (cc)

none_left : (place : ℕ) (lanes : List Lane) (by_lane : List (List Answer)) → lanes_left place lanes by_lane ≡ [] → (k : ℕ) (lane : Lane) (xs : List Answer) → slice_get lanes k ≡ Some lane → slice_get by_lane k ≡ Some xs
    → length lane.orders ≤ length xs
none_left place [] by_lane h k lane xs at answered = absurd (cc)
none_left place (l ∷ ls) [] h k lane xs at answered = absurd (cc)
none_left place (l ∷ ls) (ys ∷ by_lane) h zero lane xs at answered =
    let parts = nothing_both (rest_of (nat_le (length l.orders) (length ys)) place (l.first + length ys)) (lanes_left (place + 1) ls by_lane) h in
    let full = leb-true (length l.orders) (length ys) (done_lane (nat_le (length l.orders) (length ys)) place (l.first + length ys) parts.0) in
    let same_lane : l ≡ lane = cc in
    let same_answers : ys ≡ xs = cc in
    omega (arith, ap (λ (z : Lane). length z.orders) same_lane, ap length same_answers)
none_left place (l ∷ ls) (ys ∷ by_lane) h (suc k) lane xs at answered =
    none_left (place + 1) ls by_lane (nothing_both (rest_of (nat_le (length l.orders) (length ys)) place (l.first + length ys)) (lanes_left (place + 1) ls by_lane) h).1 k lane xs at answered

-- where no lane is left, each order was answered, once
pub whole_run : (cells : ℕ) (lanes : List Lane) (by_lane : List (List Answer)) (answers : List Answer) → AreLanes cells lanes → IsRunUpTo lanes by_lane answers [] → IsRun lanes answers
whole_run cells lanes by_lane answers are up_to =
    let none : lanes_left 0 lanes by_lane ≡ [] = nothing_in_nothing (Reorder-from_permutation (lanes_left 0 lanes by_lane) [] up_to.left_are) in
    let w = whole_from cells 0 lanes by_lane are.numbered are.each up_to.long (λ k lane xs at here. (up_to.each k lane xs at here, none_left 0 lanes by_lane none k lane xs at here)) in
    record { by_number = each_list by_lane; right = w.0; whole = w.1; same = up_to.answers_are }

-- ---- one lane that was left

rest_has : (b : Bool) (place from : ℕ) (l : Left) → Contains (rest_of b place from) l → (b ≡ false) × (l ≡ record { lane = place; from = from })
rest_has true place from l (k, h, e) = absurd (omega arith)
rest_has false place from l (zero, h, e) = (refl, sym e)
rest_has false place from l (suc k, h, e) = absurd (omega arith)

-- the lane at this place, counted from the first of these lanes
record IsLeftFrom (place : ℕ) (lanes : List Lane) (by_lane : List (List Answer)) (l : Left) : Type 0 where
  pub k : ℕ
  pub lane : Lane
  pub answers : List Answer
  pub place_is : l.lane ≡ place + k
  pub at : slice_get lanes k ≡ Some lane
  pub answered : slice_get by_lane k ≡ Some answers
  pub from : l.from ≡ lane.first + length answers
  pub more : length answers < length lane.orders

left_from : (place : ℕ) (lanes : List Lane) (by_lane : List (List Answer)) (l : Left) → Contains (lanes_left place lanes by_lane) l → IsLeftFrom place lanes by_lane l
left_from place [] by_lane l (k, h, e) = absurd (omega arith)
left_from place (lane ∷ ls) [] l (k, h, e) = absurd (omega arith)
left_from place (lane ∷ ls) (xs ∷ by_lane) l has =
    elim (Contains-append_cases (rest_of (nat_le (length lane.orders) (length xs)) place (lane.first + length xs)) (lanes_left (place + 1) ls by_lane) l has) [
      | inl mine ↦
          let r = rest_has (nat_le (length lane.orders) (length xs)) place (lane.first + length xs) l mine in
          let is = r.1 in
          record {
            k = 0;
            lane = lane;
            answers = xs;
            place_is = omega (arith, ap (λ (z : Left). z.lane) r.1);
            at = refl;
            answered = refl;
            from = ap (λ (z : Left). z.from) r.1;
            more = leb-false (length lane.orders) (length xs) r.0;
          }
      | inr later ↦
          let r = left_from (place + 1) ls by_lane l later in
          let at_place = r.place_is in
          record { k = suc r.k; lane = r.lane; answers = r.answers; place_is = omega arith; at = r.at; answered = r.answered; from = r.from; more = r.more }
    ]

-- each lane that was left has orders without an answer, from the one that it names on
pub left_is : (lanes : List Lane) (by_lane : List (List Answer)) (answers : List Answer) (left : List Left) (l : Left) → IsRunUpTo lanes by_lane answers left → Contains left l → IsLeftOf lanes by_lane l
left_is lanes by_lane answers left l up_to has =
    let r = left_from 0 lanes by_lane l (Contains-permutation left (lanes_left 0 lanes by_lane) l (IsPermutation-sym (lanes_left 0 lanes by_lane) left up_to.left_are) has) in
    let place : r.k ≡ l.lane = omega (arith, r.place_is) in
    record {
      lane = r.lane;
      answers = r.answers;
      at = subst (λ (k : ℕ). slice_get lanes k ≡ Some r.lane) place r.at;
      answered = subst (λ (k : ℕ). slice_get by_lane k ≡ Some r.answers) place r.answered;
      from = r.from;
      more = r.more;
    }

-- ---- a lane that was left is answered to its end

get_set : {X : Type 0} (xs : List X) (k i : ℕ) (z y : X) → slice_get (set xs k z) i ≡ Some y → (slice_get xs i ≡ Some y) ⊎ ((i ≡ k) × (z ≡ y))
get_set [] k i z y h = absurd (cc)
get_set (x ∷ xs) zero zero z y h = inr (refl, cc)
get_set (x ∷ xs) zero (suc i) z y h = inl h
get_set (x ∷ xs) (suc k) zero z y h = inl h
get_set (x ∷ xs) (suc k) (suc i) z y h = elim (get_set xs k i z y h) [ inl old ↦ inl old | inr new ↦ inr (ap suc new.0, new.1) ]

-- the answers of one lane are more
set_more : (by_lane : List (List Answer)) (k : ℕ) (xs more : List Answer) → slice_get by_lane k ≡ Some xs → IsPermutation (each_list (set by_lane k (xs ++ more))) (each_list by_lane ++ more)
set_more [] k xs more at = absurd (cc)
set_more (ys ∷ by_lane) zero xs more at =
    let same : xs ≡ ys = cc in
    let rest = each_list by_lane in
    subst (λ (z : List Answer). IsPermutation ((z ++ more) ++ rest) ((ys ++ rest) ++ more)) (sym same)
    (subst (λ (z : List Answer × List Answer). IsPermutation z.0 z.1) (λ i. (sym (append_assoc ys more rest) i, sym (append_assoc ys rest more) i))
    (IsPermutation-append_right ys (more ++ rest) (rest ++ more) (IsPermutation-append_comm more rest)))
set_more (ys ∷ by_lane) (suc k) xs more at =
    subst (λ (z : List Answer). IsPermutation (ys ++ each_list (set by_lane k (xs ++ more))) z) (sym (append_assoc ys (each_list by_lane) more))
    (IsPermutation-append_right ys (each_list (set by_lane k (xs ++ more))) (each_list by_lane ++ more) (set_more by_lane k xs more at))

-- and it isn't left any more
set_left : (place : ℕ) (lanes : List Lane) (by_lane : List (List Answer)) (k : ℕ) (lane : Lane) (xs ys : List Answer) → slice_get lanes k ≡ Some lane → slice_get by_lane k ≡ Some xs → length xs < length lane.orders
    → length lane.orders ≤ length ys → IsPermutation (lanes_left place lanes by_lane) (record { lane = place + k; from = lane.first + length xs } ∷ lanes_left place lanes (set by_lane k ys))
set_left place [] by_lane k lane xs ys at answered short full = absurd (cc)
set_left place (l ∷ ls) [] k lane xs ys at answered short full = absurd (cc)
set_left place (l ∷ ls) (zs ∷ by_lane) zero lane xs ys at answered short full =
    let same_lane : l ≡ lane = cc in
    let same_answers : zs ≡ xs = cc in
    let orders = ap (λ (z : Lane). length z.orders) same_lane in
    let count = ap length same_answers in
    let first = ap (λ (z : Lane). z.first) same_lane in
    let before : nat_le (length l.orders) (length zs) ≡ false = lt-leb (length l.orders) (length zs) (omega arith) in
    let after : nat_le (length l.orders) (length ys) ≡ true = le-leb (length l.orders) (length ys) (omega arith) in
    let rest = lanes_left (place + 1) ls by_lane in
    let place_is : place ≡ place + 0 = omega arith in
    let from_is : l.first + length zs ≡ lane.first + length xs = omega arith in
    subst (λ (z : List Left × List Left). IsPermutation (z.0 ++ rest) (record { lane = place + 0; from = lane.first + length xs } ∷ (z.1 ++ rest)))
    (λ i. (
      (sym (ap (λ (b : Bool). rest_of b place (l.first + length zs)) before ∙ ap₂ (λ (m n : ℕ). record { lane = m; from = n } ∷ []) place_is from_is)) i,
      sym (ap (λ (b : Bool). rest_of b place (l.first + length ys)) after) i,
    ))
    (IsPermutation-refl (record { lane = place + 0; from = lane.first + length xs } ∷ rest))
set_left place (l ∷ ls) (zs ∷ by_lane) (suc k) lane xs ys at answered short full =
    let mine = rest_of (nat_le (length l.orders) (length zs)) place (l.first + length zs) in
    let one : Left = record { lane = place + suc k; from = lane.first + length xs } in
    let rest = lanes_left (place + 1) ls (set by_lane k ys) in
    let place_is : place + 1 + k ≡ place + suc k = omega arith in
    let later : IsPermutation (lanes_left (place + 1) ls by_lane) (one ∷ rest) =
    subst (λ (n : ℕ). IsPermutation (lanes_left (place + 1) ls by_lane) (record { lane = n; from = lane.first + length xs } ∷ rest)) place_is (set_left (place + 1) ls by_lane k lane xs ys at answered short full) in
    IsPermutation-trans (mine ++ lanes_left (place + 1) ls by_lane) (mine ++ one ∷ rest) (one ∷ (mine ++ rest))
    (IsPermutation-append_right mine (lanes_left (place + 1) ls by_lane) (one ∷ rest) later) (IsPermutation-middle mine one rest)

-- of two lists that begin alike and are the same up to order, the rests are
module _ {X : Type 0} where
  rests_at : (x : X) (s zs ys : List X) → Insert x s zs → zs ≡ x ∷ ys → Reorder s ys
  rests_at x s zs ys here e = subst (λ (l : List X). Reorder s l) (same_rest e) (Reorder-refl s)
    where
      same_rest : x ∷ s ≡ x ∷ ys → s ≡ ys
      same_rest h = cc
  rests_at x _ _ rest (there {y} {ys} {zs} i) e = subst (λ (z : X × List X). Reorder (z.0 ∷ ys) z.1) (λ j. (sym (firsts e) j, same_rest e j)) (put_in i)
    where
      firsts : y ∷ zs ≡ x ∷ rest → y ≡ x
      firsts h = cc

      same_rest : y ∷ zs ≡ x ∷ rest → zs ≡ rest
      same_rest h = cc

  rests_same : (x : X) (xs ys : List X) → Reorder (x ∷ xs) (x ∷ ys) → Reorder xs ys
  rests_same x xs ys r = let t = taken r here in both t.2 (rests_at x t.0 (x ∷ ys) ys t.1 refl)

-- A lane that was left is answered to its end: the run is then as far with one lane less that is left.
pub lane_done : (lanes : List Lane) (by_lane : List (List Answer)) (answers more : List Answer) (l : Left) (left : List Left) (is : IsLeftOf lanes by_lane l) → IsRunUpTo lanes by_lane answers (l ∷ left)
    → AreAnswers is.lane.first is.lane.orders (is.answers ++ more) → length (is.answers ++ more) ≡ length is.lane.orders → IsRunUpTo lanes (set by_lane l.lane (is.answers ++ more)) (answers ++ more) left
lane_done lanes by_lane answers more l left is up_to right whole =
    let full : List Answer = is.answers ++ more in
    let after : List (List Answer) = set by_lane l.lane full in
    let one : Left = record { lane = 0 + l.lane; from = is.lane.first + length is.answers } in
    let place : 0 + l.lane ≡ l.lane = omega arith in
    let named : one ≡ l = λ i. record { lane = place i; from = sym is.from i } in
    let cut : IsPermutation (lanes_left 0 lanes by_lane) (one ∷ lanes_left 0 lanes after) = set_left 0 lanes by_lane l.lane is.lane is.answers full is.at is.answered is.more (omega arith) in
    let turned : Reorder (l ∷ lanes_left 0 lanes after) (l ∷ left) =
    both (Reorder-sym (Reorder-from_permutation (lanes_left 0 lanes by_lane) (l ∷ lanes_left 0 lanes after) (subst (λ (z : Left). IsPermutation (lanes_left 0 lanes by_lane) (z ∷ lanes_left 0 lanes after)) named cut)))
    (Reorder-from_permutation (lanes_left 0 lanes by_lane) (l ∷ left) up_to.left_are) in
    record {
      long = length-set by_lane l.lane full ∙ up_to.long;
      each = λ k lane xs at answered. elim (get_set by_lane l.lane k full xs answered) [
        | inl old ↦ up_to.each k lane xs at old
        | inr new ↦
            let some : Some is.lane ≡ Some lane = sym is.at ∙ (ap (slice_get lanes) (sym new.0) ∙ at) in
            let same : is.lane ≡ lane = cc in
            subst (λ (z : Lane × List Answer). AreAnswers z.0.first z.0.orders z.1) (λ i. (same i, new.1 i)) right
      ];
      answers_are = IsPermutation-trans (each_list after) (each_list by_lane ++ more) (answers ++ more)
          (set_more by_lane l.lane is.answers more is.answered) (IsPermutation-append_left more (each_list by_lane) answers up_to.answers_are);
      left_are = Reorder-is_permutation (rests_same l (lanes_left 0 lanes after) left turned);
    }
