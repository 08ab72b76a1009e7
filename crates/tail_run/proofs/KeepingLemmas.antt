-- Each order has one answer, and lanes whose entries are in order keep that order among all answers.
use Rattle.std.proofs.Common.{◌≡◌, ◌≢◌, ℕ, zero, suc, ◌+◌, ◌<◌, ◌≤◌, ◌⊎◌, inl, inr, List, [], ◌∷◌, ◌++◌, length, get_or, Some, refl, sym, ap, ◌∙◌, subst, arith}
use Rattle.std.specs.Prelude.{All, Contains, IsPermutation, slice_get}
use Rattle.std.specs.List.{flat_map}
use Rattle.std.proofs.lemmas.List.Elements.{All-nil, All-append, All-weaker, Contains-append_left, Contains-append_right}
use Rattle.std.proofs.lemmas.List.Sorted.{Contains-permutation, IsPermutation-sym}
use Rattle.std.proofs.lemmas.Option.{slice_get_within, slice_get_cases, slice_get-get_or, get_or_from_slice_get}
use Rattle.fleet_base.specs.declared.request.Entry.{Entry}
use Rattle.fleet_base.specs.Journal.{Precedes, IsInOrder}
use Rattle.fleet_base.specs.Order.{IsAmong}
use Rattle.fleet_base.proofs.Reorder.{Reorder-from_permutation}
use Rattle.order_text.specs.declared.order.Order.{Order}
use Rattle.order_text.specs.declared.lane.Lane.{Lane}
use Rattle.order_text.specs.Lanes.{all_orders, after_lane, AreNumberedFrom, AreLanes}
use Rattle.lane_runs.specs.declared.answer.Answer.{Answer}
use Rattle.lane_runs.specs.declared.answer.Answer.TheVariants.{Made, Gone}
use Rattle.lane_runs.specs.declared.answer.Left.{Left}
use Rattle.lane_runs.specs.Answers.{entries_made, order_of, AreAnswers}
use Rattle.lane_runs.specs.Runs.{IsRun}
use Rattle.journal_lines.proofs.Numbering.{Pairs, Pairs-from_places, Pairs-reorder, All-at, All-among, All-from_each}
use Rattle.planner_pool.specs.Runs.{IsRunUpTo}
use Rattle.tail_run.specs.Finished.{LanesInOrder}

-- ---- elements at their places

module _ {X : Type 0} where
  pub same_some : (a b : X) → Some a ≡ Some b → a ≡ b
  same_some a b h = cc

  pub found_at : (xs : List X) (a : X) → Contains xs a → (k : ℕ) × (slice_get xs k ≡ Some a)
  found_at xs a (k, within, is) = (k, slice_get-get_or xs k a within ∙ ap Some is)

  pub has_at : (xs : List X) (k : ℕ) (a : X) → slice_get xs k ≡ Some a → Contains xs a
  has_at xs k a at = (k, slice_get_within xs k a at, get_or_from_slice_get xs k a a at)

  pub get_split : (xs ys : List X) (i : ℕ) (a : X) → slice_get (xs ++ ys) i ≡ Some a → (slice_get xs i ≡ Some a) ⊎ ((j : ℕ) × (i ≡ length xs + j) × (slice_get ys j ≡ Some a))
  get_split [] ys i a h = inr (i, omega arith, h)
  get_split (x ∷ xs) ys zero a h = inl h
  get_split (x ∷ xs) ys (suc i) a h = elim (get_split xs ys i a h) [ inl old ↦ inl old | inr new ↦ let e = new.1 in inr (new.0, omega (arith, e), new.2) ]

-- ---- answers to different orders

abbrev pub Apart : List Answer → Type 0
Apart xs = Pairs (λ a b. order_of a ≢ order_of b) xs

pub places_apart : (xs : List Answer) (i j : ℕ) (a b : Answer) → Apart xs → slice_get xs i ≡ Some a → slice_get xs j ≡ Some b → order_of a ≡ order_of b → i ≡ j
places_apart [] i j a b apart at there same = absurd (cc)
places_apart (x ∷ xs) zero zero a b apart at there same = refl
places_apart (x ∷ xs) zero (suc j) a b apart at there same =
    let is : x ≡ a = cc in
    absurd (All-at (λ y. order_of x ≢ order_of y) xs j b apart.0 there (ap order_of is ∙ same))
places_apart (x ∷ xs) (suc i) zero a b apart at there same =
    let is : x ≡ b = cc in
    absurd (All-at (λ y. order_of x ≢ order_of y) xs i a apart.0 at (ap order_of is ∙ sym same))
places_apart (x ∷ xs) (suc i) (suc j) a b apart at there same = ap suc (places_apart xs i j a b apart.1 at there same)

one_answer : (xs : List Answer) → Apart xs → (a b : Answer) → Contains xs a → Contains xs b → order_of a ≡ order_of b → a ≡ b
one_answer xs apart a b has there same =
    let f = found_at xs a has in
    let g = found_at xs b there in
    same_some a b (sym f.1 ∙ (ap (slice_get xs) (places_apart xs f.0 g.0 a b apart f.1 g.1 same) ∙ g.1))

pub apart_moved : (xs ys : List Answer) → IsPermutation xs ys → Apart xs → Apart ys
apart_moved xs ys same apart = Pairs-reorder (λ a b. order_of a ≢ order_of b) (λ a b h e. h (sym e)) (Reorder-from_permutation xs ys same) apart

apart_both : (m : ℕ) (xs ys : List Answer) → All (λ a. order_of a < m) xs → All (λ b. m ≤ order_of b) ys → Apart xs → Apart ys → Apart (xs ++ ys)
apart_both m [] ys low high first second = second
apart_both m (x ∷ xs) ys low high first second =
    let less : order_of x < m = low 0 x (omega arith) in (
      All-append (λ b. order_of x ≢ order_of b) xs ys first.0
          (All-weaker (λ b. m ≤ order_of b) (λ b. order_of x ≢ order_of b) (λ b above e. omega arith) ys high),
      apart_both m xs ys (λ k d within. low (suc k) d (omega arith)) high first.1 second,
    )

-- ---- the answers of one lane

-- the order that an answer at this place answers
pub order_at : (first : ℕ) (orders : List Order) (xs : List Answer) (j : ℕ) (a : Answer) → AreAnswers first orders xs → slice_get xs j ≡ Some a
    → (o : Order) × (slice_get orders j ≡ Some o) × (j < length orders) × (order_of a ≡ first + j)
order_at first orders xs j a right at = elim (slice_get_cases orders j).1 [
  | inl here ↦ (here.0, here.2, here.1, (right.fits j here.0 a here.2 at).0)
  | inr past ↦ let over = past.0 in let few = right.few in absurd (omega (arith, slice_get_within xs j a at))
]

apart_answers : (first : ℕ) (orders : List Order) (xs : List Answer) → AreAnswers first orders xs → Apart xs
apart_answers first orders xs right = Pairs-from_places (λ a b. order_of a ≢ order_of b) xs (λ i j d less within same. omega (arith, number i d (omega arith), number j d within))
  where
    number : (i : ℕ) (d : Answer) → i < length xs → order_of (get_or xs i d) ≡ first + i
    number i d within = (order_at first orders xs i (get_or xs i d) right (slice_get-get_or xs i d within)).3

pub run_apart : (lanes : List Lane) (all : List Answer) → IsRun lanes all → Apart all
run_apart lanes all run = apart_moved run.by_number all run.same (apart_answers 0 (all_orders lanes) run.by_number run.right)

-- two answers of a run to one order are the same
pub once : (lanes : List Lane) (all : List Answer) → IsRun lanes all → (a b : Answer) → Contains all a → Contains all b → order_of a ≡ order_of b → a ≡ b
once lanes all run = one_answer all (run_apart lanes all run)

-- and stand at one place
pub once_at : (lanes : List Lane) (all : List Answer) → IsRun lanes all → (i j : ℕ) (a b : Answer) → slice_get all i ≡ Some a → slice_get all j ≡ Some b → order_of a ≡ order_of b → i ≡ j
once_at lanes all run i j a b = places_apart all i j a b (run_apart lanes all run)

-- ---- the answers of the lanes, lane by lane

abbrev pub each_list : List (List Answer) → List Answer
each_list by_lane = flat_map (λ (xs : List Answer). xs) by_lane

-- the first orders of each lane have these answers
pub record AreByLane (base : ℕ) (lanes : List Lane) (by_lane : List (List Answer)) : Type 0 where
  pub numbered : AreNumberedFrom base lanes
  pub long : length by_lane ≡ length lanes
  pub each : (k : ℕ) (lane : Lane) (xs : List Answer) → slice_get lanes k ≡ Some lane → slice_get by_lane k ≡ Some xs → AreAnswers lane.first lane.orders xs

pub later_lanes : (base : ℕ) (l : Lane) (ls : List Lane) (xs : List Answer) (by_lane : List (List Answer)) → AreByLane base (l ∷ ls) (xs ∷ by_lane) → AreByLane (after_lane l) ls by_lane
later_lanes base l ls xs by_lane by =
    let long = by.long in
    record { numbered = by.numbered.1; long = omega arith; each = λ k lane ys at there. by.each (suc k) lane ys at there }

pub by_lanes : (cells : ℕ) (lanes : List Lane) (by_lane : List (List Answer)) (answers : List Answer) (left : List Left) → AreLanes cells lanes → IsRunUpTo lanes by_lane answers left
    → AreByLane 0 lanes by_lane
by_lanes cells lanes by_lane answers left are up_to = record { numbered = are.numbered; long = up_to.long; each = up_to.each }

lanes_apart : (base : ℕ) (lanes : List Lane) (by_lane : List (List Answer)) → AreByLane base lanes by_lane → Apart (each_list by_lane) × All (λ a. base ≤ order_of a) (each_list by_lane)
lanes_apart base [] [] by = (tt, All-nil (λ (a : Answer). base ≤ order_of a))
lanes_apart base [] (xs ∷ by_lane) by = let long = by.long in absurd (omega arith)
lanes_apart base (l ∷ ls) [] by = let long = by.long in absurd (omega arith)
lanes_apart base (l ∷ ls) (xs ∷ by_lane) by =
    let right = by.each 0 l xs refl refl in
    let first = by.numbered.0 in
    let rest = lanes_apart (after_lane l) ls by_lane (later_lanes base l ls xs by_lane by) in (
      apart_both (after_lane l) xs (each_list by_lane)
          (All-from_each (λ a. order_of a < after_lane l) xs (λ k a at. let o = order_at l.first l.orders xs k a right at in let less = o.2 in let is = o.3 in omega arith))
          rest.1 (apart_answers l.first l.orders xs right) rest.0,
      All-append (λ a. base ≤ order_of a) xs (each_list by_lane)
          (All-from_each (λ a. base ≤ order_of a) xs (λ k a at. let is = (order_at l.first l.orders xs k a right at).3 in omega arith))
          (All-weaker (λ a. after_lane l ≤ order_of a) (λ a. base ≤ order_of a) (λ a above. omega arith) (each_list by_lane) rest.1),
    )

-- of a run of which some lanes were left too, two answers to one order are the same
pub unique : (cells : ℕ) (lanes : List Lane) (by_lane : List (List Answer)) (answers : List Answer) (left : List Left) → AreLanes cells lanes → IsRunUpTo lanes by_lane answers left
    → (a b : Answer) → Contains answers a → Contains answers b → order_of a ≡ order_of b → a ≡ b
unique cells lanes by_lane answers left are up_to =
    one_answer answers (apart_moved (each_list by_lane) answers up_to.answers_are (lanes_apart 0 lanes by_lane (by_lanes cells lanes by_lane answers left are up_to)).0)

pub each_has : (by_lane : List (List Answer)) (k : ℕ) (xs : List Answer) (a : Answer) → slice_get by_lane k ≡ Some xs → Contains xs a → Contains (each_list by_lane) a
each_has [] k xs a at has = absurd (cc)
each_has (ys ∷ by_lane) zero xs a at has = Contains-append_left ys (each_list by_lane) a (subst (λ (l : List Answer). Contains l a) (sym (same_some ys xs at)) has)
each_has (ys ∷ by_lane) (suc k) xs a at has = Contains-append_right ys (each_list by_lane) a (each_has by_lane k xs a at has)

-- the answer to order j of a lane is the one that stands at place j of the lane's answers
pub of_lane : (cells : ℕ) (lanes : List Lane) (by_lane : List (List Answer)) (answers : List Answer) (left : List Left) → AreLanes cells lanes → IsRunUpTo lanes by_lane answers left
    → (k j : ℕ) (lane : Lane) (xs : List Answer) (a b : Answer) → slice_get lanes k ≡ Some lane → slice_get by_lane k ≡ Some xs → slice_get xs j ≡ Some a
    → Contains answers b → order_of b ≡ lane.first + j → b ≡ a
of_lane cells lanes by_lane answers left are up_to k j lane xs a b at answered here has number =
    let is = (order_at lane.first lane.orders xs j a (up_to.each k lane xs at answered) here).3 in
    unique cells lanes by_lane answers left are up_to b a has
    (Contains-permutation (each_list by_lane) answers a up_to.answers_are (each_has by_lane k xs a answered (has_at xs j a here))) (number ∙ sym is)

-- ---- the lane of an answer

-- the answer stands among those of the lane at this place
pub record IsInLane (lane : Lane) (by_lane : List (List Answer)) (k : ℕ) (a : Answer) : Type 0 where
  pub xs : List Answer
  pub j : ℕ
  pub answered : slice_get by_lane k ≡ Some xs
  pub at : slice_get xs j ≡ Some a
  pub number : order_of a ≡ lane.first + j

pub lane_since : (base : ℕ) (lanes : List Lane) (k : ℕ) (lane : Lane) → AreNumberedFrom base lanes → slice_get lanes k ≡ Some lane → base ≤ lane.first
lane_since base [] k lane numbered at = absurd (cc)
lane_since base (l ∷ ls) zero lane numbered at = let first = numbered.0 in omega (arith, ap (λ (z : Lane). z.first) (same_some l lane at))
lane_since base (l ∷ ls) (suc k) lane numbered at = let first = numbered.0 in omega (arith, lane_since (after_lane l) ls k lane numbered.1 at)

pub in_lane : (base : ℕ) (lanes : List Lane) (by_lane : List (List Answer)) → AreByLane base lanes by_lane → (i k : ℕ) (a : Answer) (lane : Lane) → slice_get (each_list by_lane) i ≡ Some a
    → slice_get lanes k ≡ Some lane → lane.first ≤ order_of a → order_of a < after_lane lane → IsInLane lane by_lane k a
in_lane base [] by_lane by i k a lane here at low high = absurd (cc)
in_lane base (l ∷ ls) [] by i k a lane here at low high = absurd (cc)
in_lane base (l ∷ ls) (xs ∷ by_lane) by i zero a lane here at low high = elim (get_split xs (each_list by_lane) i a here) [
  | inl mine ↦
      let o = order_at l.first l.orders xs i a (by.each 0 l xs refl refl) mine in
      let is = o.3 in
      record { xs = xs; j = i; answered = refl; at = mine; number = omega (arith, ap (λ (z : Lane). z.first) (same_some l lane at)) }
  | inr later ↦
      let above = All-at (λ a. after_lane l ≤ order_of a) (each_list by_lane) later.0 a (lanes_apart (after_lane l) ls by_lane (later_lanes base l ls xs by_lane by)).1 later.2 in
      absurd (omega (arith, ap after_lane (same_some l lane at)))
]
in_lane base (l ∷ ls) (xs ∷ by_lane) by i (suc k) a lane here at low high = elim (get_split xs (each_list by_lane) i a here) [
  | inl mine ↦
      let o = order_at l.first l.orders xs i a (by.each 0 l xs refl refl) mine in
      let less = o.2 in
      let is = o.3 in
      absurd (omega (arith, lane_since (after_lane l) ls k lane by.numbered.1 at))
  | inr later ↦
      let r = in_lane (after_lane l) ls by_lane (later_lanes base l ls xs by_lane by) later.0 k a lane later.2 at low high in
      record { xs = r.xs; j = r.j; answered = r.answered; at = r.at; number = r.number }
]

-- ---- the entries of answers

pub made_among : (xs : List Answer) (j n : ℕ) (y : Entry) → slice_get xs j ≡ Some (Made n y) → IsAmong y (entries_made xs)
made_among [] j n y at = absurd (cc)
made_among (Made m e ∷ xs) zero n y at = inl (cc)
made_among (Gone m t ∷ xs) zero n y at = absurd (cc)
made_among (Made m e ∷ xs) (suc j) n y at = inr (made_among xs j n y at)
made_among (Gone m t ∷ xs) (suc j) n y at = made_among xs j n y at

-- what holds of each entry and each later one holds of the entries at two places of the answers
pub made_pairs : (R : Entry → Entry → Type 0) (xs : List Answer) (i j m n : ℕ) (x y : Entry) → Pairs R (entries_made xs) → slice_get xs i ≡ Some (Made m x)
    → slice_get xs j ≡ Some (Made n y) → i < j → R x y
made_pairs R [] i j m n x y pairs at there less = absurd (cc)
made_pairs R (a ∷ xs) i zero m n x y pairs at there less = absurd (omega arith)
made_pairs R (Made l e ∷ xs) zero (suc j) m n x y pairs at there less =
    let same : e ≡ x = cc in
    subst (λ (z : Entry). R z y) same (All-among (R e) y (entries_made xs) pairs.0 (made_among xs j n y there))
made_pairs R (Gone l t ∷ xs) zero (suc j) m n x y pairs at there less = absurd (cc)
made_pairs R (Made l e ∷ xs) (suc i) (suc j) m n x y pairs at there less = made_pairs R xs i j m n x y pairs.1 at there (omega arith)
made_pairs R (Gone l t ∷ xs) (suc i) (suc j) m n x y pairs at there less = made_pairs R xs i j m n x y pairs at there (omega arith)

pub in_order_pairs : (es : List Entry) → IsInOrder es → Pairs Precedes es
in_order_pairs es order = Pairs-from_places Precedes es (λ i j d less within. order i j d less within)

-- where the entries of each lane's answers are in the order of the journal, so are those of each lane among all
pub lanes_in_order : (cells : ℕ) (lanes : List Lane) (by_lane : List (List Answer)) (all : List Answer) (left : List Left) → AreLanes cells lanes → IsRunUpTo lanes by_lane all left
    → ((k : ℕ) (xs : List Answer) → slice_get by_lane k ≡ Some xs → IsInOrder (entries_made xs)) → LanesInOrder lanes all
lanes_in_order cells lanes by_lane all left are up_to order m n x y one less has there =
    let p = found m x one.first has in
    let q = found n y one.second there in
    let lists : p.xs ≡ q.xs = same_some p.xs q.xs (sym p.answered ∙ q.answered) in
    let first = p.number in
    let second = q.number in
    made_pairs Precedes p.xs p.j q.j m n x y (in_order_pairs (entries_made p.xs) (order one.place p.xs p.answered)) p.at
    (subst (λ (l : List Answer). slice_get l q.j ≡ Some (Made n y)) (sym lists) q.at) (omega arith)
  where
    found : (o : ℕ) (e : Entry) → (one.lane.first ≤ o) × (o < after_lane one.lane) → Contains all (Made o e) → IsInLane one.lane by_lane one.place (Made o e)
    found o e within is =
        let f = found_at (each_list by_lane) (Made o e) (Contains-permutation all (each_list by_lane) (Made o e) (IsPermutation-sym (each_list by_lane) all up_to.answers_are) is) in
        in_lane 0 lanes by_lane (by_lanes cells lanes by_lane all left are up_to) f.0 one.place (Made o e) one.lane f.1 one.at within.0 within.1
