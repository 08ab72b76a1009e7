-- The ids that orders were given by the answers of lanes, and how many answers there are.
use Rattle.std.proofs.Common.{◌≡◌, ◌≢◌, ℕ, zero, suc, ◌+◌, ◌<◌, ◌≤◌, inl, inr, List, [], ◌∷◌, length, set, replicate, Option, Some, None, refl, sym, ap, ◌∙◌, subst, arith}
use Rattle.std.specs.Prelude.{All, Contains, fold, slice_get}
use Rattle.std.proofs.lemmas.List.{length-append, length-set, length-replicate, get_or-replicate, get_or-set_same, get_or-set_other}
use Rattle.std.proofs.lemmas.List.Elements.{All-nil, All-append, All-weaker, All-head, All-tail}
use Rattle.std.proofs.lemmas.List.Sorted.{Contains-permutation, All-permutation, IsPermutation-sym, length_permutation}
use Rattle.std.proofs.lemmas.Option.{slice_get_within, slice_get_cases, slice_get-get_or, get_or_from_slice_get}
use Rattle.fleet_base.specs.declared.request.RouteId.{RouteId}
use Rattle.fleet_base.specs.declared.request.Entry.TheVariants as E
use Rattle.fleet_base.proofs.WalkLemmas.{nat_cases}
use Rattle.order_text.specs.declared.lane.Lane.{Lane}
use Rattle.order_text.specs.Lanes.{all_orders, after_lane, AreNumberedFrom, AreLanes}
use Rattle.lane_runs.specs.declared.answer.Answer.{Answer}
use Rattle.lane_runs.specs.declared.answer.Answer.TheVariants.{Made, Gone}
use Rattle.lane_runs.specs.declared.answer.Left.{Left}
use Rattle.lane_runs.specs.Answers.{order_of}
use Rattle.journal_lines.proofs.Numbering.{All-from_each}
use Rattle.planner_pool.specs.Runs.{IsRunUpTo}
use Rattle.tail_run.specs.Ids.{noted, ids_of, id_in, AreIdsOf}
use Rattle.tail_run.proofs.KeepingLemmas.{AreByLane, each_list, later_lanes, by_lanes, in_lane, each_has, order_at, found_at, has_at, same_some}

-- ---- one answer more

module _ {X : Type 0} where
  pub set_here : (xs : List X) (k : ℕ) (y : X) → k < length xs → slice_get (set xs k y) k ≡ Some y
  set_here xs k y within = slice_get-get_or (set xs k y) k y (omega (arith, length-set xs k y)) ∙ ap Some (get_or-set_same xs k y y within)

  set_there : (xs : List X) (k m : ℕ) (y z : X) → k ≢ m → slice_get xs m ≡ Some z → slice_get (set xs k y) m ≡ Some z
  set_there xs k m y z apart at =
      slice_get-get_or (set xs k y) m z (omega (arith, length-set xs k y, slice_get_within xs m z at))
      ∙ ap Some (get_or-set_other xs k m y z (λ e. apart (sym e)) ∙ get_or_from_slice_get xs m z z at)

noted_long : (ids : List (Option RouteId)) (a : Answer) → length (noted ids a) ≡ length ids
noted_long ids (Made n (E.Commit id era q w)) = length-set ids n (Some id)
noted_long ids (Made n (E.Cancel id era)) = refl
noted_long ids (Made n (E.NoRoute stamp caller era q)) = refl
noted_long ids (Gone n t) = refl

fold_long : (xs : List Answer) (ids : List (Option RouteId)) → length (fold noted ids xs) ≡ length ids
fold_long [] ids = refl
fold_long (a ∷ xs) ids = fold_long xs (noted ids a) ∙ noted_long ids a

pub ids_long : (count : ℕ) (xs : List Answer) → length (ids_of count xs) ≡ count
ids_long count xs = fold_long xs (replicate count None) ∙ length-replicate count None

-- ---- the id at one number

-- all answers to this order gave this id
abbrev Give : ℕ → Option RouteId → List Answer → Type 0
Give m v xs = All (λ a. order_of a ≡ m → id_in (Some a) ≡ v) xs

abbrev IsAtNumber : ℕ → Option RouteId → List (Option RouteId) → Type 0
IsAtNumber m v ids = slice_get ids m ≡ Some v

by_number : {P : Type 0} (m n : ℕ) → (n ≡ m → P) → (n ≢ m → P) → P
by_number m n here there = elim (nat_cases m n) [
  | inl less ↦ there (λ e. omega arith)
  | inr over ↦ elim (nat_cases n m) [ inl more ↦ there (λ e. omega arith) | inr under ↦ here (omega arith) ]
]

module _ (m : ℕ) (v : Option RouteId) where
  -- what the order was given stays
  noted_stays : (ids : List (Option RouteId)) (a : Answer) → (order_of a ≡ m → id_in (Some a) ≡ v) → IsAtNumber m v ids → IsAtNumber m v (noted ids a)
  noted_stays ids (Made n (E.Commit id era q w)) gives at =
      by_number m n
      (λ e. subst (λ (k : ℕ). slice_get (set ids n (Some id)) k ≡ Some v) e (set_here ids n (Some id) (omega (arith, e, slice_get_within ids m v at)) ∙ ap Some (gives e)))
      (λ apart. set_there ids n m (Some id) v apart at)
  noted_stays ids (Made n (E.Cancel id era)) gives at = at
  noted_stays ids (Made n (E.NoRoute stamp caller era q)) gives at = at
  noted_stays ids (Gone n t) gives at = at

  fold_stays : (xs : List Answer) (ids : List (Option RouteId)) → Give m v xs → IsAtNumber m v ids → IsAtNumber m v (fold noted ids xs)
  fold_stays [] ids gives at = at
  fold_stays (a ∷ xs) ids gives at =
      fold_stays xs (noted ids a) (All-tail (λ a. order_of a ≡ m → id_in (Some a) ≡ v) a xs gives)
      (noted_stays ids a (All-head (λ a. order_of a ≡ m → id_in (Some a) ≡ v) a xs gives) at)

  -- one answer to it gives it the id
  noted_gives : (ids : List (Option RouteId)) (a : Answer) → order_of a ≡ m → id_in (Some a) ≡ v → IsAtNumber m None ids → IsAtNumber m v (noted ids a)
  noted_gives ids (Made n (E.Commit id era q w)) is gives at =
      subst (λ (k : ℕ). slice_get (set ids n (Some id)) k ≡ Some v) is (set_here ids n (Some id) (omega (arith, slice_get_within ids m None at)) ∙ ap Some gives)
  noted_gives ids (Made n (E.Cancel id era)) is gives at = at ∙ ap Some gives
  noted_gives ids (Made n (E.NoRoute stamp caller era q)) is gives at = at ∙ ap Some gives
  noted_gives ids (Gone n t) is gives at = at ∙ ap Some gives

  -- and one to another order leaves it as it was
  noted_other : (ids : List (Option RouteId)) (a : Answer) → order_of a ≢ m → IsAtNumber m None ids → IsAtNumber m None (noted ids a)
  noted_other ids (Made n (E.Commit id era q w)) other at = set_there ids n m (Some id) None other at
  noted_other ids (Made n (E.Cancel id era)) other at = at
  noted_other ids (Made n (E.NoRoute stamp caller era q)) other at = at
  noted_other ids (Gone n t) other at = at

  fold_gives : (xs : List Answer) (ids : List (Option RouteId)) (k : ℕ) (a : Answer) → Give m v xs → slice_get xs k ≡ Some a → order_of a ≡ m → IsAtNumber m None ids
      → IsAtNumber m v (fold noted ids xs)
  fold_gives [] ids k a gives at is none = absurd (cc)
  fold_gives (b ∷ xs) ids zero a gives at is none =
      let same = same_some b a at in
      let number : order_of b ≡ m = ap order_of same ∙ is in
      fold_stays xs (noted ids b) (All-tail (λ a. order_of a ≡ m → id_in (Some a) ≡ v) b xs gives)
      (noted_gives ids b number (All-head (λ a. order_of a ≡ m → id_in (Some a) ≡ v) b xs gives number) none)
  fold_gives (b ∷ xs) ids (suc k) a gives at is none =
      let rest = All-tail (λ a. order_of a ≡ m → id_in (Some a) ≡ v) b xs gives in
      by_number m (order_of b)
      (λ number. fold_stays xs (noted ids b) rest (noted_gives ids b number (All-head (λ a. order_of a ≡ m → id_in (Some a) ≡ v) b xs gives number) none))
      (λ other. fold_gives xs (noted ids b) k a rest at is (noted_other ids b other none))

-- ---- orders within all orders

pub lane_end : (base : ℕ) (lanes : List Lane) (k : ℕ) (lane : Lane) → AreNumberedFrom base lanes → slice_get lanes k ≡ Some lane → after_lane lane ≤ base + length (all_orders lanes)
lane_end base [] k lane numbered at = absurd (cc)
lane_end base (l ∷ ls) zero lane numbered at =
    let first = numbered.0 in
    omega (arith, ap after_lane (same_some l lane at), length-append l.orders (all_orders ls))
lane_end base (l ∷ ls) (suc k) lane numbered at =
    let first = numbered.0 in
    omega (arith, length-append l.orders (all_orders ls), lane_end (after_lane l) ls k lane numbered.1 at)

orders_from : (base : ℕ) (lanes : List Lane) (by_lane : List (List Answer)) → AreByLane base lanes by_lane → All (λ a. order_of a < base + length (all_orders lanes)) (each_list by_lane)
orders_from base [] [] by = All-nil (λ a. order_of a < base + length (all_orders []))
orders_from base [] (xs ∷ by_lane) by = let long = by.long in absurd (omega arith)
orders_from base (l ∷ ls) [] by = All-nil (λ a. order_of a < base + length (all_orders (l ∷ ls)))
orders_from base (l ∷ ls) (xs ∷ by_lane) by =
    let first = by.numbered.0 in
    let bound : ℕ = base + length (all_orders (l ∷ ls)) in
    All-append (λ a. order_of a < bound) xs (each_list by_lane)
    (All-from_each (λ a. order_of a < bound) xs (λ j a at.
    let o = order_at l.first l.orders xs j a (by.each 0 l xs refl refl) at in let less = o.2 in let is = o.3 in omega (arith, length-append l.orders (all_orders ls))))
    (All-weaker (λ a. order_of a < after_lane l + length (all_orders ls)) (λ a. order_of a < bound) (λ a less. omega (arith, length-append l.orders (all_orders ls)))
    (each_list by_lane) (orders_from (after_lane l) ls by_lane (later_lanes base l ls xs by_lane by)))

few_from : (base : ℕ) (lanes : List Lane) (by_lane : List (List Answer)) → AreByLane base lanes by_lane → length (each_list by_lane) ≤ length (all_orders lanes)
few_from base [] [] by = omega arith
few_from base [] (xs ∷ by_lane) by = let long = by.long in absurd (omega arith)
few_from base (l ∷ ls) [] by = omega arith
few_from base (l ∷ ls) (xs ∷ by_lane) by =
    let few = (by.each 0 l xs refl refl).few in
    omega (arith, length-append xs (each_list by_lane), length-append l.orders (all_orders ls), few_from (after_lane l) ls by_lane (later_lanes base l ls xs by_lane by))

-- ---- a run of which some lanes were left

module _ (cells : ℕ) (lanes : List Lane) (by_lane : List (List Answer)) (answers : List Answer) (left : List Left) (are : AreLanes cells lanes) (run : IsRunUpTo lanes by_lane answers left) where
  pub few_answers : length answers ≤ length (all_orders lanes)
  few_answers = omega (arith, length_permutation (each_list by_lane) answers run.answers_are, few_from 0 lanes by_lane (by_lanes cells lanes by_lane answers left are run))

  pub orders_within : All (λ a. order_of a < length (all_orders lanes)) answers
  orders_within =
      All-permutation (λ a. order_of a < length (all_orders lanes)) (each_list by_lane) answers run.answers_are
      (All-weaker (λ a. order_of a < 0 + length (all_orders lanes)) (λ a. order_of a < length (all_orders lanes)) (λ a less. omega arith) (each_list by_lane)
      (orders_from 0 lanes by_lane (by_lanes cells lanes by_lane answers left are run)))

  module _ (k : ℕ) (lane : Lane) (xs : List Answer) (at : slice_get lanes k ≡ Some lane) (answered : slice_get by_lane k ≡ Some xs) where
    -- an answer to an order of the lane stands among the lane's
    in_this : (b : Answer) (j : ℕ) → j < length lane.orders → Contains answers b → order_of b ≡ lane.first + j → slice_get xs j ≡ Some b
    in_this b j within has number =
        let f = found_at (each_list by_lane) b (Contains-permutation answers (each_list by_lane) b (IsPermutation-sym (each_list by_lane) answers run.answers_are) has) in
        let r = in_lane 0 lanes by_lane (by_lanes cells lanes by_lane answers left are run) f.0 k b lane f.1 at (omega arith) (omega arith) in
        let is = r.number in
        let place : r.j ≡ j = omega arith in
        let list = same_some r.xs xs (sym r.answered ∙ answered) in
        subst (λ (z : List Answer × ℕ). slice_get z.0 z.1 ≡ Some b) (λ i. (list i, place i)) r.at

    pub ids_at : AreIdsOf lane xs (ids_of (length (all_orders lanes)) answers)
    ids_at j within = elim (slice_get_cases xs j).1 [
      | inl here ↦
          let a = here.0 in
          let number = (order_at lane.first lane.orders xs j a (run.each k lane xs at answered) here.2).3 in
          let has = found_at answers a (Contains-permutation (each_list by_lane) answers a run.answers_are (each_has by_lane k xs a answered (has_at xs j a here.2))) in
          fold_gives (lane.first + j) (id_in (Some a)) answers start has.0 a
          (All-from_each (λ b. order_of b ≡ lane.first + j → id_in (Some b) ≡ id_in (Some a)) answers
          (λ i b there same. ap (λ (c : Answer). id_in (Some c)) (same_some b a (sym (in_this b j within (has_at answers i b there) same) ∙ here.2))))
          has.1 number empty
          ∙ ap (λ (o : Option Answer). Some (id_in o)) (sym here.2)
      | inr past ↦
          fold_stays (lane.first + j) None answers start
          (All-from_each (λ b. order_of b ≡ lane.first + j → id_in (Some b) ≡ None) answers
          (λ i b there same. absurd (let e : None ≡ Some b = sym past.1 ∙ in_this b j within (has_at answers i b there) same in cc)))
          empty
          ∙ ap (λ (o : Option Answer). Some (id_in o)) (sym past.1)
    ]
      where
        start : List (Option RouteId)
        start = replicate (length (all_orders lanes)) None

        below : lane.first + j < length (all_orders lanes)
        below = omega (arith, lane_end 0 lanes k lane are.numbered at)

        empty : IsAtNumber (lane.first + j) None start
        empty =
            let none : Option RouteId = None in
            slice_get-get_or start (lane.first + j) none (omega (arith, below, length-replicate (length (all_orders lanes)) none))
            ∙ ap Some (get_or-replicate (length (all_orders lanes)) (lane.first + j) none none below)
