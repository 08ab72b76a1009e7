-- One order more of a lane that was left.
use Rattle.std.proofs.Common.{◌≡◌, ◌≢◌, ℕ, zero, suc, ◌+◌, ◌-◌, ◌<◌, ◌≤◌, ◌⊎◌, inl, inr, List, [], ◌∷◌, ◌++◌, length, Option, Some, None, set, refl, sym, ap, ◌∙◌, subst, arith}
use Rattle.std.specs.Prelude.{fold, get_or, slice_get}
use Rattle.std.proofs.lemmas.List.{length-append, length-set}
use Rattle.std.proofs.lemmas.List.Elements.{All-nil}
use Rattle.std.proofs.lemmas.Option.{slice_get_within, slice_get_past, slice_get-get_or}
use Rattle.fleet_base.specs.declared.request.RouteId.{RouteId}
use Rattle.fleet_base.specs.declared.request.Entry.TheVariants as E
use Rattle.fleet_base.specs.History.{IsLive}
use Rattle.fleet_base.specs.Journal.{Precedes}
use Rattle.fleet_base.proofs.WalkLemmas.{nat_cases}
use Rattle.order_text.specs.declared.lane.Lane.{Lane}
use Rattle.order_text.specs.declared.order.Order.{Order}
use Rattle.order_text.specs.declared.order.Order.TheVariants.{Plan, Cancel}
use Rattle.order_text.specs.Lanes.{IsLane, IsOrderOn, after_lane}
use Rattle.lane_runs.specs.declared.answer.Answer.{Answer}
use Rattle.lane_runs.specs.declared.answer.Answer.TheVariants.{Made, Gone}
use Rattle.lane_runs.specs.Answers.{order_of, Committed, Refused, IsReplyAt}
use Rattle.lane_runs.specs.Answering.{AreBeingAnswered}
use Rattle.lane_runs.proofs.AnswerLemmas.{target_reply, target_live}
use Rattle.lane_runs.proofs.NameLemmas.{lane_names}
use Rattle.lane_runs.proofs.NumberLemmas.{slice_get_front}
use Rattle.plain_run.specs.Underway.{IsBehind}
use Rattle.plain_run.proofs.StepLemmas.{same_some}
use Rattle.tail_run.specs.declared.lane.Tail.{Tail}
use Rattle.tail_run.specs.Ids.{noted, id_in, AreIdsOf}
use Rattle.tail_run.specs.Tails.{IsReplyBy, MayBeAnswered, HasKept, AnswersOne, IsStart, GoesOn, IsAtPlace}
use Rattle.tail_run.proofs.TailSteps.{entry_more, plan_more, ended_more, gone_one_more}

-- ---- ids by their numbers

get_set_here : {X : Type 0} (xs : List X) (k : ℕ) (z : X) → k < length xs → slice_get (set xs k z) k ≡ Some z
get_set_here [] k z less = absurd (omega arith)
get_set_here (x ∷ xs) zero z less = refl
get_set_here (x ∷ xs) (suc k) z less = get_set_here xs k z (omega arith)

get_set_other : {X : Type 0} (xs : List X) (k i : ℕ) (z : X) → i ≢ k → slice_get (set xs k z) i ≡ slice_get xs i
get_set_other [] k i z apart = refl
get_set_other (x ∷ xs) zero zero z apart = absurd (apart refl)
get_set_other (x ∷ xs) zero (suc i) z apart = refl
get_set_other (x ∷ xs) (suc k) zero z apart = refl
get_set_other (x ∷ xs) (suc k) (suc i) z apart = get_set_other xs k i z (λ e. apart (ap suc e))

pub noted_length : (ids : List (Option RouteId)) (a : Answer) → length (noted ids a) ≡ length ids
noted_length ids (Made n (E.Commit id era q w)) = length-set ids n (Some id)
noted_length ids (Made n (E.Cancel id era)) = refl
noted_length ids (Made n (E.NoRoute stamp caller era q)) = refl
noted_length ids (Gone n target) = refl

pub noted_all_length : (xs : List Answer) (ids : List (Option RouteId)) → length (fold noted ids xs) ≡ length ids
noted_all_length [] ids = refl
noted_all_length (a ∷ xs) ids = noted_all_length xs (noted ids a) ∙ noted_length ids a

-- what an answer notes at its own number, and at another
noted_here : (ids : List (Option RouteId)) (a : Answer) → order_of a < length ids → slice_get ids (order_of a) ≡ Some None → slice_get (noted ids a) (order_of a) ≡ Some (id_in (Some a))
noted_here ids (Made n (E.Commit id era q w)) less free = get_set_here ids n (Some id) less
noted_here ids (Made n (E.Cancel id era)) less free = free
noted_here ids (Made n (E.NoRoute stamp caller era q)) less free = free
noted_here ids (Gone n target) less free = free

noted_other : (ids : List (Option RouteId)) (a : Answer) (i : ℕ) → i ≢ order_of a → slice_get (noted ids a) i ≡ slice_get ids i
noted_other ids (Made n (E.Commit id era q w)) i apart = get_set_other ids n i (Some id) apart
noted_other ids (Made n (E.Cancel id era)) i apart = refl
noted_other ids (Made n (E.NoRoute stamp caller era q)) i apart = refl
noted_other ids (Gone n target) i apart = refl

get_end : {X : Type 0} (xs : List X) (a : X) → slice_get (xs ++ a ∷ []) (length xs) ≡ Some a
get_end [] a = refl
get_end (x ∷ xs) a = get_end xs a

get_more : {X : Type 0} (xs : List X) (a : X) (j : ℕ) → j ≢ length xs → slice_get (xs ++ a ∷ []) j ≡ slice_get xs j
get_more xs a j apart = elim (nat_cases j (length xs)) [
  | inl less ↦ slice_get_front xs (a ∷ []) j less
  | inr past ↦ slice_get_past (xs ++ a ∷ []) j (over past) ∙ sym (slice_get_past xs j (omega arith))
]
  where
    over : length xs ≤ j → length (xs ++ a ∷ []) ≤ j
    over past = elim (nat_cases (length xs) j) [ inl less ↦ omega (arith, length-append xs (a ∷ [])) | inr back ↦ absurd (apart (omega arith)) ]

ids_more : (lane : Lane) (xs : List Answer) (a : Answer) (ids : List (Option RouteId)) → AreIdsOf lane xs ids → order_of a ≡ lane.first + length xs → length xs < length lane.orders → after_lane lane ≤ length ids
    → AreIdsOf lane (xs ++ a ∷ []) (noted ids a)
ids_more lane xs a ids are number less long j within = elim (place_cases j (length xs)) [
  | inl same ↦
      let at : lane.first + j ≡ order_of a = omega arith in
      let free : slice_get ids (order_of a) ≡ Some None =
      ap (slice_get ids) number ∙ are (length xs) less ∙ ap (λ (o : Option Answer). Some (id_in o)) (slice_get_past xs (length xs) (omega arith)) in
      ap (slice_get (noted ids a)) at ∙ noted_here ids a (omega arith) free ∙ ap (λ (o : Option Answer). Some (id_in o)) (sym (ap (slice_get (xs ++ a ∷ [])) same ∙ get_end xs a))
  | inr other ↦
      noted_other ids a (lane.first + j) (λ e. other (omega (arith, number))) ∙ are j within ∙ ap (λ (o : Option Answer). Some (id_in o)) (sym (get_more xs a j other))
]
  where
    place_cases : (m n : ℕ) → (m ≡ n) ⊎ (m ≢ n)
    place_cases m n = elim (nat_cases m n) [
      | inl low ↦ inr (λ e. absurd (omega arith))
      | inr high ↦ elim (nat_cases n m) [ inl above ↦ inr (λ e. absurd (omega arith)) | inr back ↦ inl (omega arith) ]
    ]

-- the id that an answer gave is that of a commit
committed_in : (xs : List Answer) (j : ℕ) (id : RouteId) → id_in (slice_get xs j) ≡ Some id → Committed xs j id
committed_in xs j id is = by_answer (slice_get xs j) refl is
  where
    by_answer : (o : Option Answer) → slice_get xs j ≡ o → id_in o ≡ Some id → Committed xs j id
    by_answer None at h = absurd (cc)
    by_answer (Some (Made n (E.Commit own era q w))) at h =
        let same : own ≡ id = same_some own id h in
        record { order = n; era = era; request = q; walk = w; at = subst (λ (z : RouteId). slice_get xs j ≡ Some (Made n (E.Commit z era q w))) same at }
    by_answer (Some (Made n (E.Cancel own era))) at h = absurd (cc)
    by_answer (Some (Made n (E.NoRoute stamp caller era q))) at h = absurd (cc)
    by_answer (Some (Gone n target)) at h = absurd (cc)

-- and where a reply gave none, it has no route
refused_in : (xs : List Answer) (j : ℕ) → id_in (slice_get xs j) ≡ None → IsReplyAt xs j → Refused xs j
refused_in xs j none (inl refused) = refused
refused_in xs j none (inr has) = let c = has.1 in let at : id_in (slice_get xs j) ≡ Some has.0 = ap id_in c.at in absurd (some_none (sym at ∙ none))
  where
    some_none : {id : RouteId} → Some id ≡ None → ⊥
    some_none h = cc

-- ---- the next order

module _ (cells caller : ℕ) (lane : Lane) (is_lane : IsLane cells lane) (xs : List Answer) (old : Tail) (place : ℕ) (now : Tail) (long : after_lane lane ≤ length old.ids.items) (was : IsAtPlace caller lane xs old place now) where
  abbrev so_far : List Answer
  so_far = xs ++ was.more

  count : length so_far ≡ place
  count = length-append xs was.more ∙ was.at

  ids_length : length now.ids.items ≡ length old.ids.items
  ids_length = ap length was.goes.ids ∙ noted_all_length was.more old.ids.items

  pub number_within : place < length lane.orders → lane.first + place < length now.ids.items
  number_within less = omega (arith, ids_length)

  -- what an order that stands there names
  module _ (o : Order) (at : slice_get lane.orders place ≡ Some o) where
    at_count : slice_get lane.orders (length so_far) ≡ Some o
    at_count = ap (slice_get lane.orders) count ∙ at

    id_at : (target : ℕ) → o ≡ Cancel target → slice_get now.ids.items target ≡ Some (id_in (slice_get so_far (target - lane.first)))
    id_at target is =
        let named = (lane_names cells lane is_lane).plan place target (at ∙ ap (λ (z : Order). Some z) is) in
        let less = named.1 in
        let there = named.2 in
        let within : named.0 < length lane.orders = slice_get_within lane.orders named.0 _ named.4 in
        let back : target - lane.first ≡ named.0 = omega arith in
        ap (slice_get now.ids.items) there ∙ was.ids named.0 within ∙ ap (λ (k : ℕ). Some (id_in (slice_get so_far k))) (sym back)

    pub may : cells ≡ length now.book.grid.cells → MayBeAnswered now o
    may size = by_order o refl
      where
        by_order : (z : Order) → o ≡ z → MayBeAnswered now z
        by_order (Plan q) is =
            let within : place < length lane.orders = slice_get_within lane.orders place o at in
            let on : IsOrderOn cells (get_or lane.orders place (Plan q)) = is_lane.on_grid place (Plan q) within in
            subst (λ (n : ℕ). IsOrderOn n (Plan q)) size (subst (IsOrderOn cells) (get_there (at ∙ ap (λ (z : Order). Some z) is)) on)
          where
            get_there : slice_get lane.orders place ≡ Some (Plan q) → get_or lane.orders place (Plan q) ≡ Plan q
            get_there h = same_some _ _ (sym (there lane.orders place (Plan q) (slice_get_within lane.orders place _ h)) ∙ h)
              where
                there : (l : List Order) (k : ℕ) (d : Order) → k < length l → slice_get l k ≡ Some (get_or l k d)
                there [] k d less = absurd (omega arith)
                there (x ∷ l) zero d less = refl
                there (x ∷ l) (suc k) d less = there l k d (omega arith)
        by_order (Cancel target) is = (
          slice_get_within now.ids.items target _ (id_at target is),
          λ id given.
              let c = committed_in so_far (target - lane.first) id (same_some _ _ (sym (id_at target is) ∙ given)) in
              target_live lane.first lane.orders so_far now.book.stamp (λ other. IsLive other now.book.routes) (λ other. IsLive other now.book.routes) was.goes.answering target id (lane_names cells lane is_lane)
              (at_count ∙ ap (λ (z : Order). Some z) is) c,
        )

    -- the place after it
    after_one : (a : Answer) (new : Tail) → order_of a ≡ lane.first + place → HasKept now new a → GoesOn caller lane xs old (was.more ++ a ∷ []) new → IsAtPlace caller lane xs old (place + 1) new
    after_one a new number kept goes =
        let within : place < length lane.orders = slice_get_within lane.orders place o at in
        let join : so_far ++ a ∷ [] ≡ xs ++ (was.more ++ a ∷ []) = joined xs was.more a in
        record {
          more = was.more ++ a ∷ [];
          goes = goes;
          ids = subst (λ (z : List Answer × List (Option RouteId)). AreIdsOf lane z.0 z.1) (λ j. (join j, sym kept.ids j))
              (ids_more lane so_far a now.ids.items was.ids (omega (arith, number, count)) (omega (arith, count)) (omega (arith, ids_length)));
          at = omega (arith, length-append was.more (a ∷ []), was.at);
        }
      where
        joined : (ys zs : List Answer) (b : Answer) → (ys ++ zs) ++ b ∷ [] ≡ ys ++ (zs ++ b ∷ [])
        joined [] zs b = refl
        joined (y ∷ ys) zs b = ap (λ (l : List Answer). y ∷ l) (joined ys zs b)

    pub next : (new : Tail) → AnswersOne caller (lane.first + place) o now new → IsAtPlace caller lane xs old (place + 1) new
    next new answered = by_order o refl answered
      where
        number : lane.first + place ≡ lane.first + length so_far
        number = omega (arith, count)

        by_order : (z : Order) → o ≡ z → AnswersOne caller (lane.first + place) z now new → IsAtPlace caller lane xs old (place + 1) new
        by_order (Plan q) is p =
            after_one (Made (lane.first + place) p.entry) new refl p.kept
            (entry_more caller lane xs old was.more now was.goes _ p.entry new (plan_more caller lane xs old was.more now was.goes _ q new (at_count ∙ ap (λ (z : Order). Some z) is) number p))
        by_order (Cancel target) is (inl gone) =
            let reply = target_reply lane.first lane.orders so_far now.book.stamp (λ other. IsLive other now.book.routes) (λ other. IsLive other now.book.routes) was.goes.answering target (lane_names cells lane is_lane)
            (at_count ∙ ap (λ (z : Order). Some z) is) in
            let none : id_in (slice_get so_far (target - lane.first)) ≡ None = same_some _ _ (sym (id_at target is) ∙ gone.none) in
            after_one (Gone (lane.first + place) target) new refl gone.kept
            (gone_one_more caller lane xs old was.more now was.goes _ target new (at_count ∙ ap (λ (z : Order). Some z) is) number gone.book gone.kept (refused_in so_far (target - lane.first) none reply))
        by_order (Cancel target) is (inr ended) =
            let there = committed_in so_far (target - lane.first) ended.id (same_some _ _ (sym (id_at target is) ∙ ended.given)) in
            after_one (Made (lane.first + place) ended.entry) new refl ended.kept
            (entry_more caller lane xs old was.more now was.goes _ ended.entry new
            (ended_more caller lane xs old was.more now was.goes _ target new (lane_names cells lane is_lane) (at_count ∙ ap (λ (z : Order). Some z) is) number ended there))

-- ---- a lane begins

append_nothing : {X : Type 0} (xs : List X) → xs ++ [] ≡ xs
append_nothing [] = refl
append_nothing (x ∷ xs) = ap (λ l. x ∷ l) (append_nothing xs)

pub at_first : (caller : ℕ) (lane : Lane) (xs : List Answer) (from : ℕ) (t : Tail) → IsStart lane xs from t → IsAtPlace caller lane xs t (from - lane.first) t
at_first caller lane xs from t start = record {
  more = [];
  goes = record {
    answers = sym (append_nothing t.answers.items);
    ids = refl;
    answering = subst (λ l. AreBeingAnswered lane.first lane.orders l t.book.stamp (λ id. IsLive id t.book.routes)) (sym (append_nothing xs)) start.answering;
    others = λ id lives none. lives;
    same = record { grid = refl; horizon = refl };
    follows = λ p leads. (tt, leads);
    by = All-nil (IsReplyBy caller);
    in_order = λ i j d h k. absurd (omega arith);
    before = λ x h. All-nil (Precedes x);
    behind = All-nil (IsBehind t.book);
    eras = (omega arith, omega arith);
    stamps = (omega arith, omega arith);
  };
  ids = subst (λ l. AreIdsOf lane l t.ids.items) (sym (append_nothing xs)) start.ids;
  at = let p = start.place in omega arith;
}

-- the order at a place of a lent list
pub order_there : (lent orders : List Order) (place : ℕ) (d : Order) → lent ≡ orders → place < length lent → slice_get orders place ≡ Some (get_or lent place d)
order_there lent orders place d same less = ap (λ l. slice_get l place) (sym same) ∙ slice_get-get_or lent place d less
