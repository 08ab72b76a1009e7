-- What one more answer leaves of a lane.
use Rattle.std.proofs.Common.{◌≡◌, ℕ, ◌+◌, ◌-◌, ◌<◌, ◌≤◌, ◌==◌, ◌&&◌, ◌||◌, Bool, true, false, cond, List, [], ◌∷◌, ◌++◌, length, Some, refl, sym, ap, ap₂, ◌∙◌, subst, arith, append-nil, append_assoc, eq-eqb, eqb-true, not, length-append, get_or}
use Rattle.std.specs.Prelude.{filter, slice_get}
use Rattle.std.specs.List.{list_any}
use Rattle.std.proofs.lemmas.Grind.{fold-append}
use Rattle.std.proofs.lemmas.List.Elements.{filter_map-append, All-nil, All-append, All-weaker}
use Rattle.std.proofs.lemmas.Option.{slice_get_read}
use Rattle.fleet_base.specs.declared.request.Request.{Request}
use Rattle.fleet_base.specs.declared.request.RouteId.{RouteId}
use Rattle.fleet_base.specs.declared.request.Live.{Live}
use Rattle.fleet_base.specs.declared.request.Entry.{Entry}
use Rattle.fleet_base.specs.declared.request.Entry.TheVariants as E
use Rattle.fleet_base.specs.History.{book_after, same_id, followed_by, past_of, nothing}
use Rattle.order_text.specs.declared.order.Order.{Order}
use Rattle.order_text.specs.declared.order.Order.TheVariants.{Plan, Cancel}
use Rattle.order_text.specs.declared.lane.Lane.{Lane}
use Rattle.order_text.specs.Lanes.{IsLane}
use Rattle.lane_runs.specs.declared.answer.Answer.{Answer}
use Rattle.lane_runs.specs.declared.answer.Answer.TheVariants.{Made, Gone}
use Rattle.lane_runs.specs.Answers.{entry_made, entries_made, Committed, Refused, IsReplyAt}
use Rattle.lane_runs.specs.Answering.{AreBeingAnswered}
use Rattle.lane_runs.proofs.AnswerLemmas.{answers_begin, answers_commit, answers_refusal, answers_gone, answers_cancel, target_reply, target_live}
use Rattle.lane_runs.proofs.NameLemmas.{lane_names}
use Rattle.book_trait.specs.declared.reply.Reply.{Reply}
use Rattle.book_trait.specs.declared.reply.Reply.TheVariants as R
use Rattle.book_trait.specs.Passes.{PassView, own, HasLive}
use Rattle.book_trait.specs.Calls.{entry_of}
use Rattle.planner_pool.specs.Tries.{IsNewer, Makes, Counts, PlanTried, CancelTried}
use Rattle.planner_pool.specs.LaneSteps.{IsOwnLive, IsAnswering, AnswersOrder, IsLeft, RunsLane, IsAt}

-- ---- tests

or_second : (a b : Bool) → b ≡ true → (a || b) ≡ true
or_second true b h = refl
or_second false b h = h

or_first : (a b : Bool) → a ≡ true → (a || b) ≡ true
or_first true b h = refl
or_first false b h = absurd (cc)

pub any_filter : {X : Type 0} (t k : X → Bool) (xs : List X) → ((x : X) → t x ≡ true → k x ≡ true) → list_any t xs ≡ true → list_any t (filter k xs) ≡ true
any_filter t k [] both h = h
any_filter t k (x ∷ xs) both h = by_test (t x) (k x) refl (both x) h (λ rest. any_filter t k xs both rest)
  where
    by_test : (a b : Bool) → t x ≡ a → (a ≡ true → b ≡ true) → (a || list_any t xs) ≡ true → (list_any t xs ≡ true → list_any t (filter k xs) ≡ true) → list_any t (cond b (x ∷ filter k xs) (filter k xs)) ≡ true
    by_test true b e imp any rest = subst (λ (z : Bool). list_any t (cond z (x ∷ filter k xs) (filter k xs)) ≡ true) (sym (imp refl)) (or_first (t x) _ e)
    by_test false true e imp any rest = or_second (t x) _ (rest any)
    by_test false false e imp any rest = rest any

same_itself : (a b : RouteId) → a.stamp ≡ b.stamp → a.caller ≡ b.caller → same_id a b ≡ true
same_itself a b s c = ap₂ ◌&&◌ (eq-eqb a.stamp b.stamp s) (eq-eqb a.caller b.caller c)

and_parts : (x y : Bool) → (x && y) ≡ true → (x ≡ true) × (y ≡ true)
and_parts true y h = (refl, h)
and_parts false y h = absurd (cc)

pub same_parts : (a b : RouteId) → same_id a b ≡ true → (a.stamp ≡ b.stamp) × (a.caller ≡ b.caller)
same_parts a b h = let p = and_parts (a.stamp == b.stamp) (a.caller == b.caller) h in (eqb-true a.stamp b.stamp p.0, eqb-true a.caller b.caller p.1)

pub turned : (x : Bool) → (x ≡ true → ⊥) → not x ≡ true
turned true off = absurd (off refl)
turned false off = refl

-- ---- live routes after one entry more

live_after : (xs : List Entry) (e : Entry) → book_after (xs ++ e ∷ []) ≡ (followed_by (past_of xs) e).book
live_after xs e = ap (λ p. p.book) (fold-append followed_by nothing xs (e ∷ []))

live_in : (p q : PassView) (e : Entry) (stamp : ℕ) → own q ≡ own p ++ e ∷ [] → q.caller ≡ p.caller
    → list_any (λ r. same_id r.id record { stamp = stamp; caller = p.caller }) (followed_by (past_of (own p)) e).book ≡ true → HasLive q stamp
live_in p q e stamp mine caller any =
    subst (λ (z : ℕ × List Live). list_any (λ r. same_id r.id record { stamp = stamp; caller = z.0 }) z.1 ≡ true) (λ i. (sym caller i, sym (ap book_after mine ∙ live_after (own p) e) i)) any

-- ---- what a pass makes, step by step

pub newer_weaker : (low high : ℕ) → low ≤ high → (e : Entry) → IsNewer high e → IsNewer low e
newer_weaker low high h (E.Commit id era q w) n = omega arith
newer_weaker low high h (E.Cancel id era) n = tt
newer_weaker low high h (E.NoRoute stamp caller era q) n = omega arith

pub makes_none : (p : PassView) → Makes p [] p
makes_none p = record { caller = refl; own = sym (append-nil (own p)); newer = All-nil (IsNewer p.last); last = omega arith }

pub makes_more : (p q r : PassView) (es fs : List Entry) → Makes p es q → Makes q fs r → Makes p (es ++ fs) r
makes_more p q r es fs a b =
    let l = a.last in
    let m = b.last in
    record {
      caller = b.caller ∙ a.caller;
      own = b.own ∙ (ap (λ l. l ++ fs) a.own ∙ append_assoc (own p) es fs);
      newer = All-append (IsNewer p.last) es fs a.newer (All-weaker (IsNewer q.last) (IsNewer p.last) (newer_weaker p.last q.last a.last) fs b.newer);
      last = omega arith;
    }

-- what calls were refused, in two runs of calls
pub counts_more : (p q r : PassView) (answered left answered' left' : ℕ) → Counts p q answered left → Counts q r answered' left' → Counts p r (answered + answered') (left + left')
counts_more p q r answered left answered' left' a b =
    let e = a.enough in
    let f = b.enough in
    let again = a.again in
    let again' = b.again in
    let full = a.full in
    let full' = b.full in
    record { enough = omega arith; again = omega arith; full = omega arith }

pub counts_none : (p : PassView) → Counts p p 0 0
counts_none p = record { enough = omega arith; again = omega arith; full = omega arith }

-- ---- one answer more, in the words of the code

-- the next order
pub order_here : (lane : Lane) (n : ℕ) (xs : List Answer) (found o : Order) → found ≡ get_or lane.orders n found → n < length lane.orders → length xs ≡ n → found ≡ o → slice_get lane.orders (length xs) ≡ Some o
order_here lane n xs found o at room is same =
    subst (λ (z : ℕ × Order). slice_get lane.orders z.0 ≡ Some z.1) (λ i. (sym is i, same i)) (slice_get_read lane.orders (length lane.orders) n found refl room at)

pushed : (lane : Lane) (xs ys : List Answer) (p q : PassView) (a : Answer) → ys ≡ xs ++ a ∷ [] → Makes p (entries_made (a ∷ [])) q → Counts p q 1 0 → IsAnswering lane (xs ++ a ∷ []) q → AnswersOrder lane xs p ys q
pushed lane xs ys p q a is makes counts h = record { answer = a; one_more = is; makes = makes; counts = counts; so_far = subst (λ (l : List Answer). IsAnswering lane l q) (sym is) h }

still_live : (p q : PassView) (e : Entry) (other : RouteId) → Makes p (e ∷ []) q → list_any (λ r. same_id r.id record { stamp = other.stamp; caller = p.caller }) (followed_by (past_of (own p)) e).book ≡ true
    → IsOwnLive p other → IsOwnLive q other
still_live p q e other makes any was = record { caller = was.caller ∙ sym makes.caller; live = live_in p q e other.stamp makes.own makes.caller any }

module _ (lane : Lane) (xs : List Answer) (n order : ℕ) (p : PassView) (was : IsAnswering lane xs p) (count : length xs ≡ n) (number : order ≡ lane.first + n) where
  plan_reply : (reply : Reply) (req : Request) (q : PassView) → slice_get lane.orders (length xs) ≡ Some (Plan req) → PlanTried p req reply q
      → IsAnswering lane (xs ++ Made order (entry_of p.caller req reply) ∷ []) q
  plan_reply (R.Committed id walk era) req q at t =
      let e : Entry = E.Commit id era req walk in
      let rises = t.rises in
      let last = t.last in
      answers_commit lane.first lane.orders xs p.last (IsOwnLive p) (IsOwnLive q) was order q.last era id req walk at (omega arith) t.rises (omega arith)
      record { caller = t.by ∙ sym t.makes.caller; live = live_in p q e id.stamp t.makes.own t.makes.caller (or_first _ _ (same_itself id record { stamp = id.stamp; caller = p.caller } refl t.by)) }
      (λ other lives. still_live p q e other t.makes (or_second _ _ lives.live) lives)
  plan_reply (R.NoRoute stamp era) req q at t =
      answers_refusal lane.first lane.orders xs p.last (IsOwnLive p) (IsOwnLive q) was order q.last stamp p.caller era req at (omega arith) t.makes.last
      (λ other lives. still_live p q (E.NoRoute stamp p.caller era req) other t.makes lives.live lives)

  pub done_plan : (ys : List Answer) (caller : ℕ) (req : Request) (reply : Reply) (entry : Entry) (q : PassView) → slice_get lane.orders (length xs) ≡ Some (Plan req) → PlanTried p req reply q
      → p.caller ≡ caller → entry ≡ entry_of caller req reply → ys ≡ xs ++ Made order entry ∷ [] → AnswersOrder lane xs p ys q
  done_plan ys caller req reply entry q at t mine entry_is ys_is =
      let same : entry ≡ entry_of p.caller req reply = entry_is ∙ ap (λ (c : ℕ). entry_of c req reply) (sym mine) in
      pushed lane xs ys p q (Made order (entry_of p.caller req reply)) (ys_is ∙ ap (λ (e : Entry). xs ++ Made order e ∷ []) same) t.makes t.counts (plan_reply reply req q at t)

  pub done_gone : (ys : List Answer) (target : ℕ) → slice_get lane.orders (length xs) ≡ Some (Cancel target) → Refused xs (target - lane.first) → ys ≡ xs ++ Gone order target ∷ [] → AnswersOrder lane xs p ys p
  done_gone ys target at none_there ys_is =
      pushed lane xs ys p p (Gone order target) ys_is (makes_none p) record { enough = omega arith; again = omega arith; full = omega arith }
      (answers_gone lane.first lane.orders xs p.last (IsOwnLive p) (IsOwnLive p) was order target at (omega arith) none_there (λ other lives. lives))

  module _ (cells : ℕ) (is : IsLane cells lane) where
    -- what a cancel names
    pub named_after : (target : ℕ) → slice_get lane.orders (length xs) ≡ Some (Cancel target) → lane.first ≤ target
    named_after target at = let h = (lane_names cells lane is).plan (length xs) target at in let named = h.2 in omega arith

    pub named_reply : (target : ℕ) → slice_get lane.orders (length xs) ≡ Some (Cancel target) → IsReplyAt xs (target - lane.first)
    named_reply target at = target_reply lane.first lane.orders xs p.last (IsOwnLive p) (IsOwnLive p) was target (lane_names cells lane is) at

    pub named_live : (target : ℕ) (id : RouteId) → slice_get lane.orders (length xs) ≡ Some (Cancel target) → Committed xs (target - lane.first) id → IsOwnLive p id
    named_live target id at there = target_live lane.first lane.orders xs p.last (IsOwnLive p) (IsOwnLive p) was target id (lane_names cells lane is) at there

    pub done_cancel : (ys : List Answer) (target era : ℕ) (id : RouteId) (q : PassView) → slice_get lane.orders (length xs) ≡ Some (Cancel target) → Committed xs (target - lane.first) id → CancelTried p id.stamp era q
        → ys ≡ xs ++ Made order (E.Cancel id era) ∷ [] → AnswersOrder lane xs p ys q
    done_cancel ys target era id q at there t ys_is =
        let e : Entry = E.Cancel id era in
        let mine = (named_live target id at there).caller in
        let same : record { stamp = id.stamp; caller = p.caller } ≡ id = ap (λ k. record { stamp = id.stamp; caller = k }) (sym mine) in
        let makes : Makes p (e ∷ []) q = subst (λ (z : RouteId). Makes p (E.Cancel z era ∷ []) q) same t.makes in
        let so_far : AreBeingAnswered lane.first lane.orders (xs ++ Made order e ∷ []) p.last (IsOwnLive q) =
        answers_cancel lane.first lane.orders xs p.last (IsOwnLive p) (IsOwnLive q) was order target era id (lane_names cells lane is) at (omega arith) there
        (λ other apart lives. still_live p q e other makes
        (any_filter (λ r. same_id r.id record { stamp = other.stamp; caller = p.caller }) (λ r. not (same_id r.id id)) (past_of (own p)).book
        (λ r test. turned (same_id r.id id) (λ t. apart (sym (same_parts r.id record { stamp = other.stamp; caller = p.caller } test).0 ∙ (same_parts r.id id t).0))) lives.live) lives) in
        pushed lane xs ys p q (Made order e) ys_is makes t.counts (subst (λ (l : ℕ). AreBeingAnswered lane.first lane.orders (xs ++ Made order e ∷ []) l (IsOwnLive q)) (sym t.last) so_far)

-- ---- the loop over a lane

pub at_start : (lane : Lane) (p : PassView) → IsAt lane p 0 [] p
at_start lane p = record { so_far = answers_begin lane.first p.last lane.orders (IsOwnLive p); makes = makes_none p; count = refl; counts = counts_none p }

pub at_next : (lane : Lane) (p : PassView) (n : ℕ) (xs ys : List Answer) (q r : PassView) → IsAt lane p n xs q → AnswersOrder lane xs q ys r → IsAt lane p (n + 1) ys r
at_next lane p n xs ys q r was h =
    let k = was.count in
    let long = ap length h.one_more ∙ length-append xs (h.answer ∷ []) in
    record {
      so_far = h.so_far;
      makes = subst (λ l. Makes p l r) (sym (ap entries_made h.one_more ∙ filter_map-append entry_made xs (h.answer ∷ []))) (makes_more p q r _ _ was.makes h.makes);
      count = omega arith;
      counts = counts_more p q r n 0 1 0 was.counts h.counts;
    }

-- nothing that a lane stands for changes while an order is left
pub own_same : (p q : PassView) (id : RouteId) → Makes p [] q → IsOwnLive p id → IsOwnLive q id
own_same p q id m was = record {
  caller = was.caller ∙ sym m.caller;
  live = subst (λ (z : ℕ × List Entry). list_any (λ r. same_id r.id record { stamp = id.stamp; caller = z.0 }) (book_after z.1) ≡ true) (λ i. (sym m.caller i, sym (m.own ∙ append-nil (own p)) i)) was.live;
}

pub answering_weaker : (first : ℕ) (orders : List Order) (xs : List Answer) (last last' : ℕ) (Lives Lives' : RouteId → Type 0) → AreBeingAnswered first orders xs last Lives
    → ((j : ℕ) (id : RouteId) → Committed xs j id → id.stamp ≤ last') → ((id : RouteId) → id.stamp ≤ last → Lives id → Lives' id) → AreBeingAnswered first orders xs last' Lives'
answering_weaker first orders xs last last' Lives Lives' was within keep = record {
  right = was.right;
  live = λ j id c unended. keep id (was.under j id c) (was.live j id c unended);
  under = within;
  rising = was.rising;
}

pub at_left : (lane : Lane) (p : PassView) (n : ℕ) (xs ys : List Answer) (q r : PassView) → IsAt lane p n xs q → n < length lane.orders → IsLeft xs q ys r → RunsLane lane p ys false r
at_left lane p n xs ys q r was room h =
    let k = was.count in
    let long : length ys ≡ length xs = ap length h.same in
    let last = h.makes.last in
    let same_count : n + 0 ≡ length ys = omega arith in
    record {
      so_far = subst (λ (l : List Answer). IsAnswering lane l r) (sym h.same)
          (answering_weaker lane.first lane.orders xs q.last r.last (IsOwnLive q) (IsOwnLive r) was.so_far (λ j id c. let u = was.so_far.under j id c in omega arith) (λ id u lives. own_same q r id h.makes lives));
      makes = subst (λ l. Makes p l r) (ap (λ l. entries_made l ++ []) (sym h.same) ∙ append-nil (entries_made ys)) (makes_more p q r (entries_made xs) [] was.makes h.makes);
      ends = (omega arith, subst (λ (m : ℕ). Counts p r m 1) same_count (counts_more p q r n 0 0 1 was.counts h.counts));
    }

pub at_end : (lane : Lane) (p : PassView) (n : ℕ) (xs : List Answer) (q : PassView) → IsAt lane p n xs q → n ≡ length lane.orders → RunsLane lane p xs true q
at_end lane p n xs q was all = record { so_far = was.so_far; makes = was.makes; ends = (was.count ∙ all, subst (λ (m : ℕ). Counts p q m 0) (sym was.count) was.counts) }
