-- What one more lane leaves of a worker, and what a worker leaves when it ends.
use Rattle.std.proofs.Common.{◌≡◌, ◌≢◌, ℕ, zero, suc, ◌+◌, ◌≤◌, ◌==◌, Bool, true, false, cond, List, [], ◌∷◌, ◌++◌, length, map, Some, refl, sym, ap, ap₂, ◌∙◌, subst, arith, append-nil, length-append, eqb-true, ne_eqb}
use Rattle.std.specs.Prelude.{All, Contains, slice_get, nat_le}
use Rattle.std.proofs.lemmas.List.Elements.{All-nil, All-tail, All-push, All-weaker, filter_passes, filter_map-append}
use Rattle.std.proofs.lemmas.Bool.Decides.{nat_tests}
use Rattle.std.proofs.lemmas.List.Concat.{flat_map-append}
use Rattle.fleet_base.specs.declared.request.RouteId.{RouteId}
use Rattle.fleet_base.specs.declared.request.Entry.{Entry}
use Rattle.fleet_base.specs.History.{caller_of, book_after, IsLive}
use Rattle.order_text.specs.declared.lane.Lane.{Lane}
use Rattle.order_text.specs.Lanes.{after_lane}
use Rattle.lane_runs.specs.declared.answer.Answer.{Answer}
use Rattle.lane_runs.specs.declared.answer.Left.{Left}
use Rattle.lane_runs.specs.Answers.{entry_made, entries_made}
use Rattle.book_trait.specs.Passes.{PassView, entries_of, own, fresh}
use Rattle.book_trait.specs.Calls.{rested}
use Rattle.planner_pool.specs.Tries.{Makes, Counts}
use Rattle.planner_pool.specs.LaneSteps.{IsOwnLive, RunsLane}
use Rattle.planner_pool.specs.Runs.{rest_of}
use Rattle.planner_pool.specs.Parts.{Part, IsPart, left_of, IsWorking, IsTheirs, HasWorked}
use Rattle.planner_pool.proofs.LaneLemmas.{makes_none, makes_more, counts_none, counts_more, answering_weaker}
use Rattle.planner_pool.proofs.LiveLemmas.{keeps_live}

all_second : {X : Type 0} (P : X → Type 0) (xs ys : List X) → All P (xs ++ ys) → All P ys
all_second P [] ys h = h
all_second P (x ∷ xs) ys h = all_second P xs ys (All-tail P x (xs ++ ys) h)

pub map-push : {X Y : Type 0} (f : X → Y) (xs : List X) (x : X) → map f (xs ++ x ∷ []) ≡ map f xs ++ f x ∷ []
map-push f [] x = refl
map-push f (y ∷ xs) x = ap (λ l. f y ∷ l) (map-push f xs x)

-- ---- parts

pub part_weaker : (lanes : List Lane) (last last' : ℕ) (Lives Lives' : RouteId → Type 0) → last ≤ last' → ((id : RouteId) → id.stamp ≤ last → Lives id → Lives' id) → (p : Part) → IsPart lanes last Lives p → IsPart lanes last' Lives' p
part_weaker lanes last last' Lives Lives' grows keep p h = record {
  orders = h.orders;
  at = h.at;
  answering = answering_weaker h.orders.first h.orders.orders p.answers last last' Lives Lives' h.answering (λ j id c. let u = h.answering.under j id c in omega arith) keep;
  by = h.by;
}

-- the entries of the caller that were made are its own
by_caller : (p q : PassView) (es : List Entry) → Makes p es q → All (λ e. caller_of e ≡ p.caller) es
by_caller p q es m =
    All-weaker (λ e. (caller_of e == q.caller) ≡ true) (λ e. caller_of e ≡ p.caller) (λ e t. eqb-true (caller_of e) q.caller t ∙ m.caller) es
    (all_second (λ e. (caller_of e == q.caller) ≡ true) (own p) es (subst (All (λ e. (caller_of e == q.caller) ≡ true)) m.own (filter_passes (λ e. caller_of e == q.caller) q.seen)))

-- ---- the worker's loop

pub working_start : (lanes : List Lane) (p : PassView) → IsWorking lanes p [] [] [] p
working_start lanes p = record {
  parts = [];
  each = All-nil (IsPart lanes p.last (IsOwnLive p));
  made_of = record { answers_are = refl; left_are = refl };
  drawn_are = refl;
  makes = makes_none p;
  counts = counts_none p;
}

rest_is : (done : Bool) (lane : Lane) (place : ℕ) (p r : PassView) (mine : List Answer) → RunsLane lane p mine done r
    → rest_of (nat_le (length lane.orders) (length mine)) place (lane.first + length mine) ≡ rest_of done place (lane.first + length mine)
rest_is true lane place p r mine h = let e = h.ends.0 in let b : nat_le (length lane.orders) (length mine) ≡ true = grind (arith, nat_tests) in ap (λ b. rest_of b place (lane.first + length mine)) b
rest_is false lane place p r mine h = let e = h.ends.0 in let b : nat_le (length lane.orders) (length mine) ≡ false = grind (arith, nat_tests) in ap (λ b. rest_of b place (lane.first + length mine)) b

rest_counts : (done : Bool) (lane : Lane) (place : ℕ) (p r : PassView) (mine : List Answer) → RunsLane lane p mine done r → Counts p r (length mine) (length (rest_of done place (lane.first + length mine)))
rest_counts true lane place p r mine h = h.ends.1
rest_counts false lane place p r mine h = h.ends.1

still_own : (q r : PassView) (lane : Lane) (mine : List Answer) (done : Bool) (id : RouteId) → RunsLane lane q mine done r → id.stamp ≤ q.last → IsOwnLive q id → IsOwnLive r id
still_own q r lane mine done id h low was = record {
  caller = was.caller ∙ sym h.makes.caller;
  live = keeps_live q r lane.first lane.orders mine id h.makes h.so_far.right low was.caller was.live;
}

pub working_more : (lanes : List Lane) (p q r : PassView) (drawn : List ℕ) (answers mine : List Answer) (left : List Left) (k : ℕ) (lane : Lane) (done : Bool) → IsWorking lanes p drawn answers left q
    → slice_get lanes k ≡ Some lane → RunsLane lane q mine done r
    → IsWorking lanes p (drawn ++ k ∷ []) (answers ++ mine) (left ++ rest_of done k (lane.first + length mine)) r
working_more lanes p q r drawn answers mine left k lane done was at h =
    let part : Part = record { lane = k; caller = q.caller; answers = mine } in
    let rest : List Left = rest_of done k (lane.first + length mine) in
    record {
      parts = was.parts ++ part ∷ [];
      each = All-push (IsPart lanes r.last (IsOwnLive r)) was.parts part
          (All-weaker (IsPart lanes q.last (IsOwnLive q)) (IsPart lanes r.last (IsOwnLive r))
          (part_weaker lanes q.last r.last (IsOwnLive q) (IsOwnLive r) h.makes.last (λ id low own. still_own q r lane mine done id h low own)) was.parts was.each)
          record { orders = lane; at = at; answering = h.so_far; by = by_caller q r (entries_made mine) h.makes };
      made_of = record {
        answers_are = ap₂ ◌++◌ was.made_of.answers_are (sym (append-nil mine)) ∙ sym (flat_map-append (λ (x : Part). x.answers) was.parts (part ∷ []));
        left_are = ap₂ ◌++◌ was.made_of.left_are (sym (append-nil (left_of (slice_get lanes k) part) ∙ (ap (λ o. left_of o part) at ∙ rest_is done lane k q r mine h)))
            ∙ sym (flat_map-append (λ (x : Part). left_of (slice_get lanes x.lane) x) was.parts (part ∷ []));
      };
      drawn_are = map-push (λ (x : Part). x.lane) was.parts part ∙ ap (λ l. l ++ k ∷ []) was.drawn_are;
      makes = subst (λ es. Makes p es r) (sym (filter_map-append entry_made answers mine)) (makes_more p q r (entries_made answers) (entries_made mine) was.makes h.makes);
      counts = subst (λ (z : ℕ × ℕ). Counts p r z.0 z.1) (λ i. (sym (length-append answers mine) i, sym (length-append left rest) i))
          (counts_more p q r (length answers) (length left) (length mine) (length rest) was.counts (rest_counts done lane k q r mine h));
    }

-- ---- the worker's end

entries_twice : (c : ℕ) (xs : List Entry) → entries_of c (entries_of c xs) ≡ entries_of c xs
entries_twice c [] = refl
entries_twice c (x ∷ xs) = by_test (caller_of x == c) refl (entries_twice c xs)
  where
    by_test : (b : Bool) → (caller_of x == c) ≡ b → entries_of c (entries_of c xs) ≡ entries_of c xs → entries_of c (cond b (x ∷ entries_of c xs) (entries_of c xs)) ≡ cond b (x ∷ entries_of c xs) (entries_of c xs)
    by_test true e rest = ap (λ b. cond b (x ∷ entries_of c (entries_of c xs)) (entries_of c (entries_of c xs))) e ∙ ap (λ l. x ∷ l) rest
    by_test false e rest = rest

entries_other : (c d : ℕ) → d ≢ c → (xs : List Entry) → entries_of d (entries_of c xs) ≡ []
entries_other c d apart [] = refl
entries_other c d apart (x ∷ xs) = by_test (caller_of x == c) refl (entries_other c d apart xs)
  where
    by_test : (b : Bool) → (caller_of x == c) ≡ b → entries_of d (entries_of c xs) ≡ [] → entries_of d (cond b (x ∷ entries_of c xs) (entries_of c xs)) ≡ []
    by_test true e rest =
        ap (λ b. cond b (x ∷ entries_of d (entries_of c xs)) (entries_of d (entries_of c xs))) (ne_eqb (caller_of x) d (λ same. apart (sym same ∙ eqb-true (caller_of x) c e))) ∙ rest
    by_test false e rest = rest

contains_one : (x y : ℕ) → Contains (x ∷ []) y → y ≡ x
contains_one x y (zero, h, e) = sym e
contains_one x y (suc k, h, e) = absurd (omega arith)

one_contains : (x : ℕ) → Contains (x ∷ []) x
one_contains x = (0, omega arith, refl)

-- what a pass has live is live by the entries of its caller
theirs_now : (q : PassView) (id : RouteId) → IsOwnLive q id → IsTheirs (rested q) id
theirs_now q id was = record {
  caller = subst (λ k. Contains (q.caller ∷ []) k) (sym was.caller) (one_contains q.caller);
  live = subst (λ (k : ℕ). IsLive record { stamp = id.stamp; caller = k } (book_after (entries_of k q.seen))) (sym was.caller) was.live;
}

pub has_worked : (lanes : List Lane) (c : ℕ) (drawn : List ℕ) (answers : List Answer) (left : List Left) (q : PassView) → IsWorking lanes (fresh c) drawn answers left q → HasWorked lanes drawn answers left (rested q)
has_worked lanes c drawn answers left q was =
    let mine : own q ≡ entries_made answers = was.makes.own in
    let w = was.counts.enough in
    let again = was.counts.again in
    let full = was.counts.full in
    record {
      parts = was.parts;
      last = q.last;
      each = All-weaker (IsPart lanes q.last (IsOwnLive q)) (IsPart lanes q.last (IsTheirs (rested q)))
          (part_weaker lanes q.last q.last (IsOwnLive q) (IsTheirs (rested q)) (omega arith) (λ id low own. theirs_now q id own)) was.parts was.each;
      made_of = was.made_of;
      drawn_are = was.drawn_are;
      theirs = λ d has. let same : d ≡ q.caller = contains_one q.caller d has in
          ap (λ k. entries_of k q.seen) same ∙ (sym (entries_twice q.caller q.seen) ∙ ap₂ (λ (k : ℕ) (l : List Entry). entries_of k l) (sym same) mine);
      no_others = λ d other. ap (entries_of d) (sym mine) ∙ entries_other q.caller d (λ same. other (subst (λ k. Contains (q.caller ∷ []) k) (sym same) (one_contains q.caller))) q.seen;
      counts = record { enough = omega arith; again = omega arith; full = omega arith };
    }

-- ---- in the words of the code

pub working_next : (lanes : List Lane) (p q r : PassView) (before drawn : List ℕ) (answers mine all : List Answer) (left more : List Left) (k n : ℕ) (lane : Lane) (done : Bool) → IsWorking lanes p before answers left q
    → slice_get lanes k ≡ Some lane → RunsLane lane q mine done r → drawn ≡ before ++ k ∷ [] → all ≡ answers ++ mine → n ≡ length mine → more ≡ left ++ rest_of done k (lane.first + n)
    → IsWorking lanes p drawn all more r
working_next lanes p q r before drawn answers mine all left more k n lane done was at h drawn_is all_is n_is more_is =
    subst (λ (z : List ℕ × List Answer × List Left). IsWorking lanes p z.0 z.1 z.2 r) (λ i. (sym drawn_is i, sym all_is i, sym (more_is ∙ ap (λ m. left ++ rest_of done k (lane.first + m)) n_is) i))
    (working_more lanes p q r before answers mine left k lane done was at h)

pub lane_few : (lane : Lane) (mine : List Answer) (done : Bool) (p q : PassView) → after_lane lane ≤ 32767 → RunsLane lane p mine done q → lane.first + length mine ≤ 32767
lane_few lane mine done p q few h = let r = h.so_far.right.few in omega arith
