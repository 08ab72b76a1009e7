-- What two crews did, as one.
use Rattle.std.proofs.Common.{◌≡◌, ◌==◌, ℕ, zero, suc, ◌+◌, ◌<◌, ◌≤◌, ◌⊎◌, inl, inr, true, List, [], ◌∷◌, ◌++◌, length, map, Some, Ok, Err, refl, sym, ap, ap₂, ◌∙◌, subst, arith, append-nil, length-append, take, drop}
use Rattle.std.specs.Prelude.{Contains, slice_get, IfOk, max}
use Rattle.std.specs.List.{range_with_len}
use Rattle.std.proofs.Math.Nat.{le-max_left, le-max_right}
use Rattle.std.specs.declared.result.Result.{Result}
use Rattle.std.proofs.lemmas.List.Elements.{All-append, All-weaker, Contains-append_cases, Contains-append_left, Contains-append_right, filter-append, filter_map-append}
use Rattle.std.proofs.lemmas.List.Concat.{flat_map-append}
use Rattle.fleet_base.specs.declared.request.RouteId.{RouteId}
use Rattle.fleet_base.specs.declared.request.Entry.{Entry}
use Rattle.fleet_base.specs.History.{caller_of, book_after, IsLive}
use Rattle.book_trait.specs.Passes.{BookView, PassView, JoinedView, IsJoined, entries_of, fresh}
use Rattle.book_trait.specs.Calls.{Joins}
use Rattle.ticket_line.specs.declared.line.Ticket.{Ticket}
use Rattle.ticket_line.specs.declared.line.TicketLine.{TicketLine}
use Rattle.ticket_line.specs.Tickets.{IsOf, parts, drawn, has_ended, count_of, workers_of}
use Rattle.ticket_line.specs.Numbers.{EachOnce}
use Rattle.planner_pool.specs.declared.worker.Work.{Work}
use Rattle.order_text.specs.declared.lane.Lane.{Lane}
use Rattle.lane_runs.specs.declared.answer.Answer.{Answer}
use Rattle.lane_runs.specs.declared.answer.Left.{Left}
use Rattle.lane_runs.specs.Answers.{entry_made, entries_made}
use Rattle.planner_pool.specs.Parts.{Part, IsPart, left_of, AreMadeOf, IsTheirs, HasWorked}
use Rattle.planner_pool.specs.Crew.{CanRun, IsDone}
use Rattle.planner_pool.proofs.WorkLemmas.{part_weaker}

pub callers_append : (m n a : ℕ) → range_with_len a (m + n) ≡ range_with_len a m ++ range_with_len (a + m) n
callers_append zero n a = let e : a + 0 ≡ a = omega arith in let z : 0 + n ≡ n = omega arith in ap (range_with_len a) z ∙ ap (λ k. range_with_len k n) (sym e)
callers_append (suc m) n a =
    let z : suc m + n ≡ suc (m + n) = omega arith in
    let e : a + 1 + m ≡ a + suc m = omega arith in
    ap (range_with_len a) z ∙ ap (λ l. a ∷ l) (callers_append m n (a + 1) ∙ ap (λ k. range_with_len (a + 1) m ++ range_with_len k n) e)

contains_head : (x y : ℕ) (xs : List ℕ) → Contains (x ∷ xs) y → (x ≡ y) ⊎ Contains xs y
contains_head x y xs (zero, h, e) = inl e
contains_head x y xs (suc k, h, e) = inr (k, omega arith, e)

pub callers_within : (n a c : ℕ) → Contains (range_with_len a n) c → (a ≤ c) × (c < a + n)
callers_within zero a c (k, h, e) = absurd (omega arith)
callers_within (suc n) a c has = elim (contains_head a c (range_with_len (a + 1) n) has) [
  | inl here ↦ (omega arith, omega arith)
  | inr later ↦ let w = callers_within n (a + 1) c later in let w0 = w.0 in let w1 = w.1 in (omega arith, omega arith)
]

map-append : {X Y : Type 0} (f : X → Y) (xs ys : List X) → map f (xs ++ ys) ≡ map f xs ++ map f ys
map-append f [] ys = refl
map-append f (x ∷ xs) ys = ap (λ l. f x ∷ l) (map-append f xs ys)

contains_left : (xs ys : List ℕ) (c : ℕ) → ¬ (Contains (xs ++ ys) c) → ¬ (Contains xs c)
contains_left xs ys c none has = none (Contains-append_left xs ys c has)

contains_right : (xs ys : List ℕ) (c : ℕ) → ¬ (Contains (xs ++ ys) c) → ¬ (Contains ys c)
contains_right xs ys c none has = none (Contains-append_right xs ys c has)

pub made_append : (xs ys : List Answer) (c : ℕ) → entries_of c (entries_made (xs ++ ys)) ≡ entries_of c (entries_made xs) ++ entries_of c (entries_made ys)
made_append xs ys c = ap (entries_of c) (filter_map-append entry_made xs ys) ∙ filter-append (λ e. caller_of e == c) (entries_made xs) (entries_made ys)

pub made_of_both : (lanes : List Lane) (ps qs : List Part) (xs ys : List Answer) (ls ms : List Left) → AreMadeOf lanes ps xs ls → AreMadeOf lanes qs ys ms → AreMadeOf lanes (ps ++ qs) (xs ++ ys) (ls ++ ms)
made_of_both lanes ps qs xs ys ls ms a b = record {
  answers_are = ap₂ ◌++◌ a.answers_are b.answers_are ∙ sym (flat_map-append (λ (x : Part). x.answers) ps qs);
  left_are = ap₂ ◌++◌ a.left_are b.left_are ∙ sym (flat_map-append (λ (x : Part). left_of (slice_get lanes x.lane) x) ps qs);
}

-- the callers of the two are apart
abbrev pub Apart : List ℕ → List ℕ → Type 0
Apart xs ys = (c : ℕ) → Contains xs c → Contains ys c → ⊥

-- what is live by the first one's callers is live by them in what is joined
theirs_first : (a b j : JoinedView) (id : RouteId) → Joins a b j → j.callers ≡ a.callers ++ b.callers → IsTheirs a id → IsTheirs j id
theirs_first a b j id is callers h = record {
  caller = subst (λ l. Contains l id.caller) (sym callers) (Contains-append_left a.callers b.callers id.caller h.caller);
  live = subst (λ (l : List Entry). IsLive id (book_after l)) (sym (is.first_own id.caller h.caller)) h.live;
}

theirs_second : (a b j : JoinedView) (id : RouteId) → Joins a b j → j.callers ≡ a.callers ++ b.callers → IsTheirs b id → IsTheirs j id
theirs_second a b j id is callers h = record {
  caller = subst (λ l. Contains l id.caller) (sym callers) (Contains-append_right a.callers b.callers id.caller h.caller);
  live = subst (λ (l : List Entry). IsLive id (book_after l)) (sym (is.second_own id.caller h.caller)) h.live;
}

pub worked_both : (lanes : List Lane) (ds es : List ℕ) (xs ys : List Answer) (ls ms : List Left) (a b j : JoinedView) → Apart a.callers b.callers → Joins a b j → HasWorked lanes ds xs ls a → HasWorked lanes es ys ms b
    → HasWorked lanes (ds ++ es) (xs ++ ys) (ls ++ ms) j
worked_both lanes ds es xs ys ls ms a b j apart is u v =
    let callers : j.callers ≡ a.callers ++ b.callers = ap (λ (x : JoinedView). x.callers) is.counts in
    let again : j.again ≡ a.again + b.again = ap (λ (x : JoinedView). x.again) is.counts in
    let full : j.full ≡ a.full + b.full = ap (λ (x : JoinedView). x.full) is.counts in
    let l = length-append ls ms in
    let n = length-append xs ys in
    let w = u.counts.enough in
    let w' = v.counts.enough in
    let again_u = u.counts.again in
    let again_v = v.counts.again in
    let full_u = u.counts.full in
    let full_v = v.counts.full in
    record {
      parts = u.parts ++ v.parts;
      last = max u.last v.last;
      each = All-append (IsPart lanes (max u.last v.last) (IsTheirs j)) u.parts v.parts
          (All-weaker (IsPart lanes u.last (IsTheirs a)) (IsPart lanes (max u.last v.last) (IsTheirs j))
          (part_weaker lanes u.last (max u.last v.last) (IsTheirs a) (IsTheirs j) (le-max_left u.last v.last) (λ id low h. theirs_first a b j id is callers h)) u.parts u.each)
          (All-weaker (IsPart lanes v.last (IsTheirs b)) (IsPart lanes (max u.last v.last) (IsTheirs j))
          (part_weaker lanes v.last (max u.last v.last) (IsTheirs b) (IsTheirs j) (le-max_right u.last v.last) (λ id low h. theirs_second a b j id is callers h)) v.parts v.each);
      made_of = made_of_both lanes u.parts v.parts xs ys ls ms u.made_of v.made_of;
      drawn_are = map-append (λ (x : Part). x.lane) u.parts v.parts ∙ ap₂ ◌++◌ u.drawn_are v.drawn_are;
      theirs = λ c has. elim (Contains-append_cases a.callers b.callers c (subst (λ l. Contains l c) callers has)) [
        | inl first ↦ is.first_own c first ∙ (u.theirs c first ∙ (sym (append-nil (entries_of c (entries_made xs))) ∙ (ap (λ l. entries_of c (entries_made xs) ++ l) (sym (v.no_others c (apart c first))) ∙ sym (made_append xs ys c))))
        | inr second ↦ is.second_own c second ∙ (v.theirs c second ∙ (ap (λ l. l ++ entries_of c (entries_made ys)) (sym (u.no_others c (λ first. apart c first second))) ∙ sym (made_append xs ys c)))
      ];
      no_others = λ c none. let none2 = subst (λ l. ¬ (Contains l c)) callers none in
          made_append xs ys c ∙ ap₂ ◌++◌ (u.no_others c (contains_left a.callers b.callers c none2)) (v.no_others c (contains_right a.callers b.callers c none2));
      counts = record { enough = omega arith; again = omega arith; full = omega arith };
    }

pub callers_apart : (from m n : ℕ) → Apart (range_with_len from m) (range_with_len (from + m) n)
callers_apart from m n c first second = let a = (callers_within m from c first).1 in let b = (callers_within n (from + m) c second).0 in omega arith

module _ {X : Type 0} where
  get_take : (n : ℕ) (xs : List X) (k : ℕ) (x : X) → slice_get (take n xs) k ≡ Some x → slice_get xs k ≡ Some x
  get_take zero xs k x h = absurd (cc)
  get_take (suc n) [] k x h = absurd (cc)
  get_take (suc n) (y ∷ ys) zero x h = h
  get_take (suc n) (y ∷ ys) (suc k) x h = get_take n ys k x h

  get_drop : (n : ℕ) (xs : List X) (k : ℕ) (x : X) → slice_get (drop n xs) k ≡ Some x → slice_get xs (n + k) ≡ Some x
  get_drop zero xs k x h = let z : 0 + k ≡ k = omega arith in ap (slice_get xs) z ∙ h
  get_drop (suc n) [] k x h = absurd (cc)
  get_drop (suc n) (y ∷ ys) k x h = let z : suc n + k ≡ suc (n + k) = omega arith in ap (slice_get (y ∷ ys)) z ∙ get_drop n ys k x h

pub can_first : {P : Type 0} (has : P → Type 0) (view : P → PassView) (line : TicketLine) (cells : ℕ) (lanes : List Lane) (from half : ℕ) (passes some_ps : List P) (tickets some_ts : List Ticket)
    → CanRun has view line cells lanes from passes tickets → 1 ≤ half → half ≤ length passes → some_ps ≡ take half passes → length some_ps ≡ half → some_ts ≡ take half tickets → length some_ts ≡ half
    → CanRun has view line cells lanes from some_ps some_ts
can_first has view line cells lanes from half passes some_ps tickets some_ts c low high ps np ts nt = let few = c.few in record {
  some_passes = omega arith;
  few = omega arith;
  fresh_passes = record { each = λ k p at. c.fresh_passes.each k p (get_take half passes k p (ap (λ l. slice_get l k) (sym ps) ∙ at)) };
  one_each = nt ∙ sym np;
  new_tickets = record { each = λ k t at. c.new_tickets.each k t (get_take half tickets k t (ap (λ l. slice_get l k) (sym ts) ∙ at)) };
  count = c.count;
  on_grid = c.on_grid;
}

pub can_second : {P : Type 0} (has : P → Type 0) (view : P → PassView) (line : TicketLine) (cells : ℕ) (lanes : List Lane) (from half : ℕ) (passes some_ps : List P) (tickets some_ts : List Ticket)
    → CanRun has view line cells lanes from passes tickets → half < length passes → some_ps ≡ drop half passes → length some_ps + half ≡ length passes → some_ts ≡ drop half tickets → length some_ts + half ≡ length tickets
    → CanRun has view line cells lanes (from + half) some_ps some_ts
can_second has view line cells lanes from half passes some_ps tickets some_ts c high ps np ts nt = let few = c.few in let each = c.one_each in record {
  some_passes = omega arith;
  few = omega arith;
  fresh_passes = record {
    each = λ k p at. let f = c.fresh_passes.each (half + k) p (get_drop half passes k p (ap (λ l. slice_get l k) (sym ps) ∙ at)) in
        let z : from + (half + k) ≡ from + half + k = omega arith in (f.0, f.1 ∙ ap fresh z);
  };
  one_each = omega arith;
  new_tickets = record { each = λ k t at. c.new_tickets.each (half + k) t (get_drop half tickets k t (ap (λ l. slice_get l k) (sym ts) ∙ at)) };
  count = c.count;
  on_grid = c.on_grid;
}

pub done_single : {J : Type 0} (book : BookView) (has : J → Type 0) (view : J → JoinedView) (line : TicketLine) (lanes : List Lane) (from : ℕ) (w : Work J) → has w.joined × ((view w.joined).callers ≡ from ∷ []) → IsJoined book (view w.joined) → IsOf line w.ticket × (parts w.ticket ≡ 1) × (has_ended w.ticket ≡ true)
    → (workers_of line ≡ 1 → EachOnce (count_of line) (drawn w.ticket)) → HasWorked lanes (drawn w.ticket) w.answers.items w.left.items (view w.joined) → IsDone book has view line lanes from 1 w
done_single book has view line lanes from w j i t all worked = record { of_book = j.0; is_joined = i; callers = j.1; of_line = t.0; share = t.1; ended = t.2; all = all; worked = worked }

pub only_get : {X : Type 0} (xs ys : List X) (x : X) → length xs ≡ 1 → xs ≡ ys ++ x ∷ [] → slice_get xs 0 ≡ Some x
only_get xs [] x one e = ap (λ l. slice_get l 0) e
only_get xs (y ∷ ys) x one e = let l = ap length e ∙ length-append (y ∷ ys) (x ∷ []) in absurd (omega arith)

pub done_ok : {J E : Type 0} (book : BookView) (has : J → Type 0) (view : J → JoinedView) (line : TicketLine) (lanes : List Lane) (from : ℕ) (r : Result (Work J) E)
    → IfOk r (λ w. has w.joined × ((view w.joined).callers ≡ from ∷ [])) → IfOk r (λ w. IsJoined book (view w.joined)) → IfOk r (λ w. IsOf line w.ticket × (parts w.ticket ≡ 1) × (has_ended w.ticket ≡ true))
    → IfOk r (λ w. workers_of line ≡ 1 → EachOnce (count_of line) (drawn w.ticket)) → IfOk r (λ w. HasWorked lanes (drawn w.ticket) w.answers.items w.left.items (view w.joined))
    → IfOk r (IsDone book has view line lanes from 1)
done_ok book has view line lanes from (Ok w) a i b c d = done_single book has view line lanes from w a i b c d
done_ok book has view line lanes from (Err e) a i b c d = tt
