-- What a crew of all callers leaves is a run over the lanes, and the book's list is the run's.
use Rattle.std.proofs.Common.{◌≡◌, ℕ, zero, suc, ◌+◌, ◌<◌, ◌≤◌, inl, inr, cond, List, [], ◌∷◌, ◌++◌, length, map, Some, refl, sym, ap, ◌∙◌, subst, arith, append_assoc, length-append, eq-eqb, ne_eqb}
use Rattle.std.proofs.lemmas.List.{length-map}
use Rattle.std.specs.Prelude.{fold, All, Contains, slice_get, IfSome, IsPermutation}
use Rattle.std.specs.List.{flat_map, range_with_len}
use Rattle.std.proofs.lemmas.Option.{slice_get_within, get_or_from_slice_get}
use Rattle.std.proofs.lemmas.List.Elements.{All-nil, All-cons, All-head, All-tail, All-map, filter_map-append}
use Rattle.std.proofs.lemmas.List.Folds.{flat_map-map}
use Rattle.std.proofs.lemmas.List.FromFn.{length-range_with_len}
use Rattle.fleet_base.specs.declared.request.Entry.{Entry}
use Rattle.fleet_base.specs.declared.request.Entry.TheVariants as E
use Rattle.fleet_base.specs.declared.request.RouteId.{RouteId}
use Rattle.fleet_base.specs.History.{Past, nothing, followed_by, caller_of, reply_of, book_after, IsLive, EachFollows}
use Rattle.fleet_base.proofs.Reorder.{Reorder, Reorder-sym, All-reorder}
use Rattle.fleet_base.proofs.WalkLemmas.{nat_cases}
use Rattle.fleet_base.proofs.JournalLaw.{journal_keeps}
use Rattle.order_text.specs.declared.lane.Lane.{Lane}
use Rattle.order_text.specs.Lanes.{IsLane, after_lane, all_orders, AreNumberedFrom, AreLanes}
use Rattle.lane_runs.specs.declared.answer.Answer.{Answer}
use Rattle.lane_runs.specs.declared.answer.Left.{Left}
use Rattle.lane_runs.specs.Answers.{entry_made, entries_made}
use Rattle.lane_runs.specs.Answering.{AreBeingAnswered}
use Rattle.book_trait.specs.Passes.{BookView, JoinedView, IsJoined, IsCounted, entries_of}
use Rattle.ticket_line.specs.declared.line.Ticket.{Ticket}
use Rattle.ticket_line.specs.declared.line.TicketLine.{TicketLine}
use Rattle.ticket_line.specs.Tickets.{IsOf, IsNew}
use Rattle.ticket_line.specs.Numbers.{EachOnce}
use Rattle.planner_pool.specs.PoolRun.{StandsIn, KeepsEach, replies_in, IsPoolRun}
use Rattle.planner_pool.specs.Parts.{AreOnGrid, Part, IsPart, left_of, IsTheirs, HasWorked}
use Rattle.planner_pool.specs.Crew.{AreNew}
use Rattle.planner_pool.proofs.LaneLemmas.{answering_weaker}
use Rattle.planner_pool.proofs.LiveLemmas.{made_at, live_among}
use Rattle.planner_pool.proofs.CrewLemmas.{callers_within}
use Rattle.planner_pool.proofs.StandLemmas.{SameByCaller, same_permutation, stands_in_other, stands_all}
use Rattle.planner_pool.proofs.PlaceLemmas.{placed, flat_reorder, get_map, place_is, left_placed}

-- ---- what a crew needs

pub are_new : (line : TicketLine) (ts : List Ticket) → All (λ t. IsOf line t × IsNew t) ts → AreNew line ts
are_new line ts h = record { each = λ k t at. subst (λ t. IsOf line t × IsNew t) (get_or_from_slice_get ts k t t at) (h k t (slice_get_within ts k t at)) }

ends_within : (lanes : List Lane) (base k : ℕ) (lane : Lane) → AreNumberedFrom base lanes → slice_get lanes k ≡ Some lane → after_lane lane ≤ base + length (all_orders lanes)
ends_within [] base k lane numbered at = absurd (cc)
ends_within (l ∷ ls) base zero lane numbered at =
    let same : l ≡ lane = cc in
    let first = numbered.0 in
    omega (arith, length-append l.orders (all_orders ls), ap after_lane same)
ends_within (l ∷ ls) base (suc k) lane numbered at =
    let first = numbered.0 in
    omega (arith, length-append l.orders (all_orders ls), ends_within ls (after_lane l) k lane numbered.1 at)

pub are_on_grid : (cells : ℕ) (lanes : List Lane) → AreLanes cells lanes → AreOnGrid cells lanes
are_on_grid cells lanes h = record {
  each = λ k lane at.
      let few = h.few_orders in
      let end = ends_within lanes 0 k lane h.numbered at in
      (subst (IsLane cells) (get_or_from_slice_get lanes k lane lane at) (h.each k lane (slice_get_within lanes k lane at)), omega arith);
}

-- ---- the entries of each caller

callers_has : (n a c : ℕ) → a ≤ c → c < a + n → Contains (range_with_len a n) c
callers_has zero a c low high = absurd (omega arith)
callers_has (suc n) a c low high = elim (nat_cases a c) [
  | inl less ↦ let h = callers_has n (a + 1) c (omega arith) (omega arith) in (suc h.0, omega (arith, h.1), h.2)
  | inr same ↦ (0, omega arith, omega arith)
]

of_nobody : (n c : ℕ) (es : List Entry) → All (λ e. caller_of e < n) es → n ≤ c → entries_of c es ≡ []
of_nobody n c [] h over = refl
of_nobody n c (e ∷ es) h over =
    let less = All-head (λ e. caller_of e < n) e es h in
    ap (λ b. cond b (e ∷ entries_of c es) (entries_of c es)) (ne_eqb (caller_of e) c (λ same. absurd (omega arith))) ∙ of_nobody n c es (All-tail (λ e. caller_of e < n) e es h) over

all_its : (c : ℕ) (es : List Entry) → All (λ e. caller_of e ≡ c) es → entries_of c es ≡ es
all_its c [] h = refl
all_its c (e ∷ es) h =
    ap (λ b. cond b (e ∷ entries_of c es) (entries_of c es)) (eq-eqb (caller_of e) c (All-head (λ e. caller_of e ≡ c) e es h)) ∙ ap (λ l. e ∷ l) (all_its c es (All-tail (λ e. caller_of e ≡ c) e es h))

same_all : (b : BookView) (n : ℕ) (answers : List Answer) (lanes : List Lane) (drawn : List ℕ) (left : List Left) (j : JoinedView) → n ≡ b.callers → IsJoined b j → j.callers ≡ range_with_len 0 n
    → HasWorked lanes drawn answers left j → SameByCaller (entries_made answers) j.seen
same_all b n answers lanes drawn left j all is callers h c = elim (nat_cases c n) [
  | inl less ↦ sym (h.theirs c (subst (λ l. Contains l c) (sym callers) (callers_has n 0 c (omega arith) (omega arith))))
  | inr over ↦ h.no_others c (λ has. let w = (callers_within n 0 c (subst (λ l. Contains l c) callers has)).1 in absurd (omega arith)) ∙ sym (of_nobody b.callers c j.seen is.list.callers (omega arith))
]

-- ---- each part stands in each list that has the same entries caller by caller

parts_stand : (lanes : List Lane) (last : ℕ) (Lives : RouteId → Type 0) (list : List Entry) (parts : List Part) (front : List Answer) → All (IsPart lanes last Lives) parts
    → SameByCaller (entries_made (front ++ flat_map (λ (p : Part). p.answers) parts)) list → All (λ (p : Part). StandsIn (entries_made p.answers) list) parts
parts_stand lanes last Lives list [] front each same = All-nil (λ (p : Part). StandsIn (entries_made p.answers) list)
parts_stand lanes last Lives list (p ∷ ps) front each same =
    let rest : List Answer = flat_map (λ (p : Part). p.answers) ps in
    let mine = All-head (IsPart lanes last Lives) p ps each in
    let cut : entries_made (front ++ (p.answers ++ rest)) ≡ (entries_made front ++ entries_made p.answers) ++ entries_made rest =
    ap entries_made (sym (append_assoc front p.answers rest)) ∙ (filter_map-append entry_made (front ++ p.answers) rest ∙ ap (λ l. l ++ entries_made rest) (filter_map-append entry_made front p.answers)) in
    All-cons (λ (p : Part). StandsIn (entries_made p.answers) list) p ps
    (stands_in_other p.caller (entries_made front) (entries_made p.answers) (entries_made rest) list (all_its p.caller (entries_made p.answers) mine.by) (ap (entries_of p.caller) (sym cut) ∙ same p.caller))
    (parts_stand lanes last Lives list ps (front ++ p.answers) (All-tail (IsPart lanes last Lives) p ps each) (λ c. ap (λ l. entries_of c (entries_made l)) (append_assoc front p.answers rest) ∙ same c))

-- ---- stamps are counted

replies_grow : (es : List Entry) (p : Past) → length p.replies ≤ length (fold followed_by p es).replies
replies_grow [] p = omega arith
replies_grow (E.Commit id era q w ∷ es) p = omega (arith, replies_grow es (followed_by p (E.Commit id era q w)))
replies_grow (E.Cancel id era ∷ es) p = omega (arith, replies_grow es (followed_by p (E.Cancel id era)))
replies_grow (E.NoRoute stamp caller era q ∷ es) p = omega (arith, replies_grow es (followed_by p (E.NoRoute stamp caller era q)))

abbrev Within : ℕ → Entry → Type 0
Within n e = IfSome (reply_of e) (λ id. id.stamp ≤ n)

one_counted : (e : Entry) (p : Past) (es : List Entry) → IsCounted p e → Within (length (fold followed_by p (e ∷ es)).replies) e
one_counted (E.Commit id era q w) p es h = omega (arith, replies_grow es (followed_by p (E.Commit id era q w)))
one_counted (E.Cancel id era) p es h = tt
one_counted (E.NoRoute stamp caller era q) p es h = omega (arith, replies_grow es (followed_by p (E.NoRoute stamp caller era q)))

stamps_counted : (es : List Entry) (p : Past) → EachFollows IsCounted p es → All (Within (length (fold followed_by p es).replies)) es
stamps_counted [] p h = All-nil (Within (length p.replies))
stamps_counted (e ∷ es) p h = All-cons (Within (length (fold followed_by p (e ∷ es)).replies)) e es (one_counted e p es h.0) (stamps_counted es (followed_by p e) h.1)

-- ---- the run

-- what holds of a part, of the lane at its place
lane_goes_on : (lanes : List Lane) (last n : ℕ) (j : JoinedView) (p : Part) (k : ℕ) (lane : Lane) → IsPart lanes last (IsTheirs j) p → p.lane ≡ k → slice_get lanes k ≡ Some lane → All (Within n) j.seen → StandsIn (entries_made p.answers) j.seen
    → AreBeingAnswered lane.first lane.orders p.answers n (λ id. IsLive id (book_after j.seen))
lane_goes_on lanes last n j p k lane part place at within stands =
    let same_some : Some part.orders ≡ Some lane = sym part.at ∙ (ap (slice_get lanes) place ∙ at) in
    let same : part.orders ≡ lane = cc in
    let each = stands_all (Within n) (entries_made p.answers) j.seen stands within in
    subst (λ (l : Lane). AreBeingAnswered l.first l.orders p.answers n (λ id. IsLive id (book_after j.seen))) same
    (answering_weaker part.orders.first part.orders.orders p.answers last n (IsTheirs j) (λ id. IsLive id (book_after j.seen)) part.answering
    (λ i id c. made_at (Within n) p.answers i c.order (E.Commit id c.era c.request c.walk) each c.at)
    (λ id low h. live_among id.caller id refl j.seen nothing nothing (λ l. l) h.live))

pub pool_run : (b : BookView) (lanes : List Lane) (n : ℕ) (drawn : List ℕ) (answers : List Answer) (left : List Left) (j : JoinedView) → n ≡ b.callers → IsJoined b j → j.callers ≡ range_with_len 0 n
    → EachOnce (length lanes) drawn → HasWorked lanes drawn answers left j → IsPoolRun lanes answers left j
pool_run b lanes n drawn answers left j all is callers once h =
    let same : SameByCaller (entries_made answers) j.seen = same_all b n answers lanes drawn left j all is callers h in
    let t = placed (length lanes) h.parts (subst (EachOnce (length lanes)) (sym h.drawn_are) once) in
    let sorted : List Part = t.0 in
    let turn_back : Reorder sorted h.parts = Reorder-sym t.1 in
    let by_lane : List (List Answer) = map (λ (p : Part). p.answers) sorted in
    let made : (list : List Entry) → SameByCaller (entries_made answers) list → All (λ (p : Part). StandsIn (entries_made p.answers) list) sorted =
    λ list s. All-reorder (λ (p : Part). StandsIn (entries_made p.answers) list) t.1
    (parts_stand lanes h.last (IsTheirs j) list h.parts [] h.each (λ c. ap (λ l. entries_of c (entries_made l)) (sym h.made_of.answers_are) ∙ s c)) in
    let kept : (list : List Entry) → SameByCaller (entries_made answers) list → KeepsEach by_lane list =
    λ list s. All-map (λ xs. StandsIn (entries_made xs) list) (λ (p : Part). p.answers) sorted (made list s) in
    let each : All (IsPart lanes h.last (IsTheirs j)) sorted = All-reorder (IsPart lanes h.last (IsTheirs j)) t.1 h.each in
    let stamps : All (Within (replies_in j.seen)) j.seen = stamps_counted j.seen nothing is.list.counted in
    let goes_on : (k : ℕ) (lane : Lane) (xs : List Answer) → slice_get lanes k ≡ Some lane → slice_get by_lane k ≡ Some xs → AreBeingAnswered lane.first lane.orders xs (replies_in j.seen) (λ id. IsLive id (book_after j.seen)) =
    λ k lane xs at here.
    let m = get_map (λ (p : Part). p.answers) sorted k xs here in
    let is_part : IsPart lanes h.last (IsTheirs j) m.0 = subst (IsPart lanes h.last (IsTheirs j)) (get_or_from_slice_get sorted k m.0 m.0 m.1) (each k m.0 (slice_get_within sorted k m.0 m.1)) in
    let stands : StandsIn (entries_made m.0.answers) j.seen =
    subst (λ (p : Part). StandsIn (entries_made p.answers) j.seen) (get_or_from_slice_get sorted k m.0 m.0 m.1) (made j.seen same k m.0 (slice_get_within sorted k m.0 m.1)) in
    let place : m.0.lane ≡ k = omega (arith, place_is (length lanes) 0 sorted k m.0 t.2 m.1) in
    subst (λ (l : List Answer). AreBeingAnswered lane.first lane.orders l (replies_in j.seen) (λ id. IsLive id (book_after j.seen))) m.2
    (lane_goes_on lanes h.last (replies_in j.seen) j m.0 k lane is_part place at stamps stands) in
    let long : length by_lane ≡ length lanes =
    length-map sorted (λ (p : Part). p.answers) ∙ (sym (length-map sorted (λ (p : Part). p.lane)) ∙ (ap length t.2 ∙ length-range_with_len 0 (length lanes))) in
    record {
      by_lane = by_lane;
      run = record {
        long = long;
        each = λ k lane xs at here. (goes_on k lane xs at here).right;
        answers_are = subst (λ (z : List Answer × List Answer). IsPermutation z.0 z.1)
            (λ i. (sym (flat_map-map (λ (xs : List Answer). xs) (λ (p : Part). p.answers) sorted) i, sym h.made_of.answers_are i)) (flat_reorder (λ (p : Part). p.answers) turn_back);
        left_are = subst (λ (z : List Left × List Left). IsPermutation z.0 z.1)
            (λ i. (left_placed lanes 0 lanes sorted (λ k. let z : 0 + k ≡ k = omega arith in ap (slice_get lanes) z) t.2 i, sym h.made_of.left_are i))
            (flat_reorder (λ (p : Part). left_of (slice_get lanes p.lane) p) turn_back);
      };
      list = record {
        entries = same_permutation (entries_made answers) j.seen same;
        in_order = kept j.seen same;
        in_journal = λ journal k. kept journal (λ c. same c ∙ sym ((journal_keeps b.grid b.horizon j.seen journal is.list.strong k).callers c));
        stamps = stamps;
        goes_on = goes_on;
      };
      counts = h.counts;
    }
