-- The whole tail: it begins, answers each lane that was left in what the lanes before it came to, and ends.
use Rattle.std.proofs.Common.{◌≡◌, ℕ, ◌+◌, ◌<◌, ◌≤◌, List, [], ◌∷◌, length, get_or, drop, Some, refl, sym, ap, ◌∙◌, subst, arith}
use Rattle.std.specs.Prelude.{All, slice_get, IsPermutation}
use Rattle.std.proofs.lemmas.List.{length-append, drop_more, drop_all}
use Rattle.std.proofs.lemmas.Option.{slice_get_within, slice_get-get_or}
use Rattle.fleet_base.specs.declared.request.Live.{Live}
use Rattle.fleet_base.specs.Terrain.{Terrain}
use Rattle.fleet_base.specs.History.{nothing}
use Rattle.fleet_base.proofs.JournalLaw.{legal-from_strong}
use Rattle.order_text.specs.declared.lane.Lane.{Lane}
use Rattle.order_text.specs.Lanes.{all_orders, after_lane, IsLane, AreLanes}
use Rattle.lane_runs.specs.declared.answer.Answer.{Answer}
use Rattle.lane_runs.specs.declared.answer.Left.{Left}
use Rattle.lane_runs.specs.Answers.{order_of}
use Rattle.plain_book.specs.Resuming.{AreLive, HasRoutes}
use Rattle.journal_lines.proofs.Numbering.{All-at}
use Rattle.planner_pool.specs.Runs.{IsLeftOf}
use Rattle.planner_pool.proofs.RunLemmas.{left_is}
use Rattle.tail_run.specs.declared.lane.Tail.{Tail}
use Rattle.tail_run.specs.Ids.{ids_of}
use Rattle.tail_run.specs.Leaving.{live_after, top_stamp, ended_count}
use Rattle.tail_run.specs.Finished.{HasBegun, IsFinished}
use Rattle.tail_run.specs.Tails.{IsStart, IsAtPlace, IsGoing, AreAtEnd, IsBeginning, IsGoingOn, ComesTo, ComesToEnd}
use Rattle.tail_run.proofs.LeavingLemmas.{live_are}
use Rattle.tail_run.proofs.KeepingLemmas.{same_some}
use Rattle.tail_run.proofs.GivenLemmas.{few_answers, orders_within, ids_long, lane_end}
use Rattle.tail_run.proofs.GoingLemmas.{going_begins, going_start, going_more, going_ends, nothing_left}

-- one lane, the first of those that are still left
module _ (g : Terrain) (horizon caller cells : ℕ) (lanes : List Lane) (are : AreLanes cells lanes) (made : List Answer) (all later : List Left) (l : Left) (t : Tail)
    (going : IsGoing g horizon caller lanes made all (l ∷ later) t) where
  named : IsLeftOf lanes going.by_lane l
  named = left_is lanes going.by_lane t.answers.items (l ∷ later) l going.run (0, omega arith, refl)

  in_lanes : l.lane < length lanes
  in_lanes = slice_get_within lanes l.lane named.lane named.at

  module _ (lane d : Lane) (is : lane ≡ get_or lanes l.lane d) where
    at : slice_get lanes l.lane ≡ Some lane
    at = slice_get-get_or lanes l.lane d in_lanes ∙ ap Some (sym is)

    same_lane : named.lane ≡ lane
    same_lane = same_some named.lane lane (sym named.at ∙ at)

    has_ids : after_lane lane ≤ length t.ids.items
    has_ids = omega (arith, lane_end 0 lanes l.lane lane are.numbered at, ap length going.ids, ids_long (length (all_orders lanes)) t.answers.items)

    few_yet : (after_lane lane ≤ 32767) × (t.book.stamp ≤ 32767) × (t.book.era ≤ 32767)
    few_yet =
        let few : length t.answers.items ≤ 32767 = let most = are.few_orders in omega (arith, few_answers cells lanes going.by_lane t.answers.items (l ∷ later) are going.run) in
        let most = are.few_orders in
        let stamps = going.stamps in
        let eras = going.eras in
        (omega (arith, lane_end 0 lanes l.lane lane are.numbered at), omega arith, omega arith)

    start_here : IsStart lane named.answers l.from t
    start_here = subst (λ (z : Lane). IsStart z named.answers l.from t) same_lane (going_start g horizon caller cells lanes are made all later l t going named)

    starts : (xs : List Answer) × IsStart lane xs l.from t
    starts = (named.answers, start_here)

    one_more : (t' : Tail) → ((xs : List Answer) → IsStart lane xs l.from t → IsAtPlace caller lane xs t (length lane.orders) t') → IsGoing g horizon caller lanes made all later t'
    one_more t' h =
        let at_end : IsAtPlace caller lane named.answers t (length lane.orders) t' = h named.answers start_here in
        let end : IsAtPlace caller named.lane named.answers t (length named.lane.orders) t' = subst (λ (z : Lane). IsAtPlace caller z named.answers t (length z.orders) t') (sym same_lane) at_end in
        let is = end.at in
        going_more g horizon caller cells lanes are made all later l t going named t' end.more end.goes (omega (arith, length-append named.answers end.more))

-- ---- the loop is at place i of those that were left

module _ (caller : ℕ) (lanes : List Lane) (left : List Left) (old t : Tail) (i : ℕ) (so_far : ComesTo caller lanes left old (drop i left) t) where
  -- no lane is left
  pub at_end : length left ≤ i → ComesToEnd caller lanes left old t.answers.items
  at_end past g horizon made all going = record {
    tail = t;
    going = subst (λ (ls : List Left). IsGoing g horizon caller lanes made all ls t) (drop_all i left past) (so_far g horizon made all going);
    answers_are = refl;
  }

  module _ (d : Left) (within : i < length left) (are : AreLanes (length old.book.grid.cells) lanes) where
    next : ComesTo caller lanes left old (get_or left i d ∷ drop (i + 1) left) t
    next g horizon made all going = subst (λ (ls : List Left). IsGoing g horizon caller lanes made all ls t) (drop_more left i d within) (so_far g horizon made all going)

    module _ (begun : IsGoingOn caller lanes left old) where
      now : IsGoing begun.0 begun.1 caller lanes begun.2 begun.3 (get_or left i d ∷ drop (i + 1) left) t
      now = next begun.0 begun.1 begun.2 begun.3 begun.4

      pub lane_there : (get_or left i d).lane < length lanes
      lane_there = in_lanes begun.0 begun.1 caller (length old.book.grid.cells) lanes are begun.2 begun.3 (drop (i + 1) left) (get_or left i d) t now

      module _ (lane e : Lane) (is : lane ≡ get_or lanes (get_or left i d).lane e) where
        pub lane_may : IsLane (length t.book.grid.cells) lane × (after_lane lane ≤ length t.ids.items)
        lane_may = (
          subst (λ (g : Terrain). IsLane (length g.cells) lane) (begun.4.grid ∙ sym now.grid) (All-at (IsLane (length old.book.grid.cells)) lanes (get_or left i d).lane lane are.each
              (at begun.0 begun.1 caller (length old.book.grid.cells) lanes are begun.2 begun.3 (drop (i + 1) left) (get_or left i d) t now lane e is)),
          has_ids begun.0 begun.1 caller (length old.book.grid.cells) lanes are begun.2 begun.3 (drop (i + 1) left) (get_or left i d) t now lane e is,
        )

        pub lane_few : (after_lane lane ≤ 32767) × (t.book.stamp ≤ 32767) × (t.book.era ≤ 32767)
        lane_few = few_yet begun.0 begun.1 caller (length old.book.grid.cells) lanes are begun.2 begun.3 (drop (i + 1) left) (get_or left i d) t now lane e is

        pub lane_start : (xs : List Answer) × IsStart lane xs (get_or left i d).from t
        lane_start = starts begun.0 begun.1 caller (length old.book.grid.cells) lanes are begun.2 begun.3 (drop (i + 1) left) (get_or left i d) t now lane e is

    pub lane_more : (lane e : Lane) → lane ≡ get_or lanes (get_or left i d).lane e → (t' : Tail)
        → ((xs : List Answer) → IsStart lane xs (get_or left i d).from t → IsAtPlace caller lane xs t (length lane.orders) t') → ComesTo caller lanes left old (drop (i + 1) left) t'
    lane_more lane e is t' h g horizon made all going =
        one_more g horizon caller (length old.book.grid.cells) lanes are made all (drop (i + 1) left) (get_or left i d) t (next g horizon made all going) lane e is t' h

-- ---- before the loop and after it

module _ (g : Terrain) (horizon cells : ℕ) (lanes : List Lane) (are : AreLanes cells lanes) (made : List Answer) where
  module _ (routes : List Live) (stamp : ℕ) (routes_are : routes ≡ live_after made) (stamp_is : stamp ≡ top_stamp made) where
    -- a book can go on from the live routes of the answers
    pub may_resume : (left : List Left) → HasBegun g horizon lanes made left → AreLive g horizon routes stamp
    may_resume left begun =
        subst (λ (z : List Live × ℕ). AreLive g horizon z.0 z.1) (λ i. (sym routes_are i, sym stamp_is i))
        (live_are g horizon made begun.list (legal-from_strong g horizon begun.list nothing begun.strong) begun.holds.entries)

    pub begins : (era : ℕ) (t : Tail) → era ≡ ended_count made → HasRoutes t.book g horizon routes stamp era → t.ids.items ≡ ids_of (length (all_orders lanes)) made → t.answers.items ≡ made
        → IsBeginning g horizon lanes made t
    begins era t era_is has ids answers caller left all begun same =
        going_begins g horizon caller cells lanes are made left all t begun same
        (subst (λ (z : List Live × ℕ × ℕ). HasRoutes t.book g horizon z.0 z.1 z.2) (λ i. (routes_are i, stamp_is i, era_is i)) has) ids answers

  pub numbers_within : (left : List Left) → HasBegun g horizon lanes made left → (answers : List Answer) (count : ℕ) → answers ≡ made → count ≡ length (all_orders lanes)
      → All (λ a. order_of a < count) answers
  numbers_within left begun answers count answers_are count_is =
      subst (λ (z : List Answer × ℕ). All (λ a. order_of a < z.1) z.0) (λ i. (sym answers_are i, sym count_is i)) (orders_within cells lanes begun.by_lane made left are begun.run)

  pub finished_none : (caller : ℕ) (left : List Left) → length left ≡ 0 → HasBegun g horizon lanes made left → IsFinished g horizon caller lanes made left made
  finished_none caller [] none begun = nothing_left g horizon caller cells lanes are made begun
  finished_none caller (l ∷ left) none begun = absurd (omega arith)

  pub finished : (caller : ℕ) (left all : List Left) (answers : List Answer) → IsPermutation left all → AreAtEnd g horizon caller lanes made all answers
      → IsFinished g horizon caller lanes made left answers
  finished caller left all answers same end =
      subst (λ (xs : List Answer). IsFinished g horizon caller lanes made left xs) (sym end.answers_are) (going_ends g horizon caller cells lanes are made left all end.tail end.going same)
