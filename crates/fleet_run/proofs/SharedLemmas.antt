-- A run by several workers with its tail, as the program prints it.
use Rattle.std.proofs.Common.{◌≡◌, ℕ, ◌+◌, ◌*◌, ◌<◌, ◌≤◌, ◌++◌, inl, inr, List, length, map, take, get_or, Some, refl, sym, ap, ◌∙◌, subst, arith}
use Rattle.std.specs.Borrow.{Bor}
use Rattle.std.specs.Prelude.{All, Contains, IsPermutation, slice_get}
use Rattle.std.specs.List.{range_with_len}
use Rattle.std.proofs.lemmas.List.{length-map, get_or-map}
use Rattle.std.proofs.lemmas.List.Sorted.{All-permutation, IsPermutation-trans, length_permutation}
use Rattle.std.proofs.lemmas.Option.{slice_get-get_or, slice_get_cases}
use Rattle.fleet_base.specs.declared.request.Entry.{Entry}
use Rattle.fleet_base.specs.Terrain.{Terrain}
use Rattle.order_text.specs.declared.lane.Lane.{Lane}
use Rattle.order_text.specs.Lanes.{all_orders, AreLanes}
use Rattle.lane_runs.specs.declared.answer.Answer.{Answer}
use Rattle.lane_runs.specs.declared.answer.Answer.TheVariants.{Made}
use Rattle.lane_runs.specs.declared.answer.Left.{Left}
use Rattle.lane_runs.specs.Answers.{order_of}
use Rattle.lane_runs.specs.Runs.{IsRun}
use Rattle.book_trait.specs.Passes.{JoinedView, IsJoined, fresh}
use Rattle.turn_book.specs.declared.pass.TurnPass.{TurnPass}
use Rattle.turn_book.specs.declared.steps.TurnBook.{TurnBook}
use Rattle.turn_book.specs.Passes.{pass_view, IsPassOf, AreOpened}
use Rattle.planner_pool.specs.Crew.{AreFresh}
use Rattle.planner_pool.specs.PoolRun.{IsPoolRun}
use Rattle.planner_pool.proofs.RunLemmas.{left_is}
use Rattle.journal_lines.specs.declared.totals.Totals.{Totals}
use Rattle.journal_lines.specs.Totals.{totals_of}
use Rattle.journal_lines.specs.Lines.{last_line}
use Rattle.journal_lines.specs.Printing.{AreOfRun, ArePrinted}
use Rattle.tail_run.specs.Finished.{HasBegun, IsOfLeft, IsFinished}
use Rattle.fleet_run.specs.Due.{IsRunText, IsLastLine}
use Rattle.fleet_run.specs.Jobs.{IsPrintedAs}
use Rattle.fleet_run.specs.Workers.{book_of, IsOfLanes, AnswerLanes, IsSharedRun, IsFromWorkers}

-- ---- the answers of any run

module _ (cells : ℕ) (lanes : List Lane) (answers : List Answer) (are : AreLanes cells lanes) (run : IsRun lanes answers) where
  order_at : (k : ℕ) (d : Answer) → k < length run.by_number → order_of (get_or run.by_number k d) < length (all_orders lanes)
  order_at k d less = elim (slice_get_cases (all_orders lanes) k).1 [
    | inl here ↦
        let is = (run.right.fits k here.0 (get_or run.by_number k d) here.2 (slice_get-get_or run.by_number k d less)).0 in
        omega (arith, is, run.whole)
    | inr past ↦ let over = past.0 in absurd (omega (arith, run.whole))
  ]

  pub right : AnswerLanes lanes answers
  right =
      let few = are.few_orders in (
        are.numbered,
        omega (arith, length_permutation run.by_number answers run.same, run.whole),
        All-permutation (λ a. order_of a < length (all_orders lanes)) run.by_number answers run.same (λ k d h. order_at k d h),
      )

-- ---- workers and a tail

-- a place that is among some is among their images
has_image : {X Y : Type 0} (f : X → Y) (xs : List X) (x : X) → Contains xs x → Contains (map f xs) (f x)
has_image f xs x (k, less, is) = (k, omega (arith, length-map xs f), get_or-map f xs k x (f x) less ∙ ap f is)

-- what the workers leave is a run that a tail can go on with
pub begun : (g : Terrain) (horizon workers : ℕ) (lanes : List Lane) (j : JoinedView) (made : List Answer) (left : List Left) → IsJoined (book_of g horizon workers) j → IsPoolRun lanes made left j → HasBegun g horizon lanes made left
begun g horizon workers lanes j made left joined run = record { by_lane = run.by_lane; list = j.seen; strong = joined.list.strong; run = run.run; holds = run.list }

pub from_workers : (g : Terrain) (horizon workers cells : ℕ) (lanes : List Lane) (j : JoinedView) (made : List Answer) (left : List Left) (all : List Answer) → AreLanes cells lanes
    → IsJoined (book_of g horizon workers) j → j.callers ≡ range_with_len 0 workers → IsPoolRun lanes made left j → IsFinished g horizon workers lanes made left all → IsFromWorkers g horizon workers lanes j all
from_workers g horizon workers cells lanes j made left all are joined callers pool finished = record {
  run = record { cells = cells; lanes = lanes; are = are; run = finished.run };
  right = right cells lanes all are finished.run;
  journal = finished.journal;
  shared = λ printed in_order. record {
    theirs = made;
    tail = finished.tail;
    same = subst (λ l. IsPermutation l printed) finished.all_are in_order.same;
    joined = joined;
    callers = callers;
    entries = pool.list.entries;
    by = finished.by;
    few_lanes = record {
      places = map (λ (l : Left). l.lane) left;
      each = λ n e has. of_left n e has;
      few = let enough = pool.counts.enough in omega (arith, length-map left (λ (l : Left). l.lane));
    };
  };
}
  where
    of_left : (n : ℕ) (e : Entry) → Contains finished.tail (Made n e) → IsOfLanes lanes (map (λ (l : Left). l.lane) left) n
    of_left n e (k, less, is) =
        let of = subst (λ a. IsOfLeft lanes left (order_of a)) is (finished.of_left k (Made n e) less) in
        let there = left_is lanes pool.by_lane made left of.which pool.run of.was_left in
        let lane : there.lane ≡ of.lane = same_some there.lane of.lane (sym there.at ∙ of.at) in
        let from = of.from in
        let begins = there.from in
        record {
          place = of.which.lane;
          lane = of.lane;
          among = has_image (λ (l : Left). l.lane) left of.which of.was_left;
          at = of.at;
          begun = omega (arith, ap (λ (l : Lane). l.first) lane);
          before_end = of.before_end;
        }
      where
        same_some : (a b : Lane) → Some a ≡ Some b → a ≡ b
        same_some a b h = cc

-- ---- the texts

pub shared_text : (g : Terrain) (horizon workers : ℕ) (lanes : List Lane) (j : JoinedView) (answers : List Answer) → 2 ≤ workers → IsFromWorkers g horizon workers lanes j answers → (text : List ℕ) → IsPrintedAs g lanes answers text
    → IsRunText g horizon lanes workers text (Some j)
shared_text g horizon workers lanes j answers several from text prints = record {
  printed = prints.printed;
  journal = from.journal prints.printed prints.in_order;
  by = (several, from.shared prints.printed prints.in_order);
  says = prints.says;
}

pub shared_last : (g : Terrain) (horizon workers : ℕ) (lanes : List Lane) (j : JoinedView) (answers printed : List Answer) (t : Totals) → 2 ≤ workers → IsFromWorkers g horizon workers lanes j answers → ArePrinted answers printed
    → t ≡ totals_of printed → (text : List ℕ) → text ≡ last_line t → IsLastLine g horizon lanes workers text (Some j)
shared_last g horizon workers lanes j answers printed t several from in_order counted text says = record {
  printed = printed;
  journal = from.journal printed in_order;
  by = (several, from.shared printed in_order);
  says = says ∙ ap last_line counted;
}

-- as many answers are printed as there are
pub lent_few : (g : Terrain) (horizon workers : ℕ) (lanes : List Lane) (j : JoinedView) (answers : List Answer) (printed lent : List (Bor Answer)) → IsFromWorkers g horizon workers lanes j answers → (others : List Answer)
    → others ≡ answers → ArePrinted others (map (λ a. a.now) printed) → lent ≡ printed → length lent ≤ 32767
lent_few g horizon workers lanes j answers printed lent from others same in_order lends =
    let few = from.right.1 in
    omega (arith, ap length lends, length-map printed (λ (a : Bor Answer). a.now), length_permutation others (map (λ a. a.now) printed) in_order.same, ap length same)

-- what a book's opening gives is what the workers need
pub fresh_passes : (b : TurnBook) (passes : List TurnPass) → AreOpened b passes → AreFresh (λ p. IsPassOf b p) pass_view 0 passes
fresh_passes b passes opened = record { each = λ k p at. let is = opened.each k p at in (is.0, is.1 ∙ ap fresh (omega arith)) }
