use Rattle.std.proofs.Common.{◌≡◌, ◌∙◌, ap, sym, subst, List, length}
use Rattle.std.specs.List.{range_with_len}
use Rattle.fleet_base.specs.Terrain.{Terrain}
use Rattle.lane_runs.specs.declared.answer.Answer.{Answer}
use Rattle.lane_runs.specs.declared.answer.Left.{Left}
use Rattle.book_trait.specs.Passes.{BookView, IsJoined}
use Rattle.turn_book.specs.Passes.{joined_view}
use Rattle.tail_run.specs.Finished.{IsFinished}
use Rattle.fleet_run.specs.Workers.{book_of}
use Rattle.fleet_run.proofs.SharedLemmas.{fresh_passes, from_workers}
use Rattle.fleet_run.proofs.shared.run_shared.Goals as goal

pub run_lanes-requires-clause-passes : goal.run_lanes-requires-clause-passes
run_lanes-requires-clause-passes g c κs within =
    (c.in_ok-book.ensures.passes.0 ∙ sym (ap (λ (b : BookView). b.callers) c.in_ok-book.ensures.book), fresh_passes c.in_ok-book.book c.in_ok-book.passes.items c.in_ok-book.ensures.passes.1)

pub returns : goal.returns
returns g c =
    let ended = c.in_ok-answers.field-0 in
    from_workers c.args.grid.now c.args.horizon c.args.workers (length c.args.grid.now.cells) c.args.lanes.now (joined_view ended.joined) ended.answers ended.left c.in_ok-answers-2.answers.items c.requires.lanes
    (subst (λ (b : BookView). IsJoined b (joined_view ended.joined)) (c.in_ok-book.ensures.book ∙ ap (λ (t : Terrain). book_of t c.args.horizon c.args.workers) c.in_ok-copy_of.ensures) c.in_ok-answers.ensures.is_joined)
    (c.in_ok-answers.ensures.callers ∙ ap (λ (b : BookView). range_with_len 0 b.callers) c.in_ok-book.ensures.book)
    c.in_ok-answers.ensures.run
    (subst (λ (z : Terrain × (List Answer × List Left)). IsFinished z.0 c.args.horizon c.args.workers c.args.lanes.now z.1.0 z.1.1 c.in_ok-answers-2.answers.items)
    (λ i. (c.in_ok-grid.ensures i, (c.into_vec.ensures i, c.as_slice.ensures i))) c.in_ok-answers-2.ensures)
