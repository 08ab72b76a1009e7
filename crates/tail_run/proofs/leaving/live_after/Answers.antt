use Rattle.std.proofs.Common.{sym, refl, ap, ◌∙◌, arith, length}
use Rattle.std.specs.List.{filter_map}
use Rattle.std.proofs.lemmas.List.{take_all}
use Rattle.std.proofs.lemmas.Option.{slice_get_read}
use Rattle.tail_run.specs.Leaving.{route_unless, ended_ids}
use Rattle.tail_run.proofs.LoopLemmas.{live_some, live_none, live_is_rest}
use Rattle.tail_run.proofs.leaving.live_after.Goals as goal
use Rattle.tail_run.proofs.leaving.live_after.Goals.{in-Some+in_ok-push, in_default}

pub loop-answer-preserved : goal.loop-answer-preserved
loop-answer-preserved c =
    let k = c.loop-answer.answer-index in
    let at = slice_get_read c.args.answers.now (length c.args.answers.now) k c.answer-item.result refl (grind arith) c.answer-item.is in
    let keys = c.in_ok-ended.ended.keys in
    let live = sym c.in_ok-live.ensures in
    elim c.match-branch-3.branch [
      | in-Some+in_ok-push w ↦ record {
        so_far = rw w.routes-is (w.in_ok-push.ensures.items ∙ live_some c.args.answers.now k c.answer-item.result at keys c.loop-answer.routes.items c.loop-answer.invariant.so_far
            w.in-Some.live (live ∙ w.in-Some.is));
        has = c.loop-answer.invariant.has;
        answers_same = refl;
        within = grind arith;
      }
      | in_default w ↦ record {
        so_far = rw w.routes-is (live_none c.args.answers.now k c.answer-item.result at keys c.loop-answer.routes.items c.loop-answer.invariant.so_far (live ∙ w.in_default.is));
        has = c.loop-answer.invariant.has;
        answers_same = refl;
        within = grind arith;
      }
    ]

pub returns : goal.returns
returns c =
    let keys = c.in_ok-ended.ended.keys in
    c.loop-answer.invariant.so_far ∙ ap (filter_map (route_unless keys)) (take_all c.loop-answer.answer-index c.args.answers.now (grind arith))
    ∙ live_is_rest keys (ended_ids c.args.answers.now) c.loop-answer.invariant.has c.args.answers.now
