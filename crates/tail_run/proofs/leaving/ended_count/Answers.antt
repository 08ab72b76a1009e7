use Rattle.std.proofs.Common.{sym, refl, ap, ◌∙◌, arith, length}
use Rattle.std.specs.Prelude.{is_some}
use Rattle.std.proofs.lemmas.Option.{slice_get_read}
use Rattle.tail_run.proofs.LoopLemmas.{counted, not_counted}
use Rattle.tail_run.proofs.leaving.ended_count.Goals as goal
use Rattle.tail_run.proofs.leaving.ended_count.Goals.{then-is_some, else-is_some}

pub loop-answer-preserved : goal.loop-answer-preserved
loop-answer-preserved c =
    let k = c.loop-answer.answer-index in
    let at = slice_get_read c.args.answers.now (length c.args.answers.now) k c.answer-item.result refl (grind arith) c.answer-item.is in
    let tells = ap is_some (sym c.ended_in.ensures) in
    elim c.if-is_some.branch [
      | then-is_some w ↦ record {
        so_far = w.count-is ∙ counted c.args.answers.now k c.answer-item.result at c.loop-answer.count c.loop-answer.invariant.so_far (tells ∙ sym w.if-is_some.ensures);
        few = grind arith;
        within = grind arith;
      }
      | else-is_some w ↦ record {
        so_far = w.count-is ∙ not_counted c.args.answers.now k c.answer-item.result at c.loop-answer.count c.loop-answer.invariant.so_far (tells ∙ sym w.if-is_some.ensures);
        few = grind arith;
        within = grind arith;
      }
    ]
