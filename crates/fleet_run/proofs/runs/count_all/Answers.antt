use Rattle.std.proofs.Common.{◌∙◌, sym, ap, arith}
use Rattle.journal_lines.specs.Totals.{with_answer}
use Rattle.fleet_run.proofs.RunLemmas.{totals_more}
use Rattle.fleet_run.proofs.runs.count_all.Goals as goal

pub loop-answer-preserved : goal.loop-answer-preserved
loop-answer-preserved c = record {
  so_far = c.count.ensures.counted ∙ ap (λ t. with_answer t c.answer-item.result.now) c.loop-answer.invariant.so_far ∙ sym (totals_more c.args.answers.now c.loop-answer.answer-index _ c.loop-answer-test.true c.answer-item.is);
  counted = c.count.ensures.at_most c.loop-answer.answer-index c.loop-answer.invariant.counted;
  within = omega (arith, c.loop-answer-test.true);
}
