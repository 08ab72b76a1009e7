use Rattle.journal_lines.proofs.TextLemmas.{lines_more}
use Rattle.journal_lines.proofs.text.lines_of.Goals as goal

pub loop-answer-preserved : goal.loop-answer-preserved
loop-answer-preserved c = record {
  to_come = lines_more c.args.grid.now c.args.lanes.now c.loop-answer.totals c.count.new.self c.loop-answer.lines.items c.push.new.self.items c.args.printed.now c.loop-answer.answer-index
      c.answer-item.result c.in_ok-line_of.field-0 _ c.loop-answer-test.true c.answer-item.is c.in_ok-push.ensures.items c.in_ok-line_of.ensures c.count.ensures.counted c.loop-answer.invariant.to_come;
  counted = c.count.ensures.at_most c.loop-answer.answer-index c.loop-answer.invariant.counted;
}
