use Rattle.std.proofs.Common.{◌∙◌, ap, length, length-drop}
use Rattle.map_text.proofs.WritingLemmas.{more_rows, no_more_rows, shorter_rest}
use Rattle.map_text.proofs.writing.push_rows.Goals as goal

pub loop-counter-preserved : goal.loop-counter-preserved
loop-counter-preserved c = (
  more_rows c.loop-counter.text.items c.push_row.new.text.items c.args.width c.args.height c.loop-counter.counter c.loop-counter.rest.now c.split_at.result.0.now c.split_at.result.1.now _ c.loop-counter-test.true c.split_at.ensures.front c.split_at.ensures.back c.in_ok-push_row.ensures c.loop-counter.invariant.0,
  shorter_rest (length c.loop-counter.rest.now) _ c.args.height c.loop-counter.counter c.args.width c.loop-counter-test.true c.loop-counter.invariant.1 (ap length c.split_at.ensures.back ∙ length-drop c.args.width c.loop-counter.rest.now),
)

pub returns : goal.returns
returns c = no_more_rows c.loop-counter.text.items c.args.width c.args.height c.loop-counter.counter c.loop-counter.rest.now _ c.loop-counter-test.false c.loop-counter.invariant.0
