use Rattle.std.proofs.Common.{◌<◌, arith}
use Rattle.row_words.proofs.FlowLemmas.{filling_begins, filling_goes_on, filling_grows, filling_ends}
use Rattle.row_words.proofs.flow.filled.Goals as goal

pub loop-more-init : goal.loop-more-init
loop-more-init c = filling_begins c.args.seeds c.args.free c.args.up c.args.down _ _ c.both-word.ensures c.next_to-more.ensures c.next_to-more.type_inv

pub loop-more-smaller : goal.loop-more-smaller
loop-more-smaller c =
    let grows : c.loop-more.word < c.either-word.result = filling_grows c.args.seeds c.args.free c.args.up c.args.down _ _ _ c.loop-more.invariant c.either-word.ensures c.loop-more-test.true in
    omega arith

pub loop-more-preserved : goal.loop-more-preserved
loop-more-preserved c = filling_goes_on c.args.seeds c.args.free c.args.up c.args.down _ _ _ c.loop-more.invariant c.either-word.ensures _ c.next_to-more-in-loop-more.ensures c.next_to-more-in-loop-more.type_inv

pub returns : goal.returns
returns c = filling_ends c.args.seeds c.args.free c.args.up c.args.down _ _ c.loop-more.invariant c.loop-more-test.false
