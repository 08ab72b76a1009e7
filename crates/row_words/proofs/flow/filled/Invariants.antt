use Rattle.std.proofs.Common.{◌-◌, ◌^◌}
use Rattle.row_words.proofs.FlowLemmas.{IsFilling}
use Rattle.row_words.proofs.flow.filled.Given as goal

abbrev pub invariant-loop-more : goal.invariant-loop-more
invariant-loop-more l = IsFilling l.seeds l.free l.up l.down l.word l.more

abbrev pub decreases-loop-more : goal.decreases-loop-more
decreases-loop-more l = 2 ^ 64 - l.word
