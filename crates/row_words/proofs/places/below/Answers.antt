use Rattle.std.proofs.Common.{◌<◌, arith}
use Rattle.std.proofs.lemmas.Nat.{one_shl}
use Rattle.row_words.proofs.WordLemmas.{set_in_ones}
use Rattle.row_words.proofs.places.below.Goals as goal

pub returns-then-count-lt64 : goal.returns-then-count-lt64
returns-then-count-lt64 c = λ i. rw (one_shl c.args.count 64 c.if-count-lt64.true)
    (λ set. (let below : i < c.args.count = (set_in_ones c.args.count i).0 set in (omega arith, below)), λ below. (set_in_ones c.args.count i).1 below.1)

pub returns-else-count-lt64 : goal.returns-else-count-lt64
returns-else-count-lt64 c = λ i.
    (λ set. (let below : i < 64 = (set_in_ones 64 i).0 set in (below, omega arith)), λ below. (set_in_ones 64 i).1 below.0)
