use Rattle.std.proofs.Common.{length, ap, sym, arith}
use Rattle.lane_runs.proofs.NumberLemmas.{last_ends}
use Rattle.lane_runs.proofs.numbers.count_orders.Goals as goal

pub returns-in-Some : goal.returns-in-Some
returns-in-Some c =
    let long = ap length c.as_slice.ensures in
    omega (arith, long, last_ends c.args.lanes.now c.in-Some.lane.now c.requires.numbered (sym c.in-Some.ensures.value))
