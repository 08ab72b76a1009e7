use Rattle.std.proofs.Common.{arith, ◌<◌, ◌-◌, length}
use Rattle.calendars.specs.Places.{place_in}
use Rattle.safe_intervals.proofs.Counting.{begun_at}
use Rattle.safe_intervals.proofs.gaps.known_begun.Goals as goal

pub returns-else-time-records : goal.returns-else-time-records
returns-else-time-records c =
    let inside : c.loop-place.place - 1 < length c.args.records.now = omega (arith, c.loop-place.invariant, c.loop-place-test.true) in
    let less : c.loop-place.place - 1 < place_in c.args.time c.args.records.now =
    begun_at c.args.records.now 0 c.args.time (c.loop-place.place - 1) _ c.requires inside c.if-time-records.false in
    omega (arith, c.loop-place-test.true)
