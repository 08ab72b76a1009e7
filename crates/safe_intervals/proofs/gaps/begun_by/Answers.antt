use Rattle.std.proofs.Common.{arith, ap, length, List}
use Rattle.fleet_base.specs.declared.request.Record.{Record}
use Rattle.calendars.proofs.PlaceLemmas.{place_within}
use Rattle.safe_intervals.proofs.Counting.{one_more_begun, all_begun}
use Rattle.safe_intervals.proofs.gaps.begun_by.Goals as goal

pub returns-then-time-records-clause-place : goal.returns-then-time-records-clause-place
returns-then-time-records-clause-place c =
    all_begun c.args.calendar.now c.args.time c.loop-place.place _ c.loop-place.invariant (rw c.records-records.ensures.value at c.if-time-records.true)

pub loop-place-preserved : goal.loop-place-preserved
loop-place-preserved c =
    one_more_begun c.args.calendar.now c.args.time c.loop-place.place _ c.loop-place.invariant (rw c.records-records.ensures.value at c.loop-place-test.true)
    (rw c.records-records.ensures.value at c.if-time-records.false)

pub returns-clause-place : goal.returns-clause-place
returns-clause-place c =
    omega (arith, place_within c.args.time c.args.calendar.now, ap (λ (rs : List Record). length rs) c.records-records.ensures.value, c.loop-place-test.false, c.loop-place.invariant)
