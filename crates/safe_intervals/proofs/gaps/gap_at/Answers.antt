use Rattle.std.proofs.Common.{arith}
use Rattle.safe_intervals.proofs.PlaceGaps.{BeginsAt, found_none, found_last, found_reaching, none_after, gap_till_next, gap_till_horizon}
use Rattle.safe_intervals.proofs.gaps.gap_at.Goals.{then-place-gt0+else-last-horizon, else-place-gt0}
use Rattle.safe_intervals.proofs.gaps.gap_at.Goals as goal

pub returns-then-last-horizon : goal.returns-then-last-horizon
returns-then-last-horizon c =
    found_reaching c.args.calendar.now _ c.args.place c.args.horizon _ c.records-records.ensures.value c.if-place-gt0.true c.requires.place c.if-last-horizon.true

pub returns-then-next-from : goal.returns-then-next-from
returns-then-next-from c =
    none_after c.args.calendar.now c.args.horizon c.args.place c.if-place-gt0.from begins.0 _ (rw c.records-records.ensures.value at c.if-place-records.true)
    (rw c.records-records.ensures.value at c.if-next-from.true) where
      begins : BeginsAt c.args.calendar.now c.args.horizon c.args.place c.if-place-gt0.from
      begins = elim c.if-place-gt0.branch [
        | then-place-gt0+else-last-horizon w ↦
            found_last c.args.calendar.now _ c.args.horizon c.args.place _ _ c.records-records.ensures.value c.records-records.ensures.ordered w.if-place-gt0.true
            c.requires.place c.requires.horizon w.if-last-horizon.false w.from-is
        | else-place-gt0 w ↦ found_none c.args.calendar.now c.args.horizon c.args.place _ c.records-records.ensures.ordered (omega (arith, w.if-place-gt0.false)) w.from-is
      ]

pub returns-else-next-from : goal.returns-else-next-from
returns-else-next-from c =
    gap_till_next c.args.calendar.now c.args.horizon c.args.place c.if-place-gt0.from begins.0 _ _ (rw c.records-records.ensures.value at c.if-place-records.true)
    (rw c.records-records.ensures.value at c.if-next-from.false) begins.1 (rw c.records-records.ensures.value at c.min-to.ensures) where
      begins : BeginsAt c.args.calendar.now c.args.horizon c.args.place c.if-place-gt0.from
      begins = elim c.if-place-gt0.branch [
        | then-place-gt0+else-last-horizon w ↦
            found_last c.args.calendar.now _ c.args.horizon c.args.place _ _ c.records-records.ensures.value c.records-records.ensures.ordered w.if-place-gt0.true
            c.requires.place c.requires.horizon w.if-last-horizon.false w.from-is
        | else-place-gt0 w ↦ found_none c.args.calendar.now c.args.horizon c.args.place _ c.records-records.ensures.ordered (omega (arith, w.if-place-gt0.false)) w.from-is
      ]

pub returns-else-place-records : goal.returns-else-place-records
returns-else-place-records c =
    gap_till_horizon c.args.calendar.now c.args.horizon c.args.place c.if-place-gt0.from begins.0 (rw c.records-records.ensures.value at c.if-place-records.false) begins.1 where
      begins : BeginsAt c.args.calendar.now c.args.horizon c.args.place c.if-place-gt0.from
      begins = elim c.if-place-gt0.branch [
        | then-place-gt0+else-last-horizon w ↦
            found_last c.args.calendar.now _ c.args.horizon c.args.place _ _ c.records-records.ensures.value c.records-records.ensures.ordered w.if-place-gt0.true
            c.requires.place c.requires.horizon w.if-last-horizon.false w.from-is
        | else-place-gt0 w ↦ found_none c.args.calendar.now c.args.horizon c.args.place _ c.records-records.ensures.ordered (omega (arith, w.if-place-gt0.false)) w.from-is
      ]
