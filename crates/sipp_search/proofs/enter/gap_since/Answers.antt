use Rattle.safe_intervals.proofs.PlaceGaps.{none_after, gap_till_next, gap_till_horizon}
use Rattle.sipp_search.proofs.Places.{behind_begin}
use Rattle.sipp_search.proofs.enter.gap_since.Goals as goal

pub returns-then-next-begin-clause-gap : goal.returns-then-next-begin-clause-gap
returns-then-next-begin-clause-gap c =
    none_after c.args.records.now c.args.horizon c.args.place c.args.begin
    (behind_begin c.args.records.now c.args.horizon c.args.place c.args.begin c.requires.ordered c.requires.horizon c.requires.place c.requires.begin c.requires.within)
    _ c.if-place-records.true c.if-next-begin.true

pub returns-else-next-begin-clause-gap : goal.returns-else-next-begin-clause-gap
returns-else-next-begin-clause-gap c =
    gap_till_next c.args.records.now c.args.horizon c.args.place c.args.begin
    (behind_begin c.args.records.now c.args.horizon c.args.place c.args.begin c.requires.ordered c.requires.horizon c.requires.place c.requires.begin c.requires.within)
    _ _ c.if-place-records.true c.if-next-begin.false c.requires.within c.min-to.ensures

pub returns-else-place-records-clause-gap : goal.returns-else-place-records-clause-gap
returns-else-place-records-clause-gap c =
    gap_till_horizon c.args.records.now c.args.horizon c.args.place c.args.begin
    (behind_begin c.args.records.now c.args.horizon c.args.place c.args.begin c.requires.ordered c.requires.horizon c.requires.place c.requires.begin c.requires.within)
    c.if-place-records.false c.requires.within
