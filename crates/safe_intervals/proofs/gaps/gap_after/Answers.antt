use Rattle.std.proofs.lemmas.List.{take_rest}
use Rattle.safe_intervals.proofs.GapLemmas.{found_place, found_past, found_start, next_from_place}
use Rattle.safe_intervals.proofs.gaps.gap_after.Goals as goal

pub returns-then-begun-eq0 : goal.returns-then-begun-eq0
returns-then-begun-eq0 c =
    found_start c.args.calendar.now _ c.args.from c.args.horizon c.args.begun _ c.records-records.ensures.value c.records-records.ensures.ordered
    c.requires.begun c.if-begun-eq0.true c.if-from-horizon.false c.first_gap.ensures

pub returns-then-last-horizon : goal.returns-then-last-horizon
returns-then-last-horizon c =
    found_past c.args.calendar.now _ c.args.from c.args.horizon c.args.begun _ c.records-records.ensures.value
    c.requires.begun c.if-begun-eq0.false c.requires.within c.if-last-horizon.true

pub first_gap-requires-2-clause-ordered : goal.first_gap-requires-2-clause-ordered
first_gap-requires-2-clause-ordered c = simp take_rest
    (found_place c.args.calendar.now _ c.args.from c.args.horizon c.args.begun _ c.records-records.ensures.value c.records-records.ensures.ordered
    c.requires.begun c.if-begun-eq0.false c.if-last-horizon.false c.requires.horizon).order

pub returns : goal.returns
returns c =
    next_from_place c.args.calendar.now _ c.args.from _ c.args.horizon _ c.if-from-horizon.false
    (found_place c.args.calendar.now _ c.args.from c.args.horizon c.args.begun _ c.records-records.ensures.value c.records-records.ensures.ordered
    c.requires.begun c.if-begun-eq0.false c.if-last-horizon.false c.requires.horizon) (simp take_rest at c.first_gap-2.ensures)
