use Rattle.std.proofs.Common.{arith, sym, ◌∙◌, ◌≡◌, ◌+◌, ◌-◌, false}
use Rattle.calendars.specs.Records.{covers}
use Rattle.calendars.specs.Places.{place_in}
use Rattle.safe_intervals.proofs.Counting.{place_same}
use Rattle.sipp_search.proofs.Exchanges.{unbarred_inside}
use Rattle.sipp_search.proofs.enter.is_barred.Goals as goal

pub returns-then-entry-from-clause-barred : goal.returns-then-entry-from-clause-barred
returns-then-entry-from-clause-barred c =
    sym (unbarred_inside c.args.here.now c.args.there.now c.args.from.interval c.args.entry c.records-in_order.ensures.ordered (λ t at. (c.requires.here t at).0) c.requires.begun c.if-entry-from.true)

pub crossing_at-requires-clause-before : goal.crossing_at-requires-clause-before
crossing_at-requires-clause-before c = sym (c.requires.here (c.args.entry - 1) (omega arith, omega arith)).1

pub crossing_at-requires-clause-begun : goal.crossing_at-requires-clause-begun
crossing_at-requires-clause-begun c =
    let there = c.requires.there c.args.entry c.requires.lands in
    let e : c.args.entry - 1 + 1 ≡ c.args.entry = omega arith in
    let free : covers c.args.there.now (c.args.entry - 1 + 1) ≡ false = rw e there.0 in
    let place : place_in (c.args.entry - 1 + 1) c.args.there.now ≡ c.args.to.place = rw e there.1 in
    sym (place_same c.args.there.now (c.args.entry - 1) c.records-there_too.ensures.ordered free ∙ place)
