use Rattle.std.proofs.Common.{arith, sym}
use Rattle.calendars.proofs.PlaceLemmas.{last_begun-none, last_begun-at}
use Rattle.calendars.proofs.calendar.last_begun.Goals as goal

pub returns-in_err-place : goal.returns-in_err-place
returns-in_err-place c = rw c.from_residual.ensures (sym (last_begun-none c.args.time c.args.records.now (omega (arith, c.place_of.ensures.place, c.in_err-place.ensures))))

pub returns : goal.returns
returns c = sym (last_begun-at c.args.time c.args.records.now c.in_ok-place.place _ (omega (arith, c.place_of.ensures.place, c.in_ok-place.ensures)))
