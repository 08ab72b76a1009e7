use Rattle.std.proofs.Common.{sym, ap, ◌∙◌}
use Rattle.calendars.proofs.PlaceLemmas.{covers-last_begun, passes}
use Rattle.calendars.specs.Records.{holds_time}
use Rattle.calendars.proofs.calendar.covers.Goals as goal

pub returns-in-Some : goal.returns-in-Some
returns-in-Some c = c.holds.ensures ∙ (ap (passes (holds_time c.args.time)) c.in-Some.ensures ∙ sym (covers-last_begun c.args.records.now c.args.time c.requires))

pub returns-in-None : goal.returns-in-None
returns-in-None c = ap (passes (holds_time c.args.time)) c.in-None.ensures ∙ sym (covers-last_begun c.args.records.now c.args.time c.requires)
