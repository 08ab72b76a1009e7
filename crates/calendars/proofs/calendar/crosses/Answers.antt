use Rattle.std.proofs.Common.{sym, ◌∙◌}
use Rattle.calendars.proofs.PlaceLemmas.{exchange-last_begun, no_leaver, no_swap, both_there}
use Rattle.calendars.proofs.calendar.crosses.Goals as goal

pub returns-in_default : goal.returns-in_default
returns-in_default c =
    sym (no_leaver _ _ c.args.time (sym c.in_default.ensures)) ∙ sym (exchange-last_begun c.args.from.now c.args.to.now c.args.time c.requires.from c.requires.to)

pub returns-in_default-last_begun : goal.returns-in_default-last_begun
returns-in_default-last_begun c =
    sym (no_swap _ _ c.args.time (sym c.in_default-last_begun.ensures)) ∙ sym (exchange-last_begun c.args.from.now c.args.to.now c.args.time c.requires.from c.requires.to)

pub returns : goal.returns
returns c =
    c.is_swap.ensures
    ∙ (sym (both_there _ _ c.in-Some.leaves.now c.in-Some-last_begun.comes.now c.args.time (sym c.in-Some.ensures) (sym c.in-Some-last_begun.ensures))
    ∙ sym (exchange-last_begun c.args.from.now c.args.to.now c.args.time c.requires.from c.requires.to))
