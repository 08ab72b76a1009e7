use Rattle.std.proofs.Common.{◌<◌, length, get_or, arith}
use Rattle.std.proofs.lemmas.List.{get_or_default}
use Rattle.std.proofs.lemmas.List.Edits.{map_over_more}
use Rattle.stamped_list.specs.Stamps.{number_above}
use Rattle.stamped_list.proofs.stamped.subtract_from_all.Goals as goal

pub loop-entry-preserved : goal.loop-entry-preserved
loop-entry-preserved c =
    let entries = c.loop-entry.entries in
    let index = c.loop-entry.entry-index in
    let within : index < length entries = omega arith in
    rw c.saturating_sub.ensures (
    map_over_more (number_above c.args.base) c.args.entries.now entries index (get_or entries index 0) c.loop-entry-test.true c.loop-entry.invariant
    (get_or_default entries index 0 (get_or entries index 0) within)
    )
