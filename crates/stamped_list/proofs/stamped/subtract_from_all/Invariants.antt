use Rattle.std.proofs.Common.{◌≡◌, map, take, drop, ◌++◌}
use Rattle.stamped_list.specs.Stamps.{number_above}
use Rattle.stamped_list.proofs.stamped.subtract_from_all.Given as goal

abbrev pub invariant-loop-entry : goal.invariant-loop-entry
invariant-loop-entry l =
    l.entries ≡ map (number_above l.base) (take l.entry-index l.fn.entries) ++ drop l.entry-index l.fn.entries
