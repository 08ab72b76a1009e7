use Rattle.std.proofs.Common.{◌≡◌, ◌++◌}
use Rattle.std.specs.Prelude.{replicate}
use Rattle.sipp_search.proofs.back.push_hop.Given as goal

abbrev pub invariant-waits : goal.invariant-waits
invariant-waits l = l.cells.items ≡ l.initial.cells.items ++ replicate l._step l.from
