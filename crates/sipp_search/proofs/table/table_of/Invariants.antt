use Rattle.std.proofs.Common.{◌≡◌, take}
use Rattle.sipp_search.specs.Tabled.{table_from}
use Rattle.sipp_search.proofs.table.table_of.Given as goal

abbrev pub invariant-loop-state : goal.invariant-loop-state
invariant-loop-state l = l.settled.items ≡ table_from (take l.state-index l.states)
