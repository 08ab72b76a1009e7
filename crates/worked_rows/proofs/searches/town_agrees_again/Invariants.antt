use Rattle.std.proofs.Common.{◌≡◌}
use Rattle.worked_rows.proofs.searches.town_agrees_again.Given as goal

abbrev pub invariant-loop-row : goal.invariant-loop-row
invariant-loop-row l = l.searcher.cells ≡ 64
