use Rattle.std.proofs.Common.{◌≡◌}
use Rattle.worked_rows.proofs.searches.one_searcher_agrees_with_layers.Given as goal

abbrev pub invariant-loop-number : goal.invariant-loop-number
invariant-loop-number g l = l.searcher.cells ≡ 64
