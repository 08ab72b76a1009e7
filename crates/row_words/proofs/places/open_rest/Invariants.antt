use Rattle.std.proofs.Common.{◌≤◌}
use Rattle.row_words.specs.Cells.{HasOpen}
use Rattle.row_words.proofs.places.open_rest.Given as goal

abbrev pub invariant-loop-place : goal.invariant-loop-place
invariant-loop-place l = record { from : l.from ≤ l.place; has : HasOpen l.cells 0 l.from l.place l.word }
