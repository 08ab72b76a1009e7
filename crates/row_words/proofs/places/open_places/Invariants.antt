use Rattle.std.proofs.Common.{◌≤◌, ◌+◌, ◌-◌, length}
use Rattle.row_words.specs.Cells.{HasOpen}
use Rattle.row_words.proofs.places.open_places.Given as goal

abbrev pub invariant-loop-place : goal.invariant-loop-place
invariant-loop-place l = record { inside : l.place ≤ length l.cells; has : HasOpen l.cells 0 0 l.place l.word }

abbrev pub decreases-loop-place : goal.decreases-loop-place
decreases-loop-place l = length l.cells + 1 - l.place
