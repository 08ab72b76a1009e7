use Rattle.std.proofs.Common.{◌≡◌, ◌++◌, None, drop}
use Rattle.journal_lines.specs.Places.{places_from}
use Rattle.journal_lines.proofs.order.place_lines.Given as goal

abbrev pub invariant-loop-answer : goal.invariant-loop-answer
invariant-loop-answer l = l.places.items ++ places_from l.head (drop l.answer-index l.numbered) ≡ places_from None l.numbered
