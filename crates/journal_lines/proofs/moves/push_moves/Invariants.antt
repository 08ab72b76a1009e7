use Rattle.std.proofs.Common.{◌≡◌, ◌%◌, ◌++◌, ◌∷◌, drop}
use Rattle.journal_lines.specs.Moves.{letters_of}
use Rattle.journal_lines.proofs.moves.push_moves.Given as goal

abbrev pub invariant-loop-to : goal.invariant-loop-to
invariant-loop-to l =
    (l.column ≡ l.from.0 % l.width)
    × (l.text.items ++ letters_of l.width (l.from ∷ drop l.to-index l.later) ≡ l.initial.text.items ++ letters_of l.width (l.initial.from ∷ l.later))
