use Rattle.std.proofs.Common.{◌≡◌, drop, map}
use Rattle.command_line.specs.Options.{are_among}
use Rattle.command_line.specs.SortingView.{given}
use Rattle.command_line.proofs.options.are_among.Given as goal

abbrev pub invariant-loop-option : goal.invariant-loop-option
invariant-loop-option l = are_among (map (λ n. n.now) l.names) (map given (drop l.option-index l.options)) ≡ are_among (map (λ n. n.now) l.names) (map given l.options)
