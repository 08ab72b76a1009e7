use Rattle.std.proofs.Common.{◌≡◌, drop, map}
use Rattle.std.specs.Option.{option_map}
use Rattle.command_line.specs.Options.{option_in}
use Rattle.command_line.specs.SortingView.{given}
use Rattle.command_line.proofs.OptionLemmas.{with_found}
use Rattle.command_line.proofs.options.option_in.Given as goal

abbrev pub invariant-loop-option : goal.invariant-loop-option
invariant-loop-option l = with_found l.low l.high l.name (option_map (λ v. v.now) l.found) (map given (drop l.option-index l.options)) ≡ option_in l.low l.high l.name (map given l.options)
