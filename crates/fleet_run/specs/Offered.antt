-- The commands that the program does already.
use Rattle.std.specs.Prelude.{Bool, true, false, List, Option, Some, None, if◌then◌else◌}
use Rattle.command_line.specs.declared.command.Command.{Command}
use Rattle.command_line.specs.declared.command.Command.TheVariants.{One, Run, Orders, Gen, Check, Long, Turns}
use Rattle.command_line.specs.Sorting.{Word}
use Rattle.command_line.specs.Words.{command_of}

-- a command that isn't offered yet is no command
abbrev pub is_offered : {N : Type 0} → Command N → Bool
is_offered (One m a b c d) = true
is_offered (Run m s w h t) = true
is_offered (Orders m o w h) = true
is_offered (Gen w h p o s k l) = true
is_offered (Check m o j h) = false
is_offered (Long m o h) = false
is_offered (Turns m o h) = false

abbrev pub only_offered : {N : Type 0} → Option (Command N) → Option (Command N)
only_offered None = None
only_offered (Some c) = if is_offered c then Some c else None

-- the command that the words are, if they are one that is offered
abbrev pub offered_of : List Word → Option (Command Word)
offered_of words = only_offered (command_of words)
