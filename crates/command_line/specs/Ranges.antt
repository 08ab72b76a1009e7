-- The ranges of a command's numbers.
use Rattle.std.specs.Prelude.{ℕ, ◌*◌, ◌≤◌, IfSome}
use Rattle.command_line.specs.declared.command.Command.{Command}
use Rattle.command_line.specs.declared.command.Command.TheVariants.{One, Run, Orders, Gen, Check, Long, Turns}
use Rattle.command_line.specs.Options.{most_workers}

abbrev pub IsBetween : ℕ → ℕ → ℕ → Type 0
IsBetween low high n = (low ≤ n) × (n ≤ high)

-- each number of the command is one that it may be
abbrev pub IsInRange : {N : Type 0} → Command N → Type 0
IsInRange (One m a b c d) = ((a ≤ 2047) × (b ≤ 2047)) × ((c ≤ 2047) × (d ≤ 2047))
IsInRange (Run m s w h t) = IsBetween 1 most_workers w × IsBetween 1 8000 h × IfSome t (IsBetween 1 32767)
IsInRange (Orders m o w h) = IsBetween 1 most_workers w × IsBetween 1 8000 h
IsInRange (Gen w h p n s k l) =
    IsBetween 1 2048 w × IsBetween 1 2048 h × (w * h ≤ 1048576) × (p ≤ 100) × IsBetween 1 32767 n × IsBetween 1 most_workers k × IsBetween 1 8000 l
IsInRange (Check m o j h) = IsBetween 1 8000 h
IsInRange (Long m o h) = IsBetween 1 8000 h
IsInRange (Turns m o h) = IsBetween 1 8000 h
