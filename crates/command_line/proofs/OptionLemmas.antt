-- Looking for an option among those that were given.
use Rattle.std.proofs.Common.{ℕ, List, ◌∷◌, Option, Some, None}
use Rattle.std.specs.Prelude.{filter}
use Rattle.std.specs.Str.{bytes_eq}
use Rattle.command_line.specs.Sorting.{Word}
use Rattle.command_line.specs.Options.{option_in, single}

-- the option that was found, and those that are still looked at
abbrev pub with_found : ℕ → ℕ → Word → Option Word → List (Word × Word) → Option (Option ℕ)
with_found low high name None rest = option_in low high name rest
with_found low high name (Some v) rest = single low high ((name, v) ∷ filter (λ o. bytes_eq o.0 name) rest)
