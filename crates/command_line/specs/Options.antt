-- The values of options, and the numbers of a command line.
use Rattle.std.specs.Prelude.{ℕ, Bool, true, false, ◌&&◌, nat_le, if◌then◌else◌, List, [], ◌∷◌, filter, codes, Option, Some, None, unwrap_or}
use Rattle.std.specs.List.{list_all, list_any}
use Rattle.std.specs.Str.{bytes_eq}
use Rattle.text_lines.specs.Numbers.{number_of}
use Rattle.command_line.specs.Sorting.{Word}

infixl 10 ◌>>=◌
abbrev pub ◌>>=◌ : {A B : Type 0} → Option A → (A → Option B) → Option B
None >>= f = None
(Some x) >>= f = f x

-- nothing, where the test fails
abbrev pub need : Bool → Option (Unit {0})
need true = Some tt
need false = None

abbrev pub in_range : ℕ → ℕ → Option ℕ → Option ℕ
in_range low high None = None
in_range low high (Some n) = if nat_le low n && nat_le n high then Some n else None

-- the number that the word is, where it is one of the range
abbrev pub number_in : ℕ → ℕ → Word → Option ℕ
number_in low high word = in_range low high (number_of word)

-- each option has one of these names
abbrev pub are_among : List Word → List (Word × Word) → Bool
are_among names options = list_all (λ o. list_any (bytes_eq o.0) names) options

-- an option that may be left out, and is given once at most
abbrev pub single : ℕ → ℕ → List (Word × Word) → Option (Option ℕ)
single low high [] = Some None
single low high (o ∷ []) = number_in low high o.1 >>= λ n. Some (Some n)
single low high (o ∷ p ∷ ps) = None

-- the value of the option of this name
abbrev pub option_in : ℕ → ℕ → Word → List (Word × Word) → Option (Option ℕ)
option_in low high name options = single low high (filter (λ o. bytes_eq o.0 name) options)

-- how many workers there may be, and how many there are where nothing is said
abbrev pub most_workers : ℕ
most_workers = 16

abbrev pub usual_workers : ℕ
usual_workers = 4

-- the number of workers
abbrev pub workers_or : ℕ → List (Word × Word) → Option ℕ
workers_or default options = option_in 1 most_workers (codes "workers") options >>= λ n. Some (unwrap_or n default)

-- the greatest time at which a walk may arrive
abbrev pub horizon_of : List (Word × Word) → Option ℕ
horizon_of options = option_in 1 8000 (codes "horizon") options >>= λ n. Some (unwrap_or n 8000)

-- how many rows of a scenario are kept
abbrev pub take_of : List (Word × Word) → Option (Option ℕ)
take_of options = option_in 1 32767 (codes "take") options
