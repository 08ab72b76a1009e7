-- What a sink tells: the bytes written to it.
use Rattle.std.specs.Prelude.{◌≡◌, ℕ, ◌++◌, List, Option}
use Rattle.std.specs.Option.{option_map}

-- these bytes were written, where the sink tells its bytes
abbrev pub Writes : Option (List ℕ) → List ℕ → Option (List ℕ) → Type 0
Writes old piece new = new ≡ option_map (λ bytes. bytes ++ piece) old

-- a front of them was
abbrev pub WritesFront : Option (List ℕ) → List ℕ → Option (List ℕ) → Type 0
WritesFront old piece new = (front : List ℕ) × (rest : List ℕ) × (piece ≡ front ++ rest) × Writes old front new
