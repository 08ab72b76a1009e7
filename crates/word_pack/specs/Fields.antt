-- Numbers in the bits of a word.
use Rattle.std.specs.Prelude.{ℕ, ◌*◌, ◌/◌, ◌%◌, ◌^◌}

-- the number that stands in a word from a bit on, in so many bits
abbrev pub field : ℕ → ℕ → ℕ → ℕ
field word at bits = word / 2 ^ at % 2 ^ bits

-- a number put at a bit
abbrev pub shifted : ℕ → ℕ → ℕ
shifted number at = number * 2 ^ at
