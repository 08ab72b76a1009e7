-- Counts of calls and of faults, each kept in 64 bits.
use Rattle.std.specs.Prelude.{ℕ, ◌+◌, ◌-◌, ◌^◌, ◌≤◌, ◌==◌, Bool, List, min, Result, OnErr}
use Rattle.std.specs.List.{list_any}

-- one more, where the count isn't at its end
abbrev pub raised : ℕ → ℕ
raised count = min (count + 1) (2 ^ 64 - 1)

-- whether a call's number is among those that fail
abbrev pub is_failing : ℕ → List ℕ → Bool
is_failing number failing = list_any (λ n. n == number) failing

-- a fault comes only where the count of faults rose
pub record HasCause {T E : Type 0} (before now : ℕ) (result : Result T E) : Type 0 where
  pub later : before ≤ now
  pub rose : OnErr result (raised before ≤ now)
