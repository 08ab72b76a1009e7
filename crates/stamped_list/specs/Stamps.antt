-- What entries are seen as: a number stands as its sum with a base.
use Rattle.std.specs.Prelude.{ℕ, ◌-◌, ◌≤◌, List}
use Rattle.std.specs.List.{All}

-- how far an entry is above the base, or 0 where it isn't
abbrev pub number_above : ℕ → ℕ → ℕ
number_above base entry = entry - base

-- neither the base nor an entry is above the top
pub record IsTop (top base : ℕ) (entries : List ℕ) : Type 0 where
  pub covers_base : base ≤ top
  pub covers_entries : All (λ (entry : ℕ). entry ≤ top) entries
