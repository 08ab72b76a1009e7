-- The places of a word, and where a flow over them goes.
use Rattle.std.specs.Prelude.{◌≡◌, ℕ, ◌+◌, ◌⊎◌, ◌↔◌}
use Rattle.std.specs.Int.{bit_at}

-- the place i of the word is set
abbrev pub IsSet : ℕ → ℕ → Type 0
IsSet word i = bit_at word i ≡ 1

-- From the seeds that are free it flows on over free places: to the next greater one from those that `up` has, to the next lesser one
-- from those that `down` has.
pub data Flows (seeds free up down : ℕ) : ℕ → Type 0 where
  begin : {i : ℕ} → IsSet seeds i → IsSet free i → Flows seeds free up down i
  rise : {i : ℕ} → Flows seeds free up down i → IsSet up i → IsSet free (i + 1) → Flows seeds free up down (i + 1)
  fall : {i : ℕ} → Flows seeds free up down (i + 1) → IsSet down (i + 1) → IsSet free i → Flows seeds free up down i

-- the word has exactly the places to which it flows
pub record IsFilled (seeds free up down word : ℕ) : Type 0 where
  pub all : (i : ℕ) → Flows seeds free up down i → IsSet word i
  pub only : (i : ℕ) → IsSet word i → Flows seeds free up down i

-- the place is next to one of the word's that lets the flow go there
abbrev pub LeadsTo : ℕ → ℕ → ℕ → ℕ → Type 0
LeadsTo word up down i = ((j : ℕ) × (i ≡ j + 1) × IsSet word j × IsSet up j) ⊎ (IsSet word (i + 1) × IsSet down (i + 1))

-- `more` has the free places to which it flows from those of the word, and which the word doesn't have
abbrev pub AreNext : ℕ → ℕ → ℕ → ℕ → ℕ → Type 0
AreNext word free up down more = (i : ℕ) → IsSet more i ↔ (LeadsTo word up down i × IsSet free i × ¬ (IsSet word i))
