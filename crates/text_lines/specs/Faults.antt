-- How a grammar is written: step after step in reading order, up to the first fault.
use Rattle.std.specs.Prelude.{◌≡◌, ℕ, Bool, Option, Some, None, Result, Ok, Err, if◌then◌else◌}

-- a step, and what follows where it has no fault
infixl 10 ◌>>=◌
abbrev pub ◌>>=◌ : {A B E : Type 0} → Result A E → (A → Result B E) → Result B E
(Ok x) >>= f = f x
(Err e) >>= f = Err e

-- what has to hold, and its fault
abbrev pub need : {K : Type 0} → Bool → K → Result (Unit {0}) K
need test kind = if test then Ok tt else Err kind

-- a fault of a text: the number of a line, and what is wrong with it
pub record Fault (K : Type 0) : Type 0 where
  pub line : ℕ
  pub kind : K

-- the answer of one line, as that of the text
abbrev pub at : {A K : Type 0} → ℕ → Result A K → Result A (Fault K)
at line (Ok x) = Ok x
at line (Err kind) = Err (record { line = line; kind = kind })

-- the fault that was reported is the grammar's; one that isn't of the text may come at any time
abbrev pub GivesFault : {Y K : Type 0} → Option (Fault K) → Result Y (Fault K) → Type 0
GivesFault None wanted = Unit {0}
GivesFault (Some fault) wanted = wanted ≡ Err fault

-- what a reader answered, seen by view, is what the grammar gives
abbrev pub Gives : {X Y E K : Type 0} → (E → Option (Fault K)) → (X → Y) → Result X E → Result Y (Fault K) → Type 0
Gives fault_of view (Ok x) wanted = wanted ≡ Ok (view x)
Gives fault_of view (Err e) wanted = GivesFault (fault_of e) wanted
