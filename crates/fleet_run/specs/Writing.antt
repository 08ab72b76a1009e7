-- A text that is written piece by piece.
use Rattle.std.specs.Prelude.{◌≡◌, ℕ, ◌≤◌, ◌⊎◌, ◌++◌, List, Option, Result, Ok, Err}
use Rattle.fleet_io.specs.Written.{Writes, WritesFront}
use Rattle.fleet_run.specs.declared.writing.WriteStop.{WriteStop}
use Rattle.fleet_run.specs.declared.writing.WriteStop.TheVariants.{SinkFailed, NoMemory}
use Rattle.fleet_run.specs.Ended.{HasRisen}

-- the text was written but for this rest of it, and no count of faults fell
pub record IsWritingOn (old : Option (List ℕ)) (faults : ℕ) (new : Option (List ℕ)) (faults_now : ℕ) (text rest : List ℕ) : Type 0 where
  pub front : List ℕ
  pub is : text ≡ front ++ rest
  pub written : Writes old front new
  pub later : faults ≤ faults_now

-- where not all was written, a front of the text was, and a failed write raised the count of faults
abbrev pub IsCut : {T : Type 0} → Option (List ℕ) → ℕ → List ℕ → Option (List ℕ) → ℕ → Result T WriteStop → Type 0
IsCut old faults text new now (Ok done) = Unit {0}
IsCut old faults text new now (Err SinkFailed) = WritesFront old text new × HasRisen faults now
IsCut old faults text new now (Err NoMemory) = WritesFront old text new

-- The same where the text isn't known yet: a front of one of these texts was written, and before any was known nothing.
abbrev pub IsCutOf : {T : Type 0} → (List ℕ → Type 0) → Option (List ℕ) → ℕ → Option (List ℕ) → ℕ → Result T WriteStop → Type 0
IsCutOf Text old faults new now (Ok done) = Unit {0}
IsCutOf Text old faults new now (Err SinkFailed) = ((text : List ℕ) × Text text × WritesFront old text new) × HasRisen faults now
IsCutOf Text old faults new now (Err NoMemory) = (new ≡ old) ⊎ ((text : List ℕ) × Text text × WritesFront old text new)

-- all of one of these texts was written
abbrev pub WritesOne : (List ℕ → Type 0) → Option (List ℕ) → Option (List ℕ) → Type 0
WritesOne Text old new = (text : List ℕ) × Text text × Writes old text new
