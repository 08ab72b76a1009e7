-- A shelf in memory: its state, and what each fetch answers.
use Rattle.std.specs.Prelude.{◌≡◌, ℕ, nat_lt, List, length, if◌then◌else◌, Option, Some, None, Result, Ok, Err, Vec}
use Rattle.fleet_io.specs.declared.shelf.ShelfFault.{ShelfFault}
use Rattle.fleet_io.specs.declared.shelf.ShelfFault.TheVariants.{Failed, TooLong, Memory}
use Rattle.fleet_io.specs.Counts.{raised, is_failing}
use Rattle.fleet_io.specs.Files.{NamedFile, content_of, failed_after}

-- the files, the numbers of the fetches that fail, the number of the next fetch, the names that failed
pub record ShelfState : Type 0 where
  pub files : List NamedFile
  pub failing : List ℕ
  pub next : ℕ
  pub failed : List (List ℕ)

-- what a file that was looked up gives: it is there, and within the limit
abbrev pub found : ℕ → Option (List ℕ) → Result (List ℕ) ShelfFault
found limit None = Err Failed
found limit (Some bytes) = if nat_lt limit (length bytes) then Err TooLong else Ok bytes

-- what the next fetch answers, unless memory runs out
abbrev pub fetch_of : ShelfState → List ℕ → ℕ → Result (List ℕ) ShelfFault
fetch_of s name limit = if is_failing s.next s.failing then Err Failed else found limit (content_of s.files name)

-- the shelf after that fetch
abbrev pub state_after : {T : Type 0} → ShelfState → List ℕ → Result T ShelfFault → ShelfState
state_after s name result = record s { next = raised s.next; failed = failed_after s.failed name result }

-- the answer is the one that is due, or memory ran out
abbrev pub Gives : {Y : Type 0} → Result (Vec ℕ Y) ShelfFault → Result (List ℕ) ShelfFault → Type 0
Gives (Ok bytes) due = due ≡ Ok bytes.items
Gives (Err Failed) due = due ≡ Err Failed
Gives (Err TooLong) due = due ≡ Err TooLong
Gives (Err Memory) due = Unit {0}
