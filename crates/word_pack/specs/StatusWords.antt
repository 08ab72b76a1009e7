-- The status word of a descriptor.
use Rattle.std.specs.Prelude.{◌≡◌, ℕ, ◌+◌, ◌^◌, ◌<◌, if◌then◌else◌}
use Rattle.word_pack.specs.declared.status.StatusForm.{StatusForm}
use Rattle.word_pack.specs.declared.status.StatusForm.TheVariants.{Idle, Undecided, Succeeded, Failed}
use Rattle.word_pack.specs.Fields.{shifted}

-- the numbers of a form fit their bits
abbrev pub FitsStatus : StatusForm → Type 0
FitsStatus Idle = Unit {0}
FitsStatus Undecided = Unit {0}
FitsStatus Succeeded = Unit {0}
FitsStatus (Failed entry held) = entry < 2 ^ 11

-- the word of a form: of a failure the entry stands at bit 2, and the mark for a hold at 13
abbrev pub status_word : StatusForm → ℕ
status_word Idle = 0
status_word Undecided = 1
status_word Succeeded = 2
status_word (Failed entry held) = 3 + shifted entry 2 + shifted (if held then 1 else 0) 13

-- a form that fits, and its word
pub record IsStatusWord (form : StatusForm) (word : ℕ) : Type 0 where
  pub fits : FitsStatus form
  pub packed : status_word form ≡ word
