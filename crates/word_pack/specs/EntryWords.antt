-- The word of a descriptor's entry.
use Rattle.std.specs.Prelude.{◌≡◌, ℕ, ◌+◌, ◌^◌, ◌<◌}
use Rattle.word_pack.specs.declared.entry.EntryForm.{EntryForm}
use Rattle.word_pack.specs.Fields.{shifted}

-- the numbers of an entry fit their bits
pub record FitsEntry (form : EntryForm) : Type 0 where
  pub cell_fits : form.cell < 2 ^ 20
  pub old_fits : form.old < 2 ^ 22
  pub new_fits : form.new < 2 ^ 22

-- the word of an entry: the cell at bit 0, the old row at 20, the new row at 42
abbrev pub entry_word : EntryForm → ℕ
entry_word form = form.cell + shifted form.old 20 + shifted form.new 42

-- an entry that fits, and its word
pub record IsEntryWord (form : EntryForm) (word : ℕ) : Type 0 where
  pub fits : FitsEntry form
  pub packed : entry_word form ≡ word
