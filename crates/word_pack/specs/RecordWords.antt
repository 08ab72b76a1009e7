-- The word of a record.
use Rattle.std.specs.Prelude.{◌≡◌, ℕ, ◌+◌, ◌^◌, ◌<◌}
use Rattle.word_pack.specs.declared.record.RecordForm.{RecordForm}
use Rattle.word_pack.specs.Fields.{shifted}

-- the numbers of a record fit their bits
pub record FitsRecord (form : RecordForm) : Type 0 where
  pub from_fits : form.from < 2 ^ 16
  pub to_fits : form.to < 2 ^ 16
  pub stamp_fits : form.stamp < 2 ^ 26
  pub caller_fits : form.caller < 2 ^ 6

-- the word of a record: the first time at bit 0, the last at 16, the stamp at 32, the caller at 58
abbrev pub record_word : RecordForm → ℕ
record_word form = form.from + shifted form.to 16 + shifted form.stamp 32 + shifted form.caller 58

-- a record that fits, and its word
pub record IsRecordWord (form : RecordForm) (word : ℕ) : Type 0 where
  pub fits : FitsRecord form
  pub packed : record_word form ≡ word
