-- References to a descriptor's entry, in the word of a cell and in that of the count.
use Rattle.std.specs.Prelude.{ℕ, ◌+◌, ◌^◌, ◌<◌}
use Rattle.word_pack.specs.Fields.{shifted}

-- the numbers of a conditional reference fit their bits
pub record FitsConditional (entry descriptor helper fresh : ℕ) : Type 0 where
  pub entry_fits : entry < 2 ^ 11
  pub descriptor_fits : descriptor < 2 ^ 7
  pub helper_fits : helper < 2 ^ 5
  pub fresh_fits : fresh < 2 ^ 39

-- the numbers of a reference fit their bits
pub record FitsReference (entry descriptor : ℕ) : Type 0 where
  pub entry_fits : entry < 2 ^ 11
  pub descriptor_fits : descriptor < 2 ^ 7

-- the word of a conditional reference: the entry at bit 2, the descriptor at 13, the helper at 20, the install at 25
abbrev pub conditional_word : ℕ → ℕ → ℕ → ℕ → ℕ
conditional_word entry descriptor helper fresh = 1 + shifted entry 2 + shifted descriptor 13 + shifted helper 20 + shifted fresh 25

-- the word of a reference: the entry at bit 2, the descriptor at 13
abbrev pub reference_word : ℕ → ℕ → ℕ
reference_word entry descriptor = 2 + shifted entry 2 + shifted descriptor 13
