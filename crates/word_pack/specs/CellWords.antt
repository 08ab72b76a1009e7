-- The word of a cell.
use Rattle.std.specs.Prelude.{◌≡◌, ℕ, ◌^◌, ◌<◌}
use Rattle.word_pack.specs.declared.cell.CellForm.{CellForm}
use Rattle.word_pack.specs.declared.cell.CellForm.TheVariants.{Plain, Conditional, Reference}
use Rattle.word_pack.specs.Fields.{shifted}
use Rattle.word_pack.specs.References.{FitsConditional, FitsReference, conditional_word, reference_word}

-- the numbers of a form fit their bits
abbrev pub FitsCell : CellForm → Type 0
FitsCell (Plain row) = row < 2 ^ 22
FitsCell (Conditional entry descriptor helper fresh) = FitsConditional entry descriptor helper fresh
FitsCell (Reference entry descriptor) = FitsReference entry descriptor

-- the word of a form: a plain row stands at bit 2
abbrev pub cell_word : CellForm → ℕ
cell_word (Plain row) = shifted row 2
cell_word (Conditional entry descriptor helper fresh) = conditional_word entry descriptor helper fresh
cell_word (Reference entry descriptor) = reference_word entry descriptor

-- a form that fits, and its word
pub record IsCellWord (form : CellForm) (word : ℕ) : Type 0 where
  pub fits : FitsCell form
  pub packed : cell_word form ≡ word
