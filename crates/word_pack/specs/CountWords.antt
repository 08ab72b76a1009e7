-- The word of the cancellation count.
use Rattle.std.specs.Prelude.{◌≡◌, ℕ, ◌^◌, ◌<◌}
use Rattle.word_pack.specs.declared.count.CountForm.{CountForm}
use Rattle.word_pack.specs.declared.count.CountForm.TheVariants.{Plain, Conditional, Reference}
use Rattle.word_pack.specs.Fields.{shifted}
use Rattle.word_pack.specs.References.{FitsConditional, FitsReference, conditional_word, reference_word}

-- the numbers of a form fit their bits
abbrev pub FitsCount : CountForm → Type 0
FitsCount (Plain count) = count < 2 ^ 40
FitsCount (Conditional entry descriptor helper fresh) = FitsConditional entry descriptor helper fresh
FitsCount (Reference entry descriptor) = FitsReference entry descriptor

-- the word of a form: a plain count stands at bit 2
abbrev pub count_word : CountForm → ℕ
count_word (Plain count) = shifted count 2
count_word (Conditional entry descriptor helper fresh) = conditional_word entry descriptor helper fresh
count_word (Reference entry descriptor) = reference_word entry descriptor

-- a form that fits, and its word
pub record IsCountWord (form : CountForm) (word : ℕ) : Type 0 where
  pub fits : FitsCount form
  pub packed : count_word form ≡ word
