-- The first word of a row.
use Rattle.std.specs.Prelude.{◌≡◌, ℕ, ◌+◌, ◌^◌, ◌<◌}
use Rattle.word_pack.specs.declared.row_head.RowHead.{RowHead}
use Rattle.word_pack.specs.Fields.{field, shifted}

-- the numbers of a row's head fit their bits
pub record FitsRowHead (head : RowHead) : Type 0 where
  pub count_fits : head.count < 2 ^ 4
  pub next_fits : head.next < 2 ^ 22

-- the word of a row's head: the number of records at bit 0, the next row at 4
abbrev pub row_head_word : RowHead → ℕ
row_head_word head = head.count + shifted head.next 4

-- the row's head in the bits of any word
abbrev pub row_head_of : ℕ → RowHead
row_head_of word = record { count = field word 0 4; next = field word 4 22 }

-- a row's head that fits, and its word
pub record IsRowHeadWord (head : RowHead) (word : ℕ) : Type 0 where
  pub fits : FitsRowHead head
  pub packed : row_head_word head ≡ word
