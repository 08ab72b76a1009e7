-- Two forms that fit and have one word are one form: the facts of `packing_law`, for proofs that have no call of it.
use Rattle.std.proofs.Common.{arith}
use Rattle.std.proofs.lemmas.Grind.{common_steps}
use Rattle.word_pack.specs.Packing.{IsOneToOne}
use Rattle.word_pack.specs.CellWords.{FitsCell, cell_word}
use Rattle.word_pack.specs.CountWords.{FitsCount, count_word}
use Rattle.word_pack.specs.StatusWords.{FitsStatus, status_word}
use Rattle.word_pack.specs.EntryWords.{FitsEntry, entry_word}
use Rattle.word_pack.specs.RecordWords.{FitsRecord, record_word}
use Rattle.word_pack.specs.RowHeadWords.{FitsRowHead, row_head_word}

pub cells_one_to_one : IsOneToOne FitsCell cell_word
cells_one_to_one = grind (arith, common_steps)

pub counts_one_to_one : IsOneToOne FitsCount count_word
counts_one_to_one = grind (arith, common_steps)

pub statuses_one_to_one : IsOneToOne FitsStatus status_word
statuses_one_to_one = grind (arith, common_steps)

pub entries_one_to_one : IsOneToOne FitsEntry entry_word
entries_one_to_one = grind (arith, common_steps)

pub records_one_to_one : IsOneToOne FitsRecord record_word
records_one_to_one = grind (arith, common_steps)

pub row_heads_one_to_one : IsOneToOne FitsRowHead row_head_word
row_heads_one_to_one = grind (arith, common_steps)
