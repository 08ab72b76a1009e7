-- The key by which a journal is sorted.
use Rattle.std.specs.Prelude.{true, false}
use Rattle.fleet_base.specs.declared.journal.JournalKey.{JournalKey}
use Rattle.fleet_base.specs.declared.request.Entry.{Entry}
use Rattle.fleet_base.specs.declared.request.Entry.TheVariants.{Commit, Cancel, NoRoute}

abbrev pub journal_key_of : Entry → JournalKey
journal_key_of (Commit id era q w) = record { era = era; cancel = false; stamp = id.stamp; caller = id.caller }
journal_key_of (Cancel id era) = record { era = era; cancel = true; stamp = 0; caller = id.caller }
journal_key_of (NoRoute stamp caller era q) = record { era = era; cancel = false; stamp = stamp; caller = caller }
