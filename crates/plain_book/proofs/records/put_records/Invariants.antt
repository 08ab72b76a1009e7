use Rattle.std.proofs.Common.{◌≡◌, length, take}
use Rattle.plain_book.specs.Changes.{HasAll}
use Rattle.plain_book.proofs.records.put_records.Given as goal

abbrev pub invariant-loop-stay : goal.invariant-loop-stay
invariant-loop-stay l = record {
  size : length l.calendars ≡ length l.initial.calendars;
  all : HasAll l.initial.calendars l.calendars (take l.stay-index l.stays);
}
