use Rattle.std.proofs.Common.{◌≡◌, length, take}
use Rattle.plain_book.specs.Changes.{LacksId}
use Rattle.plain_book.proofs.records.take_out.Given as goal

abbrev pub invariant-loop-place : goal.invariant-loop-place
invariant-loop-place l = record {
  size : length l.calendars ≡ length l.initial.calendars;
  lacks : LacksId l.id (take l.place l.cells) l.initial.calendars l.calendars;
}
