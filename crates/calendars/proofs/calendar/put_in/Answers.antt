use Rattle.std.proofs.Common.{◌≡◌}
use Rattle.std.specs.List.{insert}
use Rattle.calendars.specs.Places.{place_in}
use Rattle.calendars.specs.Records.{with_record}
use Rattle.calendars.proofs.PlaceLemmas.{insert-place_in}
use Rattle.calendars.proofs.calendar.put_in.Goals as goal

pub returns-in-Ok-clause-ok : goal.returns-in-Ok-clause-ok
returns-in-Ok-clause-ok c =
    let same : c.make_room.new.records.items ≡ c.args.records.now.items = c.make_room.ensures in
    let place : c.place_of-place.result ≡ place_in c.args.added.from c.args.records.now.items = rw (c.as_slice.ensures.value, same) at c.place_of-place.ensures.place in
    let put : insert c.args.records.now.items (place_in c.args.added.from c.args.records.now.items) c.args.added ≡ with_record c.args.added c.args.records.now.items = insert-place_in c.args.added c.args.records.now.items in
    cc (c.in-Ok.ensures.items, same)
