use Rattle.std.proofs.Common.{arith, ◌∙◌, []}
use Rattle.std.proofs.lemmas.List.{get_or_read}
use Rattle.calendars.specs.Records.{with_record}
use Rattle.plain_book.proofs.Pooling.{changed_by, in_pool}
use Rattle.plain_book.proofs.pool.CalendarPool.insert.Goals as goal

pub returns-clause-ok : goal.returns-clause-ok
returns-clause-ok c =
    let places = c.own_place.new.places.items in
    let pool = c.own_place.new.pool.items in
    let is = c.in_ok-place.ensures.pool in
    let own = c.in_ok-place.ensures.own in
    changed_by places pool is c.args.self.now (with_record c.args.added) c.args.cell.0 c.in_ok-place.place c.index_mut.result.now c.insert_in.new.calendar
    (c.in_ok-place.ensures.same ∙ c.self.view_is) c.requires.inside own.0 own.1
    (get_or_read pool c.in_ok-place.place c.index_mut.result.now (omega (arith, own.0, in_pool places pool is c.args.cell.0)) c.index_mut.ensures.value []) c.in_ok-insert_in.ensures.ok
