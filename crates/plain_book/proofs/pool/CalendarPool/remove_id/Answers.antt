use Rattle.std.proofs.Common.{arith, ap, length, ◌≡◌, ◌<◌, []}
use Rattle.std.proofs.lemmas.List.{get_or_read, length-map}
use Rattle.calendars.specs.Records.{without_id}
use Rattle.plain_book.specs.Kept.{records_at}
use Rattle.plain_book.specs.Pool.{place_of}
use Rattle.plain_book.proofs.Pooling.{changed_by, in_pool}
use Rattle.plain_book.proofs.pool.CalendarPool.remove_id.Goals as goal

pub returns-then-place-gt0 : goal.returns-then-place-gt0
returns-then-place-gt0 c =
    let places = c.self.inside.places.items in
    let pool = c.self.inside.pool.items in
    let here : c.args.cell.0 < length places = omega (arith, c.requires, length-map places (records_at pool), ap length c.self.view_is) in
    let place : c.index.result.now ≡ place_of places c.args.cell.0 = get_or_read places c.args.cell.0 c.index.result.now here c.index.ensures 0 in
    changed_by places pool c.self.invariant.0 c.args.self.now (without_id c.args.id) c.args.cell.0 c.index.result.now c.index_mut.result.now c.remove_id.new.self c.self.view_is c.requires place
    c.if-place-gt0.true
    (get_or_read pool c.index.result.now c.index_mut.result.now (omega (arith, place, in_pool places pool c.self.invariant.0 c.args.cell.0)) c.index_mut.ensures.value []) c.remove_id.ensures
