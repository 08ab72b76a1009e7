use Rattle.std.proofs.Common.{arith, ap, length, sym, ◌<◌, ◌≡◌, ◌+◌}
use Rattle.std.proofs.lemmas.List.{get_or_read, length-map}
use Rattle.plain_book.specs.Kept.{records_at}
use Rattle.plain_book.specs.Pool.{place_of}
use Rattle.plain_book.proofs.Pooling.{calendar_at}
use Rattle.plain_book.proofs.pool.CalendarPool.at.Goals as goal

pub returns-then-self : goal.returns-then-self
returns-then-self c =
    let places = c.self.inside.places.items in
    let pool = c.self.inside.pool.items in
    let here : c.args.cell.0 < length places = omega (arith, c.requires, length-map places (records_at pool), ap length c.self.view_is) in
    let next : place_of places c.args.cell.0 ≡ c.args.cell.0 + 1 = omega (arith, c.self.invariant.1 c.if-self.true c.args.cell.0 here) in
    calendar_at places pool c.self.invariant.0 c.args.self.now c.args.cell.0 (c.args.cell.0 + 1) c.index.result.now c.self.view_is c.requires next c.index.ensures

pub returns : goal.returns
returns c =
    let places = c.self.inside.places.items in
    let pool = c.self.inside.pool.items in
    let here : c.args.cell.0 < length places = omega (arith, c.requires, length-map places (records_at pool), ap length c.self.view_is) in
    let place : c.index-place.result.now ≡ place_of places c.args.cell.0 = get_or_read places c.args.cell.0 c.index-place.result.now here c.index-place.ensures 0 in
    calendar_at places pool c.self.invariant.0 c.args.self.now c.args.cell.0 c.index-place.result.now c.index-2.result.now c.self.view_is c.requires (sym place) c.index-2.ensures
