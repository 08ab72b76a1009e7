use Rattle.std.proofs.Common.{arith, ◌≡◌, length}
use Rattle.std.proofs.lemmas.List.{get_or_read}
use Rattle.plain_book.specs.Pool.{place_of}
use Rattle.plain_book.proofs.Pooling.{calendars_same}
use Rattle.plain_book.proofs.pool.own_place.Goals as goal

pub returns-clause-same : goal.returns-clause-same
returns-clause-same c =
    let places = c.args.places.now.items in
    let pool = c.args.pool.now.items in
    let first : place_of places c.args.cell.0 ≡ 0 = omega (arith, get_or_read places c.args.cell.0 c.index.result.now c.requires.inside c.index.ensures 0) in
    let next : c.len-next.result ≡ length pool = omega (arith, c.len-next.ensures) in
    calendars_same places pool c.requires.pool c.args.cell.0 c.requires.inside c.len-next.result c.new.result c.push.new.self.items next c.new.ensures c.in_ok-push.ensures.items first
