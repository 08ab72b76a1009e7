use Rattle.std.proofs.Common.{rules, ◌≡◌, ◌∙◌, [], replicate}
use Rattle.plain_book.specs.Pool.{calendars_in}
use Rattle.plain_book.proofs.Pooling.{calendars_none_yet}
use Rattle.plain_book.proofs.pool.CalendarPool.new.Goals as goal
use Rattle.plain_book.proofs.pool.CalendarPool.new.Goals.{then-few+in_ok-own_places, else-few}

pub returns : goal.returns
returns c =
    let first : c.in_ok-places.places.items ≡ replicate c.args.count 0 = search rules in
    let shared : calendars_in c.push.new.self.items c.in_ok-places.places.items ≡ replicate c.args.count [] =
    rw (c.in_ok-push.ensures.items, c.new-pool.ensures.items, c.new.ensures) (calendars_none_yet c.args.count c.in_ok-places.places.items first) in
    elim c.if-few.branch [
      | then-few+in_ok-own_places w ↦ rw (w.places-is, w.pool-is) (w.in_ok-own_places.ensures.same ∙ shared)
      | else-few w ↦ rw (w.places-is, w.pool-is) shared
    ]
