use Rattle.std.proofs.Common.{◌≡◌, ap, sym, subst, List}
use Rattle.std.specs.Prelude.{IsPermutation, ◌∷◌}
use Rattle.fleet_base.specs.declared.request.RouteId.{RouteId}
use Rattle.fleet_base.specs.TimedWalk.{TimedWalk}
use Rattle.plain_book.specs.Kept.{routes_of, AreCalendarsOf}
use Rattle.plain_book.specs.Changes.{LacksId}
use Rattle.plain_book.proofs.Keeping.{calendars_undo, calendars_added, untaken_in_calendars}
use Rattle.plain_book.proofs.Entries.{insert_permutes}
use Rattle.plain_book.proofs.routes.add_route.Goals as goal

pub put_in-requires-clause-free : goal.put_in-requires-clause-free
put_in-requires-clause-free c = untaken_in_calendars c.args.walk (routes_of c.args.routes.now.entries) c.args.calendars.now c.requires.calendars c.requires.route.free

pub returns-in-Ok-insert-clause-ok : goal.returns-in-Ok-insert-clause-ok
returns-in-Ok-insert-clause-ok c =
    subst (λ (es : List (RouteId × TimedWalk)). IsPermutation (routes_of es) (record { id = c.args.id; walk = c.args.walk } ∷ routes_of c.args.routes.now.entries))
    (sym c.in-Ok-insert.ensures.entries) (insert_permutes c.args.routes.now.entries c.args.id c.args.walk c.requires.route.new_id)

pub returns-in-Ok-insert-clause-calendars : goal.returns-in-Ok-insert-clause-calendars
returns-in-Ok-insert-clause-calendars c =
    calendars_added (record { id = c.args.id; walk = c.args.walk }) (routes_of c.args.routes.now.entries) (routes_of c.insert.new.self.entries) c.args.calendars.now c.put_in.new.calendars
    (returns-in-Ok-insert-clause-ok c) c.requires.calendars c.in-Ok.ensures.ok

pub returns-in-Ok-clause-calendars : goal.returns-in-Ok-clause-calendars
returns-in-Ok-clause-calendars c =
    let same : c.in-Err-insert.refused.value.1 ≡ c.args.walk = ap (λ (p : RouteId × TimedWalk). p.1) c.in-Err-insert.ensures.value_returned in
    subst (λ (es : List (RouteId × TimedWalk)). AreCalendarsOf (routes_of es) c.take_out.new.calendars) (sym c.in-Err-insert.ensures.err)
    (calendars_undo c.args.id c.args.walk (routes_of c.args.routes.now.entries) c.args.calendars.now c.put_in.new.calendars c.take_out.new.calendars c.requires.route.new_id c.requires.calendars
    c.in-Ok.ensures.ok.rest (subst (λ (w : TimedWalk). LacksId c.args.id w.cells c.put_in.new.calendars c.take_out.new.calendars) same c.take_out.ensures.lacks))

pub returns-clause-calendars : goal.returns-clause-calendars
returns-clause-calendars c =
    calendars_undo c.args.id c.args.walk (routes_of c.args.routes.now.entries) c.args.calendars.now c.put_in.new.calendars c.take_out-in-Err.new.calendars c.requires.route.new_id
    c.requires.calendars c.in-Err.ensures.refused c.take_out-in-Err.ensures.lacks
