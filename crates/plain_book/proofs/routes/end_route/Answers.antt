use Rattle.std.proofs.Common.{ap, ◌∙◌, sym}
use Rattle.std.proofs.lemmas.Bool.{false≢true}
use Rattle.std.proofs.Common.{refl, subst, List}
use Rattle.fleet_base.specs.declared.request.Live.{Live}
use Rattle.plain_book.specs.Kept.{routes_of, AreCalendarsOf}
use Rattle.plain_book.proofs.Keeping.{calendars_end, placed_inside}
use Rattle.plain_book.proofs.Entries.{remove_filters, none_live, some_live, route_at, each_once}
use Rattle.plain_book.proofs.routes.end_route.Goals as goal

pub returns-in_default-clause-was_live : goal.returns-in_default-clause-was_live
returns-in_default-clause-was_live c = ((λ h. absurd (false≢true h)), (λ live. absurd (none_live c.args.id c.args.routes.now.entries c.in_default.ensures.value live)))

pub returns-in_default-clause-routes : goal.returns-in_default-clause-routes
returns-in_default-clause-routes c = ap routes_of c.remove.ensures.entries ∙ remove_filters c.args.id c.args.routes.now.entries c.requires.ordered

pub take_out-requires : goal.take_out-requires
take_out-requires c =
    let live = route_at c.args.id c.in-Some.walk c.args.routes.now.entries (sym c.in-Some.ensures.value) in
    placed_inside (record { id = c.args.id; walk = c.in-Some.walk }) c.args.calendars.now (c.requires.calendars.whole (record { id = c.args.id; walk = c.in-Some.walk }) live)

pub returns-clause-routes : goal.returns-clause-routes
returns-clause-routes c = ap routes_of c.remove.ensures.entries ∙ remove_filters c.args.id c.args.routes.now.entries c.requires.ordered

pub returns-clause-calendars : goal.returns-clause-calendars
returns-clause-calendars c =
    let live = route_at c.args.id c.in-Some.walk c.args.routes.now.entries (sym c.in-Some.ensures.value) in
    subst (λ (routes : List Live). AreCalendarsOf routes c.take_out.new.calendars) (sym (returns-clause-routes c))
    (calendars_end c.args.id c.in-Some.walk (routes_of c.args.routes.now.entries) c.args.calendars.now c.take_out.new.calendars
    (each_once c.args.routes.now.entries c.requires.ordered) live c.requires.calendars c.take_out.ensures.lacks)

pub returns-clause-was_live : goal.returns-clause-was_live
returns-clause-was_live c = ((λ h. some_live c.args.id c.in-Some.walk c.args.routes.now.entries c.in-Some.ensures.value), (λ live. refl))
