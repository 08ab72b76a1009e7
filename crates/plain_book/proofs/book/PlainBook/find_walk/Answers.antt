use Rattle.std.proofs.Common.{subst}
use Rattle.std.proofs.lemmas.Result.{IfOk-weaker}
use Rattle.calendars.specs.Assignments.{traffic_by}
use Rattle.sipp_search.specs.Scratch.{Scratch}
use Rattle.plain_book.specs.Kept.{records_at}
use Rattle.plain_book.specs.Found.{FindsWalk}
use Rattle.plain_book.proofs.KeptTraffic.{planned_from_found, calendars_alike}
use Rattle.plain_book.proofs.Entries.{each_once}
use Rattle.plain_book.proofs.book.PlainBook.find_walk.Goals as goal

pub returns-clause-found : goal.returns-clause-found
returns-clause-found c =
    rw (← c.self.view_is) (IfOk-weaker c.find_walk.result _ _ (λ found h.
    planned_from_found _ c.self.inside.calendars c.args.request found
    (calendars_alike _ c.self.inside.calendars c.self.invariant.calendars_are (each_once c.self.inside.routes.entries c.self.invariant.ordered))
    (subst (λ (s : Scratch). FindsWalk c.self.inside.grid s.horizon (traffic_by (records_at c.self.inside.calendars)) c.args.request found) c.self.invariant.searches h))
    c.find_walk.ensures.found)
