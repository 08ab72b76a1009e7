-- What the answer of a search over all calendars says.
use Rattle.std.proofs.Common.{◌≡◌, ℕ, List, Option, Some, None, [], subst}
use Rattle.std.specs.Prelude.{slice_get}
use Rattle.std.proofs.lemmas.Option.{get_or_from_slice_get}
use Rattle.fleet_base.specs.declared.request.Record.{Record}
use Rattle.fleet_base.specs.declared.request.Request.{Request}
use Rattle.fleet_base.specs.Terrain.{Terrain}
use Rattle.fleet_base.specs.TimedWalk.{TimedWalk}
use Rattle.calendars.specs.Assignments.{Assignment, Agrees, traffic_by}
use Rattle.sipp_search.specs.Answer.{IsFoundWalk}
use Rattle.plain_book.specs.Kept.{records_at}
use Rattle.plain_book.specs.Found.{FindsWalk}

agrees_with : (calendars seen : List (List Record)) → seen ≡ calendars → Agrees (records_at calendars) (slice_get seen)
agrees_with calendars seen same c records at =
    subst (λ (cs : List (List Record)). records_at cs c ≡ records) same (get_or_from_slice_get seen c records [] at)

found_walk : (g : Terrain) (horizon : ℕ) (q : Request) (a : Assignment) (found : Option TimedWalk) → IsFoundWalk g horizon a q found → FindsWalk g horizon (traffic_by a) q found
found_walk g horizon q a (Some w) best = best.canonical
found_walk g horizon q a None never = never

-- what a search finds for each assignment that has the calendars, it finds among them
pub finds_walk : (g : Terrain) (horizon : ℕ) (q : Request) (calendars seen : List (List Record)) → seen ≡ calendars → (found : Option TimedWalk)
    → ((a : Assignment) → Agrees a (slice_get seen) → IsFoundWalk g horizon a q found) → FindsWalk g horizon (traffic_by (records_at calendars)) q found
finds_walk g horizon q calendars seen same found answer = found_walk g horizon q (records_at calendars) found (answer (records_at calendars) (agrees_with calendars seen same))
