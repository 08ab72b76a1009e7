use Rattle.std.proofs.Common.{arith, subst, sym, refl, ◌∙◌, List, None, Some, ◌≡◌, ◌-◌, false}
use Rattle.std.proofs.lemmas.Option.{slice_get_within}
use Rattle.std.proofs.lemmas.Option.{same_Some}
use Rattle.fleet_base.specs.declared.request.Record.{Record}
use Rattle.calendars.specs.Records.{is_exchange, InOrder}
use Rattle.sipp_search.specs.declared.states.Spot.{Spot}
use Rattle.sipp_search.specs.declared.states.Mark.TheVariants.{Queued}
use Rattle.sipp_search.specs.Marks.{spots_of, offered_mark}
use Rattle.sipp_search.proofs.Exchanges.{earliest_bars, earliest_enters}
use Rattle.sipp_search.proofs.Marking.{spots-set, offered_improves}
use Rattle.sipp_search.proofs.Blocks.{spots_right}
use Rattle.sipp_search.proofs.Entering.{entered_never, entered_first}
use Rattle.sipp_search.proofs.Serving.{sound_marked, sound_offered}
use Rattle.sipp_search.proofs.Growing.{free_by, same_left, known_there, new_there}
use Rattle.sipp_search.proofs.Fresh.{queued_spots, queued_improves, queued_led}
use Rattle.sipp_search.proofs.enter.enter_at.Goals as goal

pub is_barred-requires-clause-times : goal.is_barred-requires-clause-times
is_barred-requires-clause-times g c =
    let of = c.requires.sound.arranged.each c.requires.placed.0 c.args.from c.requires.placed.1 in
    omega (arith, of.safe.within, c.requires.ready.in_range)

pub is_barred-requires-clause-here : goal.is_barred-requires-clause-here
is_barred-requires-clause-here g c =
    free_by c.args.task.now.grid.now c.args.task.now.request.goal c.args.task.now.horizon (g.V.CalendarView.known c.args.view.now) c.args.from
    (c.requires.sound.arranged.each c.requires.placed.0 c.args.from c.requires.placed.1) c.args.here.now c.requires.here

pub returns-then-is_barred-clause-led : goal.returns-then-is_barred-clause-led
returns-then-is_barred-clause-led g c = λ a x r agrees source is way.
    (let here : a c.args.from.cell.0 ≡ c.args.here.now = agrees c.args.from.cell.0 _ c.requires.here in
    let there : a c.args.to.cell.0 ≡ c.args.there.now = agrees c.args.to.cell.0 _ c.requires.there in
    entered_never c.args.task.now.grid.now c.args.task.now.request c.args.task.now.horizon a c.args.arena.now.queue.floor x c.args.arena.now.states.items c.args.from r c.args.to
    c.requires.to.distance way
    (rw (here, there) (earliest_bars c.args.here.now c.args.there.now c.args.from.interval c.args.to.interval r c.args.entry c.if-is_barred.ensures.ordered
    (λ t at. rw here at (source.safe.free t at)) source.arrived.inside.0 is (sym c.if-is_barred.ensures.barred))))

pub returns-in_default-clause-sound : goal.returns-in_default-clause-sound
returns-in_default-clause-sound g c =
    let states = c.in_ok-add_queued.ensures.states in
    let new = new_there c.args.task.now.grid.now c.args.task.now.request.goal c.args.task.now.horizon (g.V.CalendarView.known c.args.view.now) c.args.arena.now.states.items c.args.arena.now.newest
    c.requires.sound.arranged c.args.to c.requires.to (subst (λ (xs : List Record). InOrder xs) (same_Some _ _ (sym c.requires.there ∙ c.requires.to.known_is)) c.records-in_order.ensures.ordered) None c.in_default.ensures.none in
    sound_marked c.args.task.now.grid.now c.args.task.now.request c.args.task.now.horizon (g.V.CalendarView.known c.args.view.now) (g.V.CalendarView.size c.args.view.now)
    c.args.arena.now c.add_queued.new.arena c.args.to states.0 (Queued c.args.entry) c.requires.sound c.requires.to new states.1 states.2
    c.in_ok-add_queued.ensures.newest c.in_ok-add_queued.ensures.queue c.in_ok-add_queued.ensures.distances

pub returns-in_default-clause-spots : goal.returns-in_default-clause-spots
returns-in_default-clause-spots g c =
    let states = c.in_ok-add_queued.ensures.states in
    queued_spots c.args.arena.now.states.items c.add_queued.new.arena.states.items (record c.args.to { older = states.0 }) c.args.entry states.2

pub returns-in_default-clause-improves : goal.returns-in_default-clause-improves
returns-in_default-clause-improves g c =
    let states = c.in_ok-add_queued.ensures.states in
    queued_improves c.args.arena.now.states.items c.add_queued.new.arena.states.items (record c.args.to { older = states.0 }) c.args.entry states.2

pub returns-in_default-clause-led : goal.returns-in_default-clause-led
returns-in_default-clause-led g c = λ a x r agrees source is way.
    (let terrain = c.args.task.now.grid.now in
    let q = c.args.task.now.request in
    let horizon = c.args.task.now.horizon in
    let known = g.V.CalendarView.known c.args.view.now in
    let here : a c.args.from.cell.0 ≡ c.args.here.now = agrees c.args.from.cell.0 _ c.requires.here in
    let there : a c.args.to.cell.0 ≡ c.args.there.now = agrees c.args.to.cell.0 _ c.requires.there in
    let unbarred : is_exchange (a c.args.from.cell.0) (a c.args.to.cell.0) (c.args.entry - 1) ≡ false = rw (here, there) (sym {b = is_exchange c.args.here.now c.args.there.now (c.args.entry - 1)} c.if-is_barred.ensures.barred) in
    let entry = earliest_enters (a c.args.from.cell.0) (a c.args.to.cell.0) c.args.from.interval c.args.to.interval r c.args.entry is unbarred c.requires.until c.requires.lands.1 in
    let states = c.in_ok-add_queued.ensures.states in
    let spot : Spot = record c.args.to { older = states.0 } in
    let sound = returns-in_default-clause-sound g c in
    let right = spots_right terrain q.goal horizon known (spots_of c.add_queued.new.arena.states.items) c.add_queued.new.arena.newest q a refl sound.arranged agrees in
    queued_led c.args.arena.now.states.items c.add_queued.new.arena.states.items spot c.args.entry states.2 terrain q horizon a c.args.arena.now.queue.floor x c.args.from r
    c.requires.to.distance way is source right entry c.requires.ready.bound c.requires.low c.requires.in_time)

pub offer-requires-clause-known : goal.offer-requires-clause-known
offer-requires-clause-known g c = slice_get_within c.args.arena.now.states.items c.in-Some.id _ c.in-Some.ensures.some.1

pub offer-requires-clause-key : goal.offer-requires-clause-key
offer-requires-clause-key g c = λ s at.
    (let mine = known_there c.args.task.now.grid.now c.args.task.now.request.goal c.args.task.now.horizon (g.V.CalendarView.known c.args.view.now) c.args.arena.now.states.items c.args.arena.now.newest
    c.requires.sound.arranged c.args.to c.requires.to (subst (λ (xs : List Record). InOrder xs) (same_Some _ _ (sym c.requires.there ∙ c.requires.to.known_is)) c.records-in_order.ensures.ordered)
    (Some c.in-Some.id) c.in-Some.ensures.some in
    let left = same_left c.args.task.now.grid.now c.args.task.now.request.goal c.args.task.now.horizon (g.V.CalendarView.known c.args.view.now) c.args.arena.now.states.items c.args.arena.now.newest
    c.args.to c.in-Some.id s c.requires.ready.bound c.requires.sound.arranged c.requires.to.distance mine at in
    omega arith)

pub returns-clause-sound : goal.returns-clause-sound
returns-clause-sound g c =
    let there = c.in-Some.ensures.some in
    sound_offered c.args.task.now.grid.now c.args.task.now.request c.args.task.now.horizon (g.V.CalendarView.known c.args.view.now) (g.V.CalendarView.size c.args.view.now)
    c.args.arena.now _ c.in-Some.id c.args.entry there.0 c.requires.sound there.1 (c.in_ok-offer.ensures.states there.0 there.1) c.in_ok-offer.ensures.queue refl refl

pub returns-clause-spots : goal.returns-clause-spots
returns-clause-spots g c = λ i p at.
    (let there = c.in-Some.ensures.some in
    rw (c.in_ok-offer.ensures.states there.0 there.1) (rw (spots-set c.args.arena.now.states.items c.in-Some.id there.0 (offered_mark there.0.mark c.args.entry) there.1) at))

pub returns-clause-improves : goal.returns-clause-improves
returns-clause-improves g c =
    let there = c.in-Some.ensures.some in
    rw (c.in_ok-offer.ensures.states there.0 there.1) (offered_improves c.args.arena.now.states.items c.in-Some.id c.args.entry there.0 there.1)

pub returns-clause-led : goal.returns-clause-led
returns-clause-led g c = λ a x r agrees source is way.
    (let terrain = c.args.task.now.grid.now in
    let q = c.args.task.now.request in
    let horizon = c.args.task.now.horizon in
    let known = g.V.CalendarView.known c.args.view.now in
    let old = c.args.arena.now.states.items in
    let here : a c.args.from.cell.0 ≡ c.args.here.now = agrees c.args.from.cell.0 _ c.requires.here in
    let there : a c.args.to.cell.0 ≡ c.args.there.now = agrees c.args.to.cell.0 _ c.requires.there in
    let unbarred : is_exchange (a c.args.from.cell.0) (a c.args.to.cell.0) (c.args.entry - 1) ≡ false = rw (here, there) (sym {b = is_exchange c.args.here.now c.args.there.now (c.args.entry - 1)} c.if-is_barred.ensures.barred) in
    let entry = earliest_enters (a c.args.from.cell.0) (a c.args.to.cell.0) c.args.from.interval c.args.to.interval r c.args.entry is unbarred c.requires.until c.requires.lands.1 in
    let mine = known_there terrain q.goal horizon known old c.args.arena.now.newest
    c.requires.sound.arranged c.args.to c.requires.to (subst (λ (xs : List Record). InOrder xs) (same_Some _ _ (sym c.requires.there ∙ c.requires.to.known_is)) c.records-in_order.ensures.ordered)
    (Some c.in-Some.id) c.in-Some.ensures.some in
    rw (c.in_ok-offer.ensures.states mine.0 mine.1) (entered_first terrain q horizon a c.args.arena.now.queue.floor x old c.args.from r c.args.to c.requires.to.distance
    way c.args.entry is source
    (spots_right terrain q.goal horizon known (spots_of old) c.args.arena.now.newest q a refl c.requires.sound.arranged agrees)
    c.in-Some.id mine entry c.requires.ready.bound c.requires.low c.requires.in_time))
