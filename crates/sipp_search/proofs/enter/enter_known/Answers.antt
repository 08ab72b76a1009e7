use Rattle.std.proofs.Common.{arith, sym, refl, ◌≡◌, ◌+◌, ◌-◌, max, false}
use Rattle.std.proofs.lemmas.Option.{slice_get_within}
use Rattle.calendars.specs.Records.{is_exchange}
use Rattle.sipp_search.specs.declared.states.State.{State}
use Rattle.sipp_search.specs.Marks.{spots_of, offered_mark}
use Rattle.sipp_search.proofs.Lists.{stands_map}
use Rattle.sipp_search.proofs.Exchanges.{earliest_bars, earliest_enters}
use Rattle.sipp_search.proofs.Marking.{spots-set, offered_improves}
use Rattle.sipp_search.proofs.Blocks.{spots_right}
use Rattle.sipp_search.proofs.Entering.{entered_never, entered_late, entered_before, entered_first}
use Rattle.sipp_search.proofs.Serving.{sound_offered}
use Rattle.sipp_search.proofs.Growing.{free_by}
use Rattle.sipp_search.proofs.enter.enter_known.Goals as goal

pub returns-then-is_final-clause-led : goal.returns-then-is_final-clause-led
returns-then-is_final-clause-led g c = λ a x agrees source way.
    (let s = c.args.state in
    let e = max s.spot.interval.from (c.args.arrival + 1) in
    let of = c.requires.sound.arranged.each c.args.id c.args.state.spot (stands_map (λ (z : State). z.spot) c.args.arena.now.states.items c.args.id c.args.state c.requires.known) in
    let final = rw c.if-is_final.true at c.is_final.ensures.yes in
    let kept : offered_mark s.mark e ≡ s.mark = rw final.1 refl in
    entered_before c.args.task.now.grid.now c.args.task.now.request c.args.task.now.horizon a c.args.arena.now.queue.floor x c.args.arena.now.states.items c.args.from c.args.arrival s.spot
    of.distance way e refl source
    (spots_right c.args.task.now.grid.now c.args.task.now.request.goal c.args.task.now.horizon (g.V.CalendarView.known c.args.view.now) (spots_of c.args.arena.now.states.items) c.args.arena.now.newest
    c.args.task.now.request a refl c.requires.sound.arranged agrees)
    c.args.id (s, c.requires.known, refl, refl) kept)

pub first_entry-requires-clause-times : goal.first_entry-requires-clause-times
first_entry-requires-clause-times g c =
    let of = c.requires.sound.arranged.each c.requires.placed.0 c.args.from c.requires.placed.1 in
    omega (arith, of.safe.within, c.requires.ready.in_range)

pub returns-in_default-clause-led : goal.returns-in_default-clause-led
returns-in_default-clause-led g c = λ a x agrees source way.
    (let of = c.requires.sound.arranged.each c.args.id c.args.state.spot (stands_map (λ (z : State). z.spot) c.args.arena.now.states.items c.args.id c.args.state c.requires.known) in
    entered_never c.args.task.now.grid.now c.args.task.now.request c.args.task.now.horizon a c.args.arena.now.queue.floor x c.args.arena.now.states.items c.args.from c.args.arrival c.args.state.spot
    of.distance way (c.in_default.ensures.none (a c.args.from.cell.0) (a c.args.state.spot.cell.0)))

pub returns-in_default-checked_sub-clause-led : goal.returns-in_default-checked_sub-clause-led
returns-in_default-checked_sub-clause-led g c = λ a x agrees source way.
    (let of = c.requires.sound.arranged.each c.args.id c.args.state.spot (stands_map (λ (z : State). z.spot) c.args.arena.now.states.items c.args.id c.args.state c.requires.known) in
    entered_late c.args.task.now.grid.now c.args.task.now.request c.args.task.now.horizon a c.args.arena.now.queue.floor x c.args.arena.now.states.items c.args.from c.args.arrival c.args.state.spot
    of.distance way c.in-Some.entry c.in-Some.ensures.some.0 (omega (arith, c.in_default-checked_sub.ensures)))

pub returns-then-to-room-clause-led : goal.returns-then-to-room-clause-led
returns-then-to-room-clause-led g c = λ a x agrees source way.
    (let of = c.requires.sound.arranged.each c.args.id c.args.state.spot (stands_map (λ (z : State). z.spot) c.args.arena.now.states.items c.args.id c.args.state c.requires.known) in
    entered_late c.args.task.now.grid.now c.args.task.now.request c.args.task.now.horizon a c.args.arena.now.queue.floor x c.args.arena.now.states.items c.args.from c.args.arrival c.args.state.spot
    of.distance way c.in-Some.entry c.in-Some.ensures.some.0 (omega (arith, c.in-Some-checked_sub.ensures, c.if-to-room.true)))

pub returns-then-not-is_better-clause-led : goal.returns-then-not-is_better-clause-led
returns-then-not-is_better-clause-led g c = λ a x agrees source way.
    (let of = c.requires.sound.arranged.each c.args.id c.args.state.spot (stands_map (λ (z : State). z.spot) c.args.arena.now.states.items c.args.id c.args.state c.requires.known) in
    let kept = rw c.if-not-is_better.true at c.is_better.ensures.worse in
    entered_before c.args.task.now.grid.now c.args.task.now.request c.args.task.now.horizon a c.args.arena.now.queue.floor x c.args.arena.now.states.items c.args.from c.args.arrival c.args.state.spot
    of.distance way c.in-Some.entry c.in-Some.ensures.some.0 source
    (spots_right c.args.task.now.grid.now c.args.task.now.request.goal c.args.task.now.horizon (g.V.CalendarView.known c.args.view.now) (spots_of c.args.arena.now.states.items) c.args.arena.now.newest
    c.args.task.now.request a refl c.requires.sound.arranged agrees)
    c.args.id (c.args.state, c.requires.known, refl, refl) kept)

pub calendar-here-requires : goal.calendar-here-requires
calendar-here-requires g c =
    let of = c.requires.sound.arranged.each c.requires.placed.0 c.args.from c.requires.placed.1 in
    rw of.known_is refl

pub calendar-requires : goal.calendar-requires
calendar-requires g c =
    let of = c.requires.sound.arranged.each c.args.id c.args.state.spot (stands_map (λ (z : State). z.spot) c.args.arena.now.states.items c.args.id c.args.state c.requires.known) in
    rw of.known_is refl

pub is_barred-requires-clause-times : goal.is_barred-requires-clause-times
is_barred-requires-clause-times g c =
    let of = c.requires.sound.arranged.each c.requires.placed.0 c.args.from c.requires.placed.1 in
    omega (arith, of.safe.within, c.requires.ready.in_range)

pub is_barred-requires-clause-here : goal.is_barred-requires-clause-here
is_barred-requires-clause-here g c =
    free_by c.args.task.now.grid.now c.args.task.now.request.goal c.args.task.now.horizon (g.V.CalendarView.known c.args.view.now) c.args.from
    (c.requires.sound.arranged.each c.requires.placed.0 c.args.from c.requires.placed.1) c.calendar-here.result.now c.calendar-here.ensures

pub is_barred-requires-clause-there : goal.is_barred-requires-clause-there
is_barred-requires-clause-there g c =
    free_by c.args.task.now.grid.now c.args.task.now.request.goal c.args.task.now.horizon (g.V.CalendarView.known c.args.view.now) c.args.state.spot
    (c.requires.sound.arranged.each c.args.id c.args.state.spot (stands_map (λ (z : State). z.spot) c.args.arena.now.states.items c.args.id c.args.state c.requires.known)) c.calendar.result.now c.calendar.ensures

pub returns-then-is_barred-clause-led : goal.returns-then-is_barred-clause-led
returns-then-is_barred-clause-led g c = λ a x agrees source way.
    (let of = c.requires.sound.arranged.each c.args.id c.args.state.spot (stands_map (λ (z : State). z.spot) c.args.arena.now.states.items c.args.id c.args.state c.requires.known) in
    let here : a c.args.from.cell.0 ≡ c.calendar-here.result.now = agrees c.args.from.cell.0 _ c.calendar-here.ensures in
    let there : a c.args.state.spot.cell.0 ≡ c.calendar.result.now = agrees c.args.state.spot.cell.0 _ c.calendar.ensures in
    entered_never c.args.task.now.grid.now c.args.task.now.request c.args.task.now.horizon a c.args.arena.now.queue.floor x c.args.arena.now.states.items c.args.from c.args.arrival c.args.state.spot
    of.distance way
    (rw (here, there) (earliest_bars c.calendar-here.result.now c.calendar.result.now c.args.from.interval c.args.state.spot.interval c.args.arrival c.in-Some.entry c.if-is_barred.ensures.ordered
    (λ t at. rw here at (source.safe.free t at)) c.requires.arrived.0 c.in-Some.ensures.some.0 (sym c.if-is_barred.ensures.barred))))

pub offer-requires-clause-known : goal.offer-requires-clause-known
offer-requires-clause-known g c = slice_get_within c.args.arena.now.states.items c.args.id c.args.state c.requires.known

pub returns-clause-sound : goal.returns-clause-sound
returns-clause-sound g c =
    sound_offered c.args.task.now.grid.now c.args.task.now.request c.args.task.now.horizon (g.V.CalendarView.known c.args.view.now) (g.V.CalendarView.size c.args.view.now)
    c.args.arena.now _ c.args.id c.in-Some.entry c.args.state c.requires.sound c.requires.known (c.in_ok-offer.ensures.states c.args.state c.requires.known) c.in_ok-offer.ensures.queue refl refl

pub returns-clause-spots : goal.returns-clause-spots
returns-clause-spots g c = λ i p at.
    rw (c.in_ok-offer.ensures.states c.args.state c.requires.known) (rw (spots-set c.args.arena.now.states.items c.args.id c.args.state (offered_mark c.args.state.mark c.in-Some.entry) c.requires.known) at)

pub returns-clause-improves : goal.returns-clause-improves
returns-clause-improves g c =
    rw (c.in_ok-offer.ensures.states c.args.state c.requires.known) (offered_improves c.args.arena.now.states.items c.args.id c.in-Some.entry c.args.state c.requires.known)

pub returns-clause-led : goal.returns-clause-led
returns-clause-led g c = λ a x agrees source way.
    (let of = c.requires.sound.arranged.each c.args.id c.args.state.spot (stands_map (λ (z : State). z.spot) c.args.arena.now.states.items c.args.id c.args.state c.requires.known) in
    let here : a c.args.from.cell.0 ≡ c.calendar-here.result.now = agrees c.args.from.cell.0 _ c.calendar-here.ensures in
    let there : a c.args.state.spot.cell.0 ≡ c.calendar.result.now = agrees c.args.state.spot.cell.0 _ c.calendar.ensures in
    let first = c.in-Some.ensures.some in
    let unbarred : is_exchange (a c.args.from.cell.0) (a c.args.state.spot.cell.0) (c.in-Some.entry - 1) ≡ false = rw (here, there) (sym {b = is_exchange c.calendar-here.result.now c.calendar.result.now (c.in-Some.entry - 1)} c.if-is_barred.ensures.barred) in
    let entry = earliest_enters (a c.args.from.cell.0) (a c.args.state.spot.cell.0) c.args.from.interval c.args.state.spot.interval c.args.arrival c.in-Some.entry first.0 unbarred first.1 first.2 in
    rw (c.in_ok-offer.ensures.states c.args.state c.requires.known) (entered_first c.args.task.now.grid.now c.args.task.now.request c.args.task.now.horizon a c.args.arena.now.queue.floor x c.args.arena.now.states.items c.args.from c.args.arrival c.args.state.spot of.distance
    way c.in-Some.entry first.0 source
    (spots_right c.args.task.now.grid.now c.args.task.now.request.goal c.args.task.now.horizon (g.V.CalendarView.known c.args.view.now) (spots_of c.args.arena.now.states.items) c.args.arena.now.newest c.args.task.now.request a refl c.requires.sound.arranged agrees)
    c.args.id (c.args.state, c.requires.known, refl, refl) entry c.requires.ready.bound (omega (arith, c.requires.low, first.0)) (omega (arith, c.in-Some-checked_sub.ensures, c.if-to-room.false))))
