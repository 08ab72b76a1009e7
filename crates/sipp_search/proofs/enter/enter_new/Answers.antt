use Rattle.std.proofs.Common.{arith, sym, refl, ◌≡◌, ◌-◌, false}
use Rattle.calendars.specs.Records.{is_exchange}
use Rattle.sipp_search.specs.declared.states.Spot.{Spot}
use Rattle.sipp_search.specs.Marks.{spots_of}
use Rattle.sipp_search.proofs.Exchanges.{earliest_bars, earliest_enters}
use Rattle.sipp_search.proofs.Blocks.{spots_right}
use Rattle.sipp_search.proofs.Entering.{entered_never}
use Rattle.sipp_search.proofs.Serving.{sound_marked}
use Rattle.sipp_search.specs.declared.states.Mark.TheVariants.{Queued}
use Rattle.sipp_search.proofs.Growing.{free_by}
use Rattle.sipp_search.proofs.Fresh.{queued_spots, queued_improves, queued_before, queued_led}
use Rattle.sipp_search.proofs.enter.enter_new.Goals as goal

pub returns-then-is_barred-clause-led : goal.returns-then-is_barred-clause-led
returns-then-is_barred-clause-led g c = λ a x r agrees source is way.
    (let here : a c.args.from.cell.0 ≡ c.args.here.now = agrees c.args.from.cell.0 _ c.requires.here in
    let there : a c.args.to.cell.0 ≡ c.args.there.now = agrees c.args.to.cell.0 _ c.requires.there in
    entered_never c.args.task.now.grid.now c.args.task.now.request c.args.task.now.horizon a c.args.arena.now.queue.floor x c.args.arena.now.states.items c.args.from r c.args.to
    c.requires.to.distance way
    (rw (here, there) (earliest_bars c.args.here.now c.args.there.now c.args.from.interval c.args.to.interval r c.args.entry c.if-is_barred.ensures.ordered
    (λ t at. rw here at (source.safe.free t at)) source.arrived.inside.0 is (sym c.if-is_barred.ensures.barred))))

pub is_barred-requires-clause-times : goal.is_barred-requires-clause-times
is_barred-requires-clause-times g c =
    let of = c.requires.sound.arranged.each c.requires.placed.0 c.args.from c.requires.placed.1 in
    omega (arith, of.safe.within, c.requires.ready.in_range)

pub is_barred-requires-clause-here : goal.is_barred-requires-clause-here
is_barred-requires-clause-here g c =
    free_by c.args.task.now.grid.now c.args.task.now.request.goal c.args.task.now.horizon (g.V.CalendarView.known c.args.view.now) c.args.from
    (c.requires.sound.arranged.each c.requires.placed.0 c.args.from c.requires.placed.1) c.args.here.now c.requires.here

pub is_barred-requires-clause-there : goal.is_barred-requires-clause-there
is_barred-requires-clause-there g c =
    free_by c.args.task.now.grid.now c.args.task.now.request.goal c.args.task.now.horizon (g.V.CalendarView.known c.args.view.now) c.args.to
    c.requires.to c.args.there.now c.requires.there

pub add_queued-requires-clause-high : goal.add_queued-requires-clause-high
add_queued-requires-clause-high g c = omega (arith, c.requires.sound.bound, c.requires.in_time)

pub returns-clause-sound : goal.returns-clause-sound
returns-clause-sound g c =
    let states = c.in_ok-add_queued.ensures.states in
    sound_marked c.args.task.now.grid.now c.args.task.now.request c.args.task.now.horizon (g.V.CalendarView.known c.args.view.now) (g.V.CalendarView.size c.args.view.now)
    c.args.arena.now c.add_queued.new.arena c.args.to states.0 (Queued c.args.entry) c.requires.sound c.requires.to c.requires.new states.1 states.2
    c.in_ok-add_queued.ensures.newest c.in_ok-add_queued.ensures.queue c.in_ok-add_queued.ensures.distances

pub returns-clause-spots : goal.returns-clause-spots
returns-clause-spots g c =
    let states = c.in_ok-add_queued.ensures.states in
    queued_spots c.args.arena.now.states.items c.add_queued.new.arena.states.items (record c.args.to { older = states.0 }) c.args.entry states.2

pub returns-clause-improves : goal.returns-clause-improves
returns-clause-improves g c =
    let states = c.in_ok-add_queued.ensures.states in
    queued_improves c.args.arena.now.states.items c.add_queued.new.arena.states.items (record c.args.to { older = states.0 }) c.args.entry states.2

pub returns-clause-before : goal.returns-clause-before
returns-clause-before g c =
    let states = c.in_ok-add_queued.ensures.states in
    queued_before c.args.arena.now.states.items c.add_queued.new.arena.states.items (record c.args.to { older = states.0 }) c.args.entry states.2 c.args.to.cell

pub returns-clause-led : goal.returns-clause-led
returns-clause-led g c = λ a x r agrees source is way.
    (let terrain = c.args.task.now.grid.now in
    let q = c.args.task.now.request in
    let horizon = c.args.task.now.horizon in
    let known = g.V.CalendarView.known c.args.view.now in
    let here : a c.args.from.cell.0 ≡ c.args.here.now = agrees c.args.from.cell.0 _ c.requires.here in
    let there : a c.args.to.cell.0 ≡ c.args.there.now = agrees c.args.to.cell.0 _ c.requires.there in
    let unbarred : is_exchange (a c.args.from.cell.0) (a c.args.to.cell.0) (c.args.entry - 1) ≡ false = rw (here, there) (sym {b = is_exchange c.args.here.now c.args.there.now (c.args.entry - 1)} c.if-is_barred.ensures.barred) in
    let entry = earliest_enters (a c.args.from.cell.0) (a c.args.to.cell.0) c.args.from.interval c.args.to.interval r c.args.entry is unbarred c.requires.until c.requires.lands.1 in
    let states = c.in_ok-add_queued.ensures.states in
    let spot : Spot = record c.args.to { older = states.0 } in
    let sound = sound_marked terrain q horizon known (g.V.CalendarView.size c.args.view.now)
    c.args.arena.now c.add_queued.new.arena c.args.to states.0 (Queued c.args.entry) c.requires.sound c.requires.to c.requires.new states.1 states.2
    c.in_ok-add_queued.ensures.newest c.in_ok-add_queued.ensures.queue c.in_ok-add_queued.ensures.distances in
    let right = spots_right terrain q.goal horizon known (spots_of c.add_queued.new.arena.states.items) c.add_queued.new.arena.newest q a refl sound.arranged agrees in
    queued_led c.args.arena.now.states.items c.add_queued.new.arena.states.items spot c.args.entry states.2 terrain q horizon a c.args.arena.now.queue.floor x c.args.from r
    c.requires.to.distance way is source right entry c.requires.ready.bound c.requires.low c.requires.in_time)
