use Rattle.std.proofs.Common.{arith, rules, subst, sym, refl, ◌≡◌, ◌+◌, ℕ, length, vec_len}
use Rattle.std.proofs.lemmas.Option.{slice_get_within}
use Rattle.fleet_base.specs.declared.grid.Cell.{Cell}
use Rattle.sipp_search.specs.Progress.{IsUnderWay}
use Rattle.sipp_search.specs.Visiting.{IsSource}
use Rattle.sipp_search.proofs.Visits.{led_same}
use Rattle.sipp_search.proofs.Entering.{led_within, led_on}
use Rattle.sipp_search.proofs.Growing.{holder_read, holder_left, holder_gap, holder_low}
use Rattle.sipp_search.proofs.enter.move_into.Goals as goal

pub overflow_add-arrival : goal.overflow_add-arrival
overflow_add-arrival g c =
    let of = c.requires.sound.arranged.each c.requires.placed.0 c.args.from c.requires.placed.1 in
    omega (arith, c.requires.arrived, of.safe.within, c.requires.ready.in_range)

pub index-state-requires : goal.index-state-requires
index-state-requires g c =
    let state = c.in-Some.ensures.some in
    let len : vec_len c.args.arena.now.states ≡ length c.args.arena.now.states.items = search rules in
    omega (arith, slice_get_within c.args.arena.now.states.items c.in-Some.id state.0 state.1)

pub enter_known-requires-clause-known : goal.enter_known-requires-clause-known
enter_known-requires-clause-known g c =
    let holder = holder_read c.args.arena.now.states.items c.args.to (c.args.arrival + 1) c.in-Some.id c.index-state.result.now c.in-Some.ensures.some c.index-state.ensures in
    holder.0

pub enter_known-requires-clause-low : goal.enter_known-requires-clause-low
enter_known-requires-clause-low g c =
    let holder = holder_read c.args.arena.now.states.items c.args.to (c.args.arrival + 1) c.in-Some.id c.index-state.result.now c.in-Some.ensures.some c.index-state.ensures in
    let left = holder_left c.args.task.now.grid.now c.args.task.now.request.goal c.args.task.now.horizon (g.V.CalendarView.known c.args.view.now) c.args.arena.now.states.items c.args.arena.now.newest
    c.requires.sound.arranged c.args.to (c.args.arrival + 1) c.in-Some.id c.index-state.result.now holder c.args.left c.requires.ready.bound c.requires.distance in
    omega (arith, c.requires.low)

pub overflow_add-spot : goal.overflow_add-spot
overflow_add-spot g c =
    let holder = holder_read c.args.arena.now.states.items c.args.to (c.args.arrival + 1) c.in-Some.id c.index-state.result.now c.in-Some.ensures.some c.index-state.ensures in
    let of = c.requires.sound.arranged.each c.requires.placed.0 c.args.from c.requires.placed.1 in
    let low = holder_low c.args.task.now.grid.now c.args.task.now.request.goal c.args.task.now.horizon (g.V.CalendarView.known c.args.view.now) c.args.arena.now.states.items c.args.arena.now.newest
    c.requires.sound.arranged c.args.to (c.args.arrival + 1) c.in-Some.id c.index-state.result.now holder
    c.calendar-there.result.now c.calendar-there.ensures c.records-in_order.ensures.ordered in
    omega (arith, c.requires.arrived, of.safe.within, c.requires.ready.in_range)

pub returns-then-from-spot-clause-led : goal.returns-then-from-spot-clause-led
returns-then-from-spot-clause-led g c = λ a x agrees source way.
    (let terrain = c.args.task.now.grid.now in
    let q = c.args.task.now.request in
    let horizon = c.args.task.now.horizon in
    let records = c.calendar-there.result.now in
    let there : a c.args.to.0 ≡ records = agrees c.args.to.0 _ c.calendar-there.ensures in
    let spot = c.index-state.result.now.spot in
    let holder = holder_read c.args.arena.now.states.items c.args.to (c.args.arrival + 1) c.in-Some.id c.index-state.result.now c.in-Some.ensures.some c.index-state.ensures in
    let gap = holder_gap c.args.task.now.grid.now c.args.task.now.request.goal c.args.task.now.horizon (g.V.CalendarView.known c.args.view.now) c.args.arena.now.states.items c.args.arena.now.newest
    c.requires.sound.arranged c.args.to (c.args.arrival + 1) c.in-Some.id c.index-state.result.now holder records c.calendar-there.ensures in
    let both = c.in_ok-enter_known.ensures.led a x agrees (subst (λ (z : Cell). IsSource terrain q horizon a c.args.from c.args.arrival z) (sym holder.1) source) way in (
      both.0,
      led_within terrain q horizon a c.args.from c.args.arrival c.args.to records there spot.interval holder.2 c.enter_known.new.arena.states.items gap.safe c.if-from-spot.true
          (led_same terrain q horizon a c.enter_known.new.arena.states.items c.args.from c.args.arrival spot.cell c.args.to spot.interval spot.interval holder.1 refl both.1),
    ))

pub returns-clause-led : goal.returns-clause-led
returns-clause-led g c = λ a x agrees source way.
    (let terrain = c.args.task.now.grid.now in
    let q = c.args.task.now.request in
    let horizon = c.args.task.now.horizon in
    let records = c.calendar-there.result.now in
    let there : a c.args.to.0 ≡ records = agrees c.args.to.0 _ c.calendar-there.ensures in
    let spot = c.index-state.result.now.spot in
    let mid = c.enter_known.new.arena.states.items in
    let new = c.enter_later.new.arena.states.items in
    let holder = holder_read c.args.arena.now.states.items c.args.to (c.args.arrival + 1) c.in-Some.id c.index-state.result.now c.in-Some.ensures.some c.index-state.ensures in
    let gap = holder_gap c.args.task.now.grid.now c.args.task.now.request.goal c.args.task.now.horizon (g.V.CalendarView.known c.args.view.now) c.args.arena.now.states.items c.args.arena.now.newest
    c.requires.sound.arranged c.args.to (c.args.arrival + 1) c.in-Some.id c.index-state.result.now holder records c.calendar-there.ensures in
    let first = c.in_ok-enter_known.ensures.led a x agrees (subst (λ (z : Cell). IsSource terrain q horizon a c.args.from c.args.arrival z) (sym holder.1) source) way in
    let into = led_same terrain q horizon a mid c.args.from c.args.arrival spot.cell c.args.to spot.interval spot.interval holder.1 refl first.1 in
    let later = c.in_ok-enter_later.ensures.led a x agrees source (subst (λ (n : ℕ). IsUnderWay terrain q horizon a mid n x) (sym c.in_ok-enter_known.ensures.floor) first.0) in (
      subst (λ (n : ℕ). IsUnderWay terrain q horizon a new n x) c.in_ok-enter_known.ensures.floor later.0,
      led_on terrain q horizon a c.args.from c.args.arrival c.args.to records there spot.interval holder.2 mid new spot.place c.records-in_order.ensures.ordered gap
          c.in_ok-enter_later.ensures.improves into later.1,
    ))
