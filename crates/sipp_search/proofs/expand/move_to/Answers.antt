use Rattle.std.proofs.Common.{arith, rules, refl, ◌≡◌, ◌+◌, ◌<◌, ◌≤◌, length, vec_len}
use Rattle.static_distance.specs.Distance.{IsDistance}
use Rattle.sipp_search.proofs.Chains.{of_arena_known, sound_known}
use Rattle.sipp_search.proofs.Growing.{newest_within, newest_left}
use Rattle.sipp_search.proofs.Moving.{low_key, source_of, led_only}
use Rattle.sipp_search.proofs.expand.move_to.Goals as goal

pub neighbour_at-requires-clause-cell : goal.neighbour_at-requires-clause-cell
neighbour_at-requires-clause-cell g c =
    let of = c.requires.sound.arranged.each c.requires.placed.0 c.args.from c.requires.placed.1 in
    omega (arith, g.met.V.CalendarView.below c.args.view.now c.args.from.cell.0 (rw of.known_is refl), c.requires.ready.size_is)

pub index-requires : goal.index-requires
index-requires g c =
    let some : 0 < c.get-newest.result = omega (arith, c.if-newest-eq0.false) in
    let len : vec_len c.args.arena.now.states ≡ length c.args.arena.now.states.items = search rules in
    omega (
      arith,
      newest_within c.args.task.now.grid.now c.args.task.now.request.goal c.args.task.now.horizon (g.V.CalendarView.known c.args.view.now) c.args.arena.now.states.items c.args.arena.now.newest c.requires.sound.arranged
          c.in-Some.to c.get-newest.result c.get-newest.ensures some,
    )

pub move_into-requires-clause-sound : goal.move_into-requires-clause-sound
move_into-requires-clause-sound g c =
    rw c.in_ok-load.ensures.same_size (sound_known c.args.task.now.grid.now c.args.task.now.request c.args.task.now.horizon (g.V.CalendarView.known c.args.view.now)
    (g.V.CalendarView.known c.load.new.self) (g.V.CalendarView.size c.args.view.now) c.args.arena.now c.in_ok-load.ensures.kept c.requires.sound)

pub move_into-requires-clause-distance : goal.move_into-requires-clause-distance
move_into-requires-clause-distance g c =
    let some : 0 < c.get-newest.result = omega (arith, c.if-newest-eq0.false) in
    newest_left c.args.task.now.grid.now c.args.task.now.request.goal c.args.task.now.horizon (g.V.CalendarView.known c.args.view.now) c.args.arena.now.states.items c.args.arena.now.newest c.requires.sound.arranged
    c.in-Some.to c.get-newest.result c.get-newest.ensures some c.index.result.now c.index.ensures

pub move_into-requires-clause-low : goal.move_into-requires-clause-low
move_into-requires-clause-low g c =
    let some : 0 < c.get-newest.result = omega (arith, c.if-newest-eq0.false) in
    let of = c.requires.sound.arranged.each c.requires.placed.0 c.args.from c.requires.placed.1 in
    let left = c.index.result.now.spot.left in
    let distance : IsDistance c.args.task.now.grid.now c.args.task.now.request.goal c.in-Some.to left =
    newest_left c.args.task.now.grid.now c.args.task.now.request.goal c.args.task.now.horizon (g.V.CalendarView.known c.args.view.now) c.args.arena.now.states.items c.args.arena.now.newest c.requires.sound.arranged
    c.in-Some.to c.get-newest.result c.get-newest.ensures some c.index.result.now c.index.ensures in
    let low : c.args.from.left ≤ left + 1 =
    low_key c.args.task.now.grid.now c.args.task.now.request.goal c.requires.ready.bound c.args.side c.args.from.cell c.in-Some.to c.args.from.left left c.in-Some.ensures.beside of.distance distance in
    omega (arith, c.requires.taken)

pub returns-clause-led : goal.returns-clause-led
returns-clause-led g c = λ a x agrees arrived way.
    (let terrain = c.args.task.now.grid.now in
    let q = c.args.task.now.request in
    let horizon = c.args.task.now.horizon in
    let known = g.V.CalendarView.known c.load.new.self in
    let left = c.index.result.now.spot.left in
    let some : 0 < c.get-newest.result = omega (arith, c.if-newest-eq0.false) in
    let of = c.requires.sound.arranged.each c.requires.placed.0 c.args.from c.requires.placed.1 in
    let of' = of_arena_known terrain q.goal horizon (g.V.CalendarView.known c.args.view.now) known c.in_ok-load.ensures.kept c.args.from of in
    let distance : IsDistance terrain q.goal c.in-Some.to left =
    newest_left c.args.task.now.grid.now c.args.task.now.request.goal c.args.task.now.horizon (g.V.CalendarView.known c.args.view.now) c.args.arena.now.states.items c.args.arena.now.newest c.requires.sound.arranged
    c.in-Some.to c.get-newest.result c.get-newest.ensures some c.index.result.now c.index.ensures in
    let source = source_of terrain q horizon a known c.args.from c.args.arrival c.args.side c.in-Some.to left c.requires.ready.bound of' agrees arrived c.in-Some.ensures.beside distance in
    let led = c.in_ok-move_into.ensures.led a x agrees source way in (
      led.0,
      led_only terrain q horizon a c.move_into.new.arena.states.items c.args.from c.args.arrival c.args.side c.in-Some.to c.in-Some.ensures.beside led.1,
    ))
