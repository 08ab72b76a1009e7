use Rattle.std.proofs.Common.{arith, subst, ap, ◌≡◌, ◌+◌, ◌≤◌, ℕ}
use Rattle.bucket_queue.specs.Queue.{Queue}
use Rattle.static_distance.specs.Distance.{IsDistance}
use Rattle.sipp_search.specs.Progress.{IsUnderWay}
use Rattle.sipp_search.proofs.Chains.{of_arena_known, sound_known}
use Rattle.sipp_search.proofs.Moving.{low_key, source_of, led_only, led_in_vain}
use Rattle.sipp_search.proofs.expand.move_first.Goals as goal

pub way_beside-requires-clause-from : goal.way_beside-requires-clause-from
way_beside-requires-clause-from g c =
    let of = c.requires.sound.arranged.each c.requires.placed.0 c.args.from c.requires.placed.1 in (c.args.from.cell, c.args.side, c.requires.place, c.requires.beside, of.distance)

pub returns-in_default-clause-led : goal.returns-in_default-clause-led
returns-in_default-clause-led g c = λ a x agrees arrived way.
    (let none = rw c.in_default.is at c.in_ok-left.ensures.none in (
      rw c.in_ok-left.ensures.states way,
      led_in_vain c.args.task.now.grid.now c.args.task.now.request c.args.task.now.horizon a c.way_beside.new.arena.states.items c.args.from c.args.arrival c.args.side
          c.args.to c.requires.beside none,
    ))

pub enter_first-requires-clause-sound : goal.enter_first-requires-clause-sound
enter_first-requires-clause-sound g c =
    rw c.in_ok-load.ensures.same_size (sound_known c.args.task.now.grid.now c.args.task.now.request c.args.task.now.horizon (g.V.CalendarView.known c.args.view.now)
    (g.V.CalendarView.known c.load.new.self) (g.V.CalendarView.size c.args.view.now) c.way_beside.new.arena c.in_ok-load.ensures.kept c.in_ok-left.ensures.sound)

pub enter_first-requires-clause-low : goal.enter_first-requires-clause-low
enter_first-requires-clause-low g c =
    let of = c.requires.sound.arranged.each c.requires.placed.0 c.args.from c.requires.placed.1 in
    let distance : IsDistance c.args.task.now.grid.now c.args.task.now.request.goal c.args.to c.in-Some.left = rw c.in-Some.is at c.in_ok-left.ensures.some in
    let low : c.args.from.left ≤ c.in-Some.left + 1 =
    low_key c.args.task.now.grid.now c.args.task.now.request.goal c.requires.ready.bound c.args.side c.args.from.cell c.args.to c.args.from.left c.in-Some.left c.requires.beside of.distance distance in
    omega (arith, ap (λ (z : Queue). z.floor) c.in_ok-left.ensures.queue, c.requires.taken)

pub returns-clause-led : goal.returns-clause-led
returns-clause-led g c = λ a x agrees arrived way.
    (let terrain = c.args.task.now.grid.now in
    let q = c.args.task.now.request in
    let horizon = c.args.task.now.horizon in
    let known = g.V.CalendarView.known c.load.new.self in
    let of = c.requires.sound.arranged.each c.requires.placed.0 c.args.from c.requires.placed.1 in
    let of' = of_arena_known terrain q.goal horizon (g.V.CalendarView.known c.args.view.now) known c.in_ok-load.ensures.kept c.args.from of in
    let distance : IsDistance terrain q.goal c.args.to c.in-Some.left = rw c.in-Some.is at c.in_ok-left.ensures.some in
    let source = source_of terrain q horizon a known c.args.from c.args.arrival c.args.side c.args.to c.in-Some.left c.requires.ready.bound of' agrees arrived c.requires.beside distance in
    let floor : c.way_beside.new.arena.queue.floor ≡ c.args.arena.now.queue.floor = ap (λ (z : Queue). z.floor) c.in_ok-left.ensures.queue in
    let led = c.in_ok-enter_first.ensures.led a x agrees source (rw (c.in_ok-left.ensures.states, floor) way) in (
      subst (λ (n : ℕ). IsUnderWay terrain q horizon a c.enter_first.new.arena.states.items n x) floor led.0,
      led_only terrain q horizon a c.enter_first.new.arena.states.items c.args.from c.args.arrival c.args.side c.args.to c.requires.beside led.1,
    ))
