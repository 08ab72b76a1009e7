use Rattle.std.proofs.Common.{arith, ◌≡◌}
use Rattle.sipp_search.proofs.Entering.{led_from}
use Rattle.sipp_search.proofs.enter.enter_each.Goals as goal

pub overflow_add-arrival : goal.overflow_add-arrival
overflow_add-arrival g c =
    let of = c.requires.sound.arranged.each c.requires.placed.0 c.args.from c.requires.placed.1 in
    omega (arith, c.requires.arrived, of.safe.within, c.requires.ready.in_range)

pub returns-clause-led : goal.returns-clause-led
returns-clause-led g c = λ a x agrees source way.
    (let there : a c.args.to.0 ≡ c.calendar.result.now = agrees c.args.to.0 _ c.calendar.ensures in
    let both = c.in_ok-enter_later.ensures.led a x agrees source way in (
      both.0,
      led_from c.args.task.now.grid.now c.args.task.now.request c.args.task.now.horizon a c.args.from c.args.arrival c.args.to c.calendar.result.now there
          c.enter_later.new.arena.states.items _ both.1 c.begun_by-first.ensures.place,
    ))
