use Rattle.std.proofs.Common.{arith, ◌≡◌}
use Rattle.sipp_search.specs.Marks.{spots_of}
use Rattle.sipp_search.proofs.Entering.{led_from}
use Rattle.sipp_search.proofs.Fresh.{none_before}
use Rattle.sipp_search.proofs.enter.enter_first.Goals as goal

pub overflow_add-arrival : goal.overflow_add-arrival
overflow_add-arrival g c =
    let of = c.requires.sound.arranged.each c.requires.placed.0 c.args.from c.requires.placed.1 in
    omega (arith, c.requires.arrived, of.safe.within, c.requires.ready.in_range)

pub enter_fresh-requires-clause-fresh : goal.enter_fresh-requires-clause-fresh
enter_fresh-requires-clause-fresh g c =
    none_before (spots_of c.args.arena.now.states.items) c.args.arena.now.newest c.args.to c.begun_by-first.result c.requires.sound.arranged.chained c.requires.fresh

pub returns-clause-led : goal.returns-clause-led
returns-clause-led g c = λ a x agrees source way.
    (let there : a c.args.to.0 ≡ c.calendar.result.now = agrees c.args.to.0 _ c.calendar.ensures in
    let both = c.in_ok-enter_fresh.ensures.led a x agrees source way in (
      both.0,
      led_from c.args.task.now.grid.now c.args.task.now.request c.args.task.now.horizon a c.args.from c.args.arrival c.args.to c.calendar.result.now there
          c.enter_fresh.new.arena.states.items _ both.1 c.begun_by-first.ensures.place,
    ))
