use Rattle.std.proofs.Common.{arith, ◌≡◌, ◌+◌, ◌-◌, false}
use Rattle.calendars.specs.Records.{covers, InOrder}
use Rattle.sipp_search.proofs.Exchanges.{unbarred_free}
use Rattle.sipp_search.proofs.Paused.{some_holds, paused_free}
use Rattle.sipp_search.proofs.ties.is_barred_from.Goals as goal

pub place_at-requires-clause-cell : goal.place_at-requires-clause-cell
place_at-requires-clause-cell g c = omega (arith, g.met.V.CalendarView.below c.args.view.now c.args.from.0 c.requires.from, c.requires.paused.sound.count)

pub returns-then-is_some : goal.returns-then-is_some
returns-then-is_some g c = record {
  barred = λ a agrees.
      (let found = some_holds _ _ c.if-is_some.ensures c.place_at.ensures.some in
      let here : a c.args.from.0 ≡ c.calendar-here.result.now = agrees c.args.from.0 c.calendar-here.result.now c.calendar-here.ensures in
      let order : InOrder (a c.args.from.0) = rw here c.records-in_order.ensures.ordered in
      let e : c.args.entered - 1 + 1 ≡ c.args.entered = omega (arith, c.requires.later) in
      let free : covers (a c.args.from.0) (c.args.entered - 1 + 1) ≡ false = rw e (
      paused_free c.args.task.now.grid.now c.args.task.now.request c.args.task.now.horizon (g.V.CalendarView.known c.args.view.now) (g.V.CalendarView.size c.args.view.now) c.args.arena.now c.requires.ready.bound c.requires.paused a agrees
      found.0 found.1.0 c.args.from c.args.entered found.1.1 found.1.2 found.1.3) in
      unbarred_free (a c.args.from.0) (a c.args.to.0) (c.args.entered - 1) order free);
}
