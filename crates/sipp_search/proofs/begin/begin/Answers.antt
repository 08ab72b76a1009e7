use Rattle.std.proofs.Common.{arith, sym, ◌≡◌, [], ◌≤◌}
use Rattle.sipp_search.proofs.Places.{few_begun, until_gap}
use Rattle.sipp_search.proofs.Beginning.{nothing_unseen, idle_way, gap_later}
use Rattle.sipp_search.proofs.begin.begin.Goals as goal

pub returns-then-request-interval-clause-way : goal.returns-then-request-interval-clause-way
returns-then-request-interval-clause-way g c = λ a x agrees.
    (let states = c.args.arena.now.states.items in
    let none : c.args.arena.now.states.items ≡ [] = cc in
    idle_way c.args.task.now.grid.now c.args.task.now.request c.args.task.now.horizon a states x (nothing_unseen states none)
    (gap_later c.args.task.now.grid.now c.args.task.now.request c.args.task.now.horizon a states (g.V.CalendarView.known c.load.new.self) c.calendar-calendar.result.now c.place_of-place.result
    c.in-Some.interval agrees c.calendar-calendar.ensures c.records-in_order.ensures.ordered c.in-Some.ensures (sym c.place_of-place.ensures.place) c.if-request-interval.true))

pub begin_in-requires-clause-inside : goal.begin_in-requires-clause-inside
begin_in-requires-clause-inside g c =
    let within : c.args.task.now.request.depart ≤ c.args.task.now.horizon = omega (arith, c.in-Some-checked_sub.ensures) in (
      c.if-request-interval.false,
      until_gap c.calendar-calendar.result.now c.args.task.now.horizon c.place_of-place.result c.in-Some.interval c.records-in_order.ensures.ordered c.in-Some.ensures
          c.args.task.now.request.depart within (sym c.place_of-place.ensures.place),
    )

pub overflow_cast-place : goal.overflow_cast-place
overflow_cast-place g c =
    let few = few_begun c.calendar-calendar.result.now 0 c.args.task.now.request.depart c.records-in_order.ensures.ordered in
    omega (arith, few, c.place_of-place.ensures.place)
