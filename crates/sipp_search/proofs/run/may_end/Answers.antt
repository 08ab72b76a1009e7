use Rattle.std.proofs.Common.{arith, sym, ap, ◌∙◌, ◌≡◌, ◌≢◌, ◌+◌, List, length}
use Rattle.fleet_base.specs.declared.grid.Cell.{Cell}
use Rattle.fleet_base.specs.declared.request.Record.{Record}
use Rattle.fleet_base.proofs.TrafficLemmas.{same_cells}
use Rattle.calendars.specs.Places.{place_in}
use Rattle.sipp_search.proofs.Staying.{free_for_ever, taken_after, taken_later, ends_free, never_ends, some_value}
use Rattle.sipp_search.proofs.run.may_end.Goals as goal

pub returns-then-spot-task-2-clause-no : goal.returns-then-spot-task-2-clause-no
returns-then-spot-task-2-clause-no g c = λ a agrees cell t inside.
    (let known = some_value (g.V.CalendarView.known c.args.view.now c.args.spot.cell.0) c.requires.known in
    let is : a c.args.task.now.request.goal.0 ≡ known.0 = sym (ap (λ (z : Cell). a z.0) cell) ∙ agrees c.args.spot.cell.0 known.0 known.1 in
    let safe = c.requires.safe known.0 known.1 in
    never_ends c.args.task.now.request a known.0 is (c.args.spot.interval.to + 1) t c.if-not-task.false (omega (arith, inside.1))
    (taken_after known.0 c.args.task.now.horizon c.args.spot.interval safe c.if-spot-task-2.true))

pub returns-then-place_of-records-clause-no : goal.returns-then-place_of-records-clause-no
returns-then-place_of-records-clause-no g c = λ a agrees cell t inside.
    (let known : List Record = c.calendar-calendar.result.now in
    let is : a c.args.task.now.request.goal.0 ≡ known = sym (ap (λ (z : Cell). a z.0) cell) ∙ agrees c.args.spot.cell.0 known c.calendar-calendar.ensures in
    let safe = c.requires.safe known c.calendar-calendar.ensures in
    let differ : place_in c.args.task.now.horizon known ≢ length known = λ e. c.if-place_of-records.true (c.place_of.ensures.place ∙ (e ∙ ap length (sym c.records.ensures.value))) in
    let later = taken_later known c.args.task.now.horizon c.records.ensures.ordered differ in
    never_ends c.args.task.now.request a known is later.0 t c.if-not-task.false (omega (arith, inside.1, safe.within, later.1)) later.2)

pub returns-clause-yes : goal.returns-clause-yes
returns-clause-yes g c = (
  same_cells c.args.spot.cell c.args.task.now.request.goal c.if-spot-task.false,
  (λ a agrees t inside.
      let known : List Record = c.calendar-calendar.result.now in
      let cell : c.args.spot.cell ≡ c.args.task.now.request.goal = same_cells c.args.spot.cell c.args.task.now.request.goal c.if-spot-task.false in
      let is : a c.args.task.now.request.goal.0 ≡ known = sym (ap (λ (z : Cell). a z.0) cell) ∙ agrees c.args.spot.cell.0 known c.calendar-calendar.ensures in
      let safe = c.requires.safe known c.calendar-calendar.ensures in
      let all : place_in c.args.task.now.horizon known ≡ length known = sym c.place_of.ensures.place ∙ (c.if-place_of-records.false ∙ ap length c.records.ensures.value) in
      ends_free c.args.task.now.request a known is t (λ s le. free_for_ever known c.args.task.now.horizon c.args.spot.interval safe c.if-spot-task-2.false all t s inside le)),
)
