use Rattle.std.proofs.Common.{arith, subst, sym, ◌≡◌, ◌<◌, ◌-◌, ℕ, false}
use Rattle.fleet_base.specs.declared.grid.Cell.{Cell}
use Rattle.fleet_base.proofs.CanonicalLemmas.{beside_once}
use Rattle.calendars.specs.Records.{is_exchange}
use Rattle.sipp_search.specs.Progress.{HasFinal}
use Rattle.sipp_search.specs.Back.{IsHopFrom}
use Rattle.sipp_search.proofs.Backward.{final_known, hop_found, hop_final}
use Rattle.sipp_search.proofs.back.hop_from.Goals as goal

pub neighbour-requires : goal.neighbour-requires
neighbour-requires g c =
    let on = c.requires.on in
    let known = final_known c.args.task.now.grid.now c.args.task.now.request c.args.task.now.horizon (g.V.CalendarView.known c.args.view.now) (g.V.CalendarView.size c.args.view.now)
    c.args.arena.now c.requires.sound on.place c.args.entered on.spot c.args.at on.stands on.cell_is in
    let below : c.args.at.0 < g.V.CalendarView.size c.args.view.now = g.met.V.CalendarView.below c.args.view.now c.args.at.0 known in
    omega (arith, below, c.requires.ready.size_is)

pub returns-in_default-last_arrival-clause-none : goal.returns-in_default-last_arrival-clause-none
returns-in_default-last_arrival-clause-none g c = λ a limit agrees over n u beside time can.
    (let has = hop_final c.args.task.now.grid.now c.args.task.now.request c.args.task.now.horizon a c.requires.ready.bound c.args.arena.now.states.items limit over
    c.args.at n c.args.entered u c.args.side c.requires.on time beside can in
    let same : n ≡ c.in-Some.cell = beside_once c.args.task.now.grid.now c.args.side c.args.at n c.in-Some.cell beside c.in-Some.ensures.beside in
    let before : u ≡ c.args.entered - 1 = omega arith in
    c.in_default-last_arrival.ensures.none (g.V.CalendarView.known c.args.view.now) (g.V.CalendarView.size c.args.view.now) c.requires.sound
    (subst (λ (m : ℕ). HasFinal c.args.arena.now.states.items c.in-Some.cell m) before (subst (λ (z : Cell). HasFinal c.args.arena.now.states.items z u) same has)))

pub calendar-requires : goal.calendar-requires
calendar-requires g c =
    let has = c.in-Some-last_arrival.ensures.some.0 in
    final_known c.args.task.now.grid.now c.args.task.now.request c.args.task.now.horizon (g.V.CalendarView.known c.args.view.now) (g.V.CalendarView.size c.args.view.now)
    c.args.arena.now c.requires.sound has.place has.arrival has.spot c.in-Some.cell has.stands has.cell_is

pub calendar-requires-2 : goal.calendar-requires-2
calendar-requires-2 g c =
    let on = c.requires.on in
    final_known c.args.task.now.grid.now c.args.task.now.request c.args.task.now.horizon (g.V.CalendarView.known c.args.view.now) (g.V.CalendarView.size c.args.view.now)
    c.args.arena.now c.requires.sound on.place c.args.entered on.spot c.args.at on.stands on.cell_is

pub returns-clause-hop : goal.returns-clause-hop
returns-clause-hop g c = λ a limit agrees over.
    (let some = c.in-Some-last_arrival.ensures.some in
    let here : a c.in-Some.cell.0 ≡ c.calendar.result.now = agrees c.in-Some.cell.0 c.calendar.result.now c.calendar.ensures in
    let there : a c.args.at.0 ≡ c.calendar-2.result.now = agrees c.args.at.0 c.calendar-2.result.now c.calendar-2.ensures in
    let unbarred : is_exchange (a c.in-Some.cell.0) (a c.args.at.0) (c.args.entered - 1) ≡ false = rw (here, there) (sym c.if-crossing.ensures) in
    subst (λ (m : ℕ). IsHopFrom c.args.task.now.grid.now c.args.task.now.request a c.args.arena.now.states.items c.args.at c.args.entered c.args.side c.in-Some.cell m) some.1
    (hop_found c.args.task.now.grid.now c.args.task.now.request c.args.task.now.horizon a c.requires.ready.bound c.args.arena.now.states.items limit over
    c.args.at c.in-Some.cell c.args.entered (c.args.entered - 1) c.args.side c.requires.on (omega (arith, c.if-entered-eq0.false)) c.in-Some.ensures.beside some.0 unbarred))
