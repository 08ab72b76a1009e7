use Rattle.std.proofs.Common.{arith, refl}
use Rattle.fleet_base.specs.declared.grid.Side.TheVariants.{Up, Left, Right, Down}
use Rattle.sipp_search.specs.declared.states.State.{State}
use Rattle.sipp_search.specs.Marks.{final}
use Rattle.sipp_search.proofs.Lists.{stands_map}
use Rattle.sipp_search.proofs.Marking.{improves-trans}
use Rattle.sipp_search.proofs.Moving.{loads_first, loads_more, made_none, made_more, made_all}
use Rattle.sipp_search.proofs.expand.expand.Goals as goal

pub place_of-place-requires : goal.place_of-place-requires
place_of-place-requires g c =
    let at = stands_map (λ (z : State). z.spot) c.args.arena.now.states.items c.args.taken.id (final c.args.taken.spot c.args.taken.arrival) c.requires.taken.stands in
    let of = c.requires.sound.arranged.each c.args.taken.id c.args.taken.spot at in
    omega (arith, g.met.V.CalendarView.below c.args.view.now c.args.taken.spot.cell.0 (rw of.known_is refl), c.requires.ready.size_is)

pub move_to-requires-clause-placed : goal.move_to-requires-clause-placed
move_to-requires-clause-placed g c =
    let at = stands_map (λ (z : State). z.spot) c.args.arena.now.states.items c.args.taken.id (final c.args.taken.spot c.args.taken.arrival) c.requires.taken.stands in
    (c.args.taken.id, at)

pub move_to-requires-2-clause-placed : goal.move_to-requires-2-clause-placed
move_to-requires-2-clause-placed g c =
    let at = stands_map (λ (z : State). z.spot) c.args.arena.now.states.items c.args.taken.id (final c.args.taken.spot c.args.taken.arrival) c.requires.taken.stands in
    (c.args.taken.id, c.in_ok-move_to.ensures.spots c.args.taken.id c.args.taken.spot at)

pub move_to-requires-3-clause-placed : goal.move_to-requires-3-clause-placed
move_to-requires-3-clause-placed g c =
    let at = stands_map (λ (z : State). z.spot) c.args.arena.now.states.items c.args.taken.id (final c.args.taken.spot c.args.taken.arrival) c.requires.taken.stands in
    (c.args.taken.id, c.in_ok-move_to-2.ensures.spots c.args.taken.id c.args.taken.spot (c.in_ok-move_to.ensures.spots c.args.taken.id c.args.taken.spot at))

pub move_to-requires-4-clause-placed : goal.move_to-requires-4-clause-placed
move_to-requires-4-clause-placed g c =
    let at = stands_map (λ (z : State). z.spot) c.args.arena.now.states.items c.args.taken.id (final c.args.taken.spot c.args.taken.arrival) c.requires.taken.stands in
    (c.args.taken.id, c.in_ok-move_to-3.ensures.spots c.args.taken.id c.args.taken.spot (c.in_ok-move_to-2.ensures.spots c.args.taken.id c.args.taken.spot (c.in_ok-move_to.ensures.spots c.args.taken.id c.args.taken.spot at)))

pub returns-in_err-move_to-clause-loads : goal.returns-in_err-move_to-clause-loads
returns-in_err-move_to-clause-loads g c =
    let terrain = c.args.task.now.grid.now in
    let cell = c.args.taken.spot.cell in
    let old = g.V.CalendarView.known c.args.view.now in
    loads_first terrain cell Down old (g.V.CalendarView.known c.move_to.new.view) c.in_err-move_to.ensures.loads

pub returns-in_err-move_to-2-clause-loads : goal.returns-in_err-move_to-2-clause-loads
returns-in_err-move_to-2-clause-loads g c =
    let terrain = c.args.task.now.grid.now in
    let cell = c.args.taken.spot.cell in
    let old = g.V.CalendarView.known c.args.view.now in
    let first = loads_first terrain cell Down old (g.V.CalendarView.known c.move_to.new.view) c.in_ok-move_to.ensures.loads in
    loads_more terrain cell Right old (g.V.CalendarView.known c.move_to.new.view) (g.V.CalendarView.known c.move_to-2.new.view) first c.in_err-move_to-2.ensures.loads

pub returns-in_err-move_to-3-clause-loads : goal.returns-in_err-move_to-3-clause-loads
returns-in_err-move_to-3-clause-loads g c =
    let terrain = c.args.task.now.grid.now in
    let cell = c.args.taken.spot.cell in
    let old = g.V.CalendarView.known c.args.view.now in
    let first = loads_first terrain cell Down old (g.V.CalendarView.known c.move_to.new.view) c.in_ok-move_to.ensures.loads in
    let second = loads_more terrain cell Right old (g.V.CalendarView.known c.move_to.new.view) (g.V.CalendarView.known c.move_to-2.new.view) first c.in_ok-move_to-2.ensures.loads in
    loads_more terrain cell Left old (g.V.CalendarView.known c.move_to-2.new.view) (g.V.CalendarView.known c.move_to-3.new.view) second c.in_err-move_to-3.ensures.loads

pub returns-in_err-move_to-4-clause-loads : goal.returns-in_err-move_to-4-clause-loads
returns-in_err-move_to-4-clause-loads g c =
    let terrain = c.args.task.now.grid.now in
    let cell = c.args.taken.spot.cell in
    let old = g.V.CalendarView.known c.args.view.now in
    let first = loads_first terrain cell Down old (g.V.CalendarView.known c.move_to.new.view) c.in_ok-move_to.ensures.loads in
    let second = loads_more terrain cell Right old (g.V.CalendarView.known c.move_to.new.view) (g.V.CalendarView.known c.move_to-2.new.view) first c.in_ok-move_to-2.ensures.loads in
    let third = loads_more terrain cell Left old (g.V.CalendarView.known c.move_to-2.new.view) (g.V.CalendarView.known c.move_to-3.new.view) second c.in_ok-move_to-3.ensures.loads in
    loads_more terrain cell Up old (g.V.CalendarView.known c.move_to-3.new.view) (g.V.CalendarView.known c.move_to-4.new.view) third c.in_err-move_to-4.ensures.loads

pub returns-clause-loads : goal.returns-clause-loads
returns-clause-loads g c =
    let terrain = c.args.task.now.grid.now in
    let cell = c.args.taken.spot.cell in
    let old = g.V.CalendarView.known c.args.view.now in
    let first = loads_first terrain cell Down old (g.V.CalendarView.known c.move_to.new.view) c.in_ok-move_to.ensures.loads in
    let second = loads_more terrain cell Right old (g.V.CalendarView.known c.move_to.new.view) (g.V.CalendarView.known c.move_to-2.new.view) first c.in_ok-move_to-2.ensures.loads in
    let third = loads_more terrain cell Left old (g.V.CalendarView.known c.move_to-2.new.view) (g.V.CalendarView.known c.move_to-3.new.view) second c.in_ok-move_to-3.ensures.loads in
    loads_more terrain cell Up old (g.V.CalendarView.known c.move_to-3.new.view) (g.V.CalendarView.known c.move_to-4.new.view) third c.in_ok-move_to-4.ensures.loads

pub returns-clause-improves : goal.returns-clause-improves
returns-clause-improves g c =
    let second = improves-trans _ _ _ c.in_ok-move_to.ensures.improves c.in_ok-move_to-2.ensures.improves in
    let third = improves-trans _ _ _ second c.in_ok-move_to-3.ensures.improves in
    improves-trans _ _ _ third c.in_ok-move_to-4.ensures.improves

pub returns-clause-led : goal.returns-clause-led
returns-clause-led g c = λ a x agrees way.
    (let terrain = c.args.task.now.grid.now in
    let q = c.args.task.now.request in
    let horizon = c.args.task.now.horizon in
    let spot = c.args.taken.spot in
    let r = c.args.taken.arrival in
    let old = c.args.arena.now.states.items in
    let floor = c.args.arena.now.queue.floor in
    let none = made_none terrain q horizon spot r (g.V.CalendarView.known c.args.view.now) old floor in
    let down = made_more terrain q horizon spot r Down 0 (g.V.CalendarView.known c.args.view.now) (g.V.CalendarView.known c.move_to.new.view) old c.args.arena.now.states.items c.move_to.new.arena.states.items floor c.args.arena.now.queue.floor c.move_to.new.arena.queue.floor (omega arith) none
    c.in_ok-move_to.ensures.kept c.in_ok-move_to.ensures.floor c.in_ok-move_to.ensures.improves c.in_ok-move_to.ensures.led in
    let right = made_more terrain q horizon spot r Right 1 (g.V.CalendarView.known c.move_to.new.view) (g.V.CalendarView.known c.move_to-2.new.view) old c.move_to.new.arena.states.items c.move_to-2.new.arena.states.items floor c.move_to.new.arena.queue.floor c.move_to-2.new.arena.queue.floor (omega arith) down
    c.in_ok-move_to-2.ensures.kept c.in_ok-move_to-2.ensures.floor c.in_ok-move_to-2.ensures.improves c.in_ok-move_to-2.ensures.led in
    let left = made_more terrain q horizon spot r Left 2 (g.V.CalendarView.known c.move_to-2.new.view) (g.V.CalendarView.known c.move_to-3.new.view) old c.move_to-2.new.arena.states.items c.move_to-3.new.arena.states.items floor c.move_to-2.new.arena.queue.floor c.move_to-3.new.arena.queue.floor (omega arith) right
    c.in_ok-move_to-3.ensures.kept c.in_ok-move_to-3.ensures.floor c.in_ok-move_to-3.ensures.improves c.in_ok-move_to-3.ensures.led in
    let up = made_more terrain q horizon spot r Up 3 (g.V.CalendarView.known c.move_to-3.new.view) (g.V.CalendarView.known c.move_to-4.new.view) old c.move_to-3.new.arena.states.items c.move_to-4.new.arena.states.items floor c.move_to-3.new.arena.queue.floor c.move_to-4.new.arena.queue.floor (omega arith) left
    c.in_ok-move_to-4.ensures.kept c.in_ok-move_to-4.ensures.floor c.in_ok-move_to-4.ensures.improves c.in_ok-move_to-4.ensures.led in
    made_all terrain q horizon a spot r c.args.taken.id x (g.V.CalendarView.known c.move_to-4.new.view) old c.move_to-4.new.arena.states.items floor c.move_to-4.new.arena.queue.floor up c.requires.taken.stands agrees way)
