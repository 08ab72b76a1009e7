use Rattle.std.proofs.Common.{rules, arith, subst, sym, ap, ◌∙◌, refl, ◌≡◌, ◌<◌, ◌+◌, ◌^◌, ℕ, length, vec_len, Some, slice_get}
use Rattle.bucket_queue.specs.Queue.{Queue}
use Rattle.sipp_search.specs.declared.states.Arena.{Arena}
use Rattle.sipp_search.specs.Marks.{spots_of, final}
use Rattle.sipp_search.specs.Progress.{IsUnderWay}
use Rattle.sipp_search.specs.Running.{IsOver}
use Rattle.sipp_search.proofs.Marking.{count_within}
use Rattle.sipp_search.proofs.Blocks.{spots_right}
use Rattle.sipp_search.proofs.Moving.{kept_twice, agrees_before}
use Rattle.sipp_search.proofs.Ending.{over_now, settled_next_way, settled_count, settled_stands, settled_sound, one_more_of, lists_before, interval_grows, states_within, queued_inside}
use Rattle.sipp_search.proofs.run.settle_ties.Goals as goal

pub expand-requires-clause-sound : goal.expand-requires-clause-sound
expand-requires-clause-sound g c =
    settled_sound c.args.task.now.grid.now c.args.task.now.request c.args.task.now.horizon (g.V.CalendarView.known c.loop-taken.view) (g.V.CalendarView.size c.loop-taken.view) c.loop-taken.arena c.settle_next.new.arena c.args.limit c.in-Some.taken c.loop-taken.invariant.paused.sound c.in-Some.ensures.some

pub expand-requires-clause-taken : goal.expand-requires-clause-taken
expand-requires-clause-taken g c =
    record {
      stands = settled_stands c.loop-taken.arena c.settle_next.new.arena c.args.limit c.in-Some.taken c.in-Some.ensures.some;
      inside = queued_inside c.args.task.now.grid.now c.args.task.now.request c.args.task.now.horizon (g.V.CalendarView.known c.loop-taken.view) c.loop-taken.arena.states.items c.loop-taken.arena.queue.floor c.in-Some.taken.id c.in-Some.taken.arrival c.in-Some.taken.spot c.loop-taken.invariant.paused.way c.in-Some.ensures.some.was;
      floor = ap (λ (z : Queue). z.floor) c.in-Some.ensures.some.queue_is;
    }

pub loop-taken-smaller : goal.loop-taken-smaller
loop-taken-smaller g c =
    let len : vec_len c.loop-taken.arena.states ≡ length c.loop-taken.arena.states.items = search rules in
    let fits : vec_len c.loop-taken.arena.states < 2 ^ 63 = search rules in
    omega (arith, count_within c.loop-taken.arena.states.items, c.in_ok-expand.ensures.improves.count, settled_count c.loop-taken.arena c.settle_next.new.arena c.args.limit c.in-Some.taken c.in-Some.ensures.some)

pub returns-in_err-expand-clause-takes : goal.returns-in_err-expand-clause-takes
returns-in_err-expand-clause-takes g c =
    λ lists are.
    (let sound = settled_sound c.args.task.now.grid.now c.args.task.now.request c.args.task.now.horizon (g.V.CalendarView.known c.loop-taken.view) (g.V.CalendarView.size c.loop-taken.view) c.loop-taken.arena c.settle_next.new.arena c.args.limit c.in-Some.taken c.loop-taken.invariant.paused.sound c.in-Some.ensures.some in
    let within = states_within c.args.task.now.grid.now c.args.task.now.request c.args.task.now.horizon (g.V.CalendarView.known c.loop-taken.view) (g.V.CalendarView.size c.loop-taken.view) c.settle_next.new.arena lists (c.loop-taken.invariant.cells ∙ c.requires.ready.size_is) sound (lists_before (g.V.CalendarView.known c.loop-taken.view) (g.V.CalendarView.known c.expand.new.view) c.args.task.now.horizon lists c.in_err-expand.ensures.kept are) in
    let grows = interval_grows (g.V.CalendarView.known c.loop-taken.view) (g.V.CalendarView.known c.expand.new.view) lists (g.V.CalendarView.size c.loop-taken.view) c.in_err-expand.ensures.kept in
    rw c.in_err-expand.ensures.cells (omega (arith, c.tick.ensures, c.loop-taken.invariant.count, settled_count c.loop-taken.arena c.settle_next.new.arena c.args.limit c.in-Some.taken c.in-Some.ensures.some)))

pub returns-clause-takes : goal.returns-clause-takes
returns-clause-takes g c =
    λ lists are.
    (let within = states_within c.args.task.now.grid.now c.args.task.now.request c.args.task.now.horizon (g.V.CalendarView.known c.loop-taken.view) (g.V.CalendarView.size c.loop-taken.view) c.loop-taken.arena lists (c.loop-taken.invariant.cells ∙ c.requires.ready.size_is) c.loop-taken.invariant.paused.sound are in
    omega (arith, c.loop-taken.invariant.count))

pub loop-taken-preserved : goal.loop-taken-preserved
loop-taken-preserved g c =
    let more = one_more_of c.loop-taken.arena c.settle_next.new.arena c.expand.new.arena.states.items c.args.limit c.in-Some.taken c.in-Some.ensures.some c.in_ok-expand.ensures.improves in
    let floor : c.expand.new.arena.queue.floor ≡ c.in-Some.taken.arrival + c.in-Some.taken.spot.left = c.in_ok-expand.ensures.floor ∙ ap (λ (z : Queue). z.floor) c.in-Some.ensures.some.queue_is in
    let same : c.loop-taken.arena.queue.floor ≡ c.expand.new.arena.queue.floor = omega (arith, c.in-Some.ensures.some.rises, c.in-Some.ensures.some.in_limit, c.loop-taken.invariant.floor) in
    record {
      cells = c.in_ok-expand.ensures.cells ∙ c.loop-taken.invariant.cells;
      went = g.met.V.CalendarView.goes_on _ _ _ c.loop-taken.invariant.went c.in_ok-expand.ensures.went;
      kept = kept_twice _ _ _ c.loop-taken.invariant.kept c.in_ok-expand.ensures.kept;
      paused = record {
        sound = c.in_ok-expand.ensures.sound;
        in_time = omega (arith, c.loop-taken.invariant.paused.in_time);
        on = record {
          place = c.loop-taken.invariant.paused.on.place;
          spot = c.loop-taken.invariant.paused.on.spot;
          stands = subst (λ (n : ℕ). slice_get c.expand.new.arena.states.items c.loop-taken.invariant.paused.on.place ≡ Some (final c.loop-taken.invariant.paused.on.spot n)) same
              (more.kept c.loop-taken.invariant.paused.on.place c.loop-taken.arena.queue.floor c.loop-taken.invariant.paused.on.spot c.loop-taken.invariant.paused.on.stands);
          cell_is = c.loop-taken.invariant.paused.on.cell_is;
        };
        way = λ a x agrees.
            (let before = agrees_before a (g.V.CalendarView.known c.loop-taken.view) (g.V.CalendarView.known c.expand.new.view) c.in_ok-expand.ensures.kept agrees in
            let settled = settled_next_way c.args.task.now.grid.now c.args.task.now.request c.args.task.now.horizon a c.requires.ready.bound c.loop-taken.arena c.settle_next.new.arena c.args.limit c.in-Some.taken
            (spots_right c.args.task.now.grid.now c.args.task.now.request.goal c.args.task.now.horizon (g.V.CalendarView.known c.loop-taken.view) (spots_of c.loop-taken.arena.states.items) c.loop-taken.arena.newest c.args.task.now.request a refl c.loop-taken.invariant.paused.sound.arranged before)
            (λ y. c.loop-taken.invariant.paused.way a y before) c.in-Some.ensures.some in
            subst (λ (n : ℕ). IsUnderWay c.args.task.now.grid.now c.args.task.now.request c.args.task.now.horizon a c.expand.new.arena.states.items n x) (sym c.in_ok-expand.ensures.floor) (c.in_ok-expand.ensures.led a x agrees settled));
      };
      floor = sym same ∙ c.loop-taken.invariant.floor;
      rises = omega (arith, c.tick.ensures, c.loop-taken.invariant.rises);
      count = omega (arith, c.tick.ensures, c.loop-taken.invariant.count, c.in_ok-expand.ensures.improves.count, settled_count c.loop-taken.arena c.settle_next.new.arena c.args.limit c.in-Some.taken c.in-Some.ensures.some);
    }

pub returns-clause-over : goal.returns-clause-over
returns-clause-over g c =
    λ a agrees.
    subst (λ (z : Arena). IsOver c.args.task.now.grid.now c.args.task.now.request c.args.task.now.horizon a z.states.items c.args.limit) (sym c.in_default.ensures.none)
    (over_now c.args.task.now.grid.now c.args.task.now.request c.args.task.now.horizon a c.requires.ready.bound c.loop-taken.arena.states.items c.loop-taken.arena.queue.floor c.args.limit
    (spots_right c.args.task.now.grid.now c.args.task.now.request.goal c.args.task.now.horizon (g.V.CalendarView.known c.loop-taken.view) (spots_of c.loop-taken.arena.states.items) c.loop-taken.arena.newest c.args.task.now.request a refl c.loop-taken.invariant.paused.sound.arranged agrees)
    (λ x. c.loop-taken.invariant.paused.way a x agrees) c.in_default.ensures.above (omega (arith, c.loop-taken.invariant.floor)) (omega (arith, c.loop-taken.invariant.floor, c.loop-taken.invariant.paused.in_time)))
