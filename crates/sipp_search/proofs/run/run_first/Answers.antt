use Rattle.std.proofs.Common.{rules, arith, subst, sym, ap, ◌∙◌, refl, ◌≡◌, ◌<◌, ◌+◌, ◌^◌, ℕ, List, length, vec_len, Some, slice_get}
use Rattle.std.proofs.lemmas.Option.{same_Some}
use Rattle.bucket_queue.specs.Queue.{Queue}
use Rattle.fleet_base.specs.declared.request.Record.{Record}
use Rattle.calendars.specs.Assignments.{Assignment, Agrees}
use Rattle.safe_intervals.specs.Safe.{IsIn, IsSafeInterval}
use Rattle.sipp_search.specs.declared.states.State.{State}
use Rattle.sipp_search.specs.Marks.{spots_of, final}
use Rattle.sipp_search.specs.Progress.{IsUnderWay}
use Rattle.sipp_search.specs.Running.{EndsAt}
use Rattle.sipp_search.specs.Tabled.{table_from}
use Rattle.sipp_search.specs.Ties.{IsFirstArrival}
use Rattle.sipp_search.proofs.Lists.{stands_map}
use Rattle.sipp_search.proofs.Marking.{count_within}
use Rattle.sipp_search.proofs.Blocks.{of_arena, spots_right}
use Rattle.sipp_search.proofs.Moving.{kept_twice, agrees_before, some_of}
use Rattle.sipp_search.proofs.Answering.{none_right}
use Rattle.sipp_search.proofs.Paused.{first_arrival}
use Rattle.sipp_search.proofs.Ending.{over_now, settled_next_way, settled_count, settled_stands, settled_sound, one_more_of, goal_left, lists_before, interval_grows, states_within, queued_inside, ends_found, ends_none}
use Rattle.sipp_search.proofs.run.run_first.Goals as goal

pub expand-requires-clause-sound : goal.expand-requires-clause-sound
expand-requires-clause-sound g c =
    settled_sound c.args.task.now.grid.now c.args.task.now.request c.args.task.now.horizon (g.V.CalendarView.known c.loop-taken.view) (g.V.CalendarView.size c.loop-taken.view) c.loop-taken.arena c.settle_next.new.arena c.args.task.now.horizon c.in-Some.taken c.loop-taken.invariant.sound c.in-Some.ensures.some

pub expand-requires-clause-taken : goal.expand-requires-clause-taken
expand-requires-clause-taken g c =
    record {
      stands = settled_stands c.loop-taken.arena c.settle_next.new.arena c.args.task.now.horizon c.in-Some.taken c.in-Some.ensures.some;
      inside = queued_inside c.args.task.now.grid.now c.args.task.now.request c.args.task.now.horizon (g.V.CalendarView.known c.loop-taken.view) c.loop-taken.arena.states.items c.loop-taken.arena.queue.floor c.in-Some.taken.id c.in-Some.taken.arrival c.in-Some.taken.spot c.loop-taken.invariant.way c.in-Some.ensures.some.was;
      floor = ap (λ (z : Queue). z.floor) c.in-Some.ensures.some.queue_is;
    }

pub loop-taken-smaller : goal.loop-taken-smaller
loop-taken-smaller g c =
    let len : vec_len c.loop-taken.arena.states ≡ length c.loop-taken.arena.states.items = search rules in
    let fits : vec_len c.loop-taken.arena.states < 2 ^ 63 = search rules in
    omega (arith, count_within c.loop-taken.arena.states.items, c.in_ok-expand.ensures.improves.count, settled_count c.loop-taken.arena c.settle_next.new.arena c.args.task.now.horizon c.in-Some.taken c.in-Some.ensures.some)

pub returns-in_err-expand-clause-takes : goal.returns-in_err-expand-clause-takes
returns-in_err-expand-clause-takes g c =
    λ lists are.
    (let sound = settled_sound c.args.task.now.grid.now c.args.task.now.request c.args.task.now.horizon (g.V.CalendarView.known c.loop-taken.view) (g.V.CalendarView.size c.loop-taken.view) c.loop-taken.arena c.settle_next.new.arena c.args.task.now.horizon c.in-Some.taken c.loop-taken.invariant.sound c.in-Some.ensures.some in
    let within = states_within c.args.task.now.grid.now c.args.task.now.request c.args.task.now.horizon (g.V.CalendarView.known c.loop-taken.view) (g.V.CalendarView.size c.loop-taken.view) c.settle_next.new.arena lists (c.loop-taken.invariant.cells ∙ c.requires.ready.size_is) sound (lists_before (g.V.CalendarView.known c.loop-taken.view) (g.V.CalendarView.known c.expand.new.view) c.args.task.now.horizon lists c.in_err-expand.ensures.kept are) in
    let grows = interval_grows (g.V.CalendarView.known c.loop-taken.view) (g.V.CalendarView.known c.expand.new.view) lists (g.V.CalendarView.size c.loop-taken.view) c.in_err-expand.ensures.kept in
    rw c.in_err-expand.ensures.cells (omega (arith, c.tick.ensures, c.loop-taken.invariant.count, settled_count c.loop-taken.arena c.settle_next.new.arena c.args.task.now.horizon c.in-Some.taken c.in-Some.ensures.some)))

pub returns-clause-takes : goal.returns-clause-takes
returns-clause-takes g c =
    λ lists are.
    (let within = states_within c.args.task.now.grid.now c.args.task.now.request c.args.task.now.horizon (g.V.CalendarView.known c.loop-taken.view) (g.V.CalendarView.size c.loop-taken.view) c.loop-taken.arena lists (c.loop-taken.invariant.cells ∙ c.requires.ready.size_is) c.loop-taken.invariant.sound are in
    omega (arith, c.loop-taken.invariant.count))

pub may_end-requires-clause-known : goal.may_end-requires-clause-known
may_end-requires-clause-known g c =
    let at = c.in_ok-expand.ensures.spots c.in-Some.taken.id c.in-Some.taken.spot
    (stands_map (λ (z : State). z.spot) c.settle_next.new.arena.states.items c.in-Some.taken.id (final c.in-Some.taken.spot c.in-Some.taken.arrival) (settled_stands c.loop-taken.arena c.settle_next.new.arena c.args.task.now.horizon c.in-Some.taken c.in-Some.ensures.some)) in
    let of = of_arena c.args.task.now.grid.now c.args.task.now.request.goal c.args.task.now.horizon (g.V.CalendarView.known c.expand.new.view) (spots_of c.expand.new.arena.states.items) c.expand.new.arena.newest c.in-Some.taken.id c.in-Some.taken.spot c.in_ok-expand.ensures.sound.arranged at in
    some_of (g.V.CalendarView.known c.expand.new.view c.in-Some.taken.spot.cell.0) of.records of.known_is

pub may_end-requires-clause-safe : goal.may_end-requires-clause-safe
may_end-requires-clause-safe g c =
    λ records is.
    (let at = c.in_ok-expand.ensures.spots c.in-Some.taken.id c.in-Some.taken.spot
    (stands_map (λ (z : State). z.spot) c.settle_next.new.arena.states.items c.in-Some.taken.id (final c.in-Some.taken.spot c.in-Some.taken.arrival) (settled_stands c.loop-taken.arena c.settle_next.new.arena c.args.task.now.horizon c.in-Some.taken c.in-Some.ensures.some)) in
    let of = of_arena c.args.task.now.grid.now c.args.task.now.request.goal c.args.task.now.horizon (g.V.CalendarView.known c.expand.new.view) (spots_of c.expand.new.arena.states.items) c.expand.new.arena.newest c.in-Some.taken.id c.in-Some.taken.spot c.in_ok-expand.ensures.sound.arranged at in
    let same : of.records ≡ records = same_Some of.records records (sym of.known_is ∙ is) in
    subst (λ (rs : List Record). IsSafeInterval rs c.args.task.now.horizon c.in-Some.taken.spot.interval) same of.safe)

pub returns-then-may_end-clause-takes : goal.returns-then-may_end-clause-takes
returns-then-may_end-clause-takes g c =
    λ lists are.
    (let within = states_within c.args.task.now.grid.now c.args.task.now.request c.args.task.now.horizon (g.V.CalendarView.known c.expand.new.view) (g.V.CalendarView.size c.expand.new.view) c.expand.new.arena lists (c.in_ok-expand.ensures.cells ∙ (c.loop-taken.invariant.cells ∙ c.requires.ready.size_is)) c.in_ok-expand.ensures.sound are in
    omega (arith, c.tick.ensures, c.loop-taken.invariant.count, c.in_ok-expand.ensures.improves.count, settled_count c.loop-taken.arena c.settle_next.new.arena c.args.task.now.horizon c.in-Some.taken c.in-Some.ensures.some))

pub returns-then-may_end-clause-counted : goal.returns-then-may_end-clause-counted
returns-then-may_end-clause-counted g c =
    omega (arith, c.tick.ensures, c.loop-taken.invariant.count, c.in_ok-expand.ensures.improves.count, settled_count c.loop-taken.arena c.settle_next.new.arena c.args.task.now.horizon c.in-Some.taken c.in-Some.ensures.some)

pub returns-then-may_end-clause-paused : goal.returns-then-may_end-clause-paused
returns-then-may_end-clause-paused g c =
    let at = c.in_ok-expand.ensures.spots c.in-Some.taken.id c.in-Some.taken.spot
    (stands_map (λ (z : State). z.spot) c.settle_next.new.arena.states.items c.in-Some.taken.id (final c.in-Some.taken.spot c.in-Some.taken.arrival) (settled_stands c.loop-taken.arena c.settle_next.new.arena c.args.task.now.horizon c.in-Some.taken c.in-Some.ensures.some)) in
    let of = of_arena c.args.task.now.grid.now c.args.task.now.request.goal c.args.task.now.horizon (g.V.CalendarView.known c.expand.new.view) (spots_of c.expand.new.arena.states.items) c.expand.new.arena.newest c.in-Some.taken.id c.in-Some.taken.spot c.in_ok-expand.ensures.sound.arranged at in
    let more = one_more_of c.loop-taken.arena c.settle_next.new.arena c.expand.new.arena.states.items c.args.task.now.horizon c.in-Some.taken c.in-Some.ensures.some c.in_ok-expand.ensures.improves in
    let floor : c.expand.new.arena.queue.floor ≡ c.in-Some.taken.arrival + c.in-Some.taken.spot.left = c.in_ok-expand.ensures.floor ∙ ap (λ (z : Queue). z.floor) c.in-Some.ensures.some.queue_is in
    let yes = c.if-may_end.ensures.yes in
    let none_left : c.in-Some.taken.spot.left ≡ 0 = goal_left c.args.task.now.grid.now c.args.task.now.request.goal c.requires.ready.bound c.in-Some.taken.spot.cell c.in-Some.taken.spot.left yes.0 of.distance in
    let time : c.expand.new.arena.queue.floor ≡ c.in-Some.taken.arrival = omega arith in (
      record {
        sound = c.in_ok-expand.ensures.sound;
        in_time = omega (arith, c.in-Some.ensures.some.in_limit);
        on = record {
          place = c.in-Some.taken.id;
          spot = c.in-Some.taken.spot;
          stands = subst (λ (n : ℕ). slice_get c.expand.new.arena.states.items c.in-Some.taken.id ≡ Some (final c.in-Some.taken.spot n)) (sym time) more.there;
          cell_is = yes.0;
        };
        way = λ a x agrees.
            (let before = agrees_before a (g.V.CalendarView.known c.loop-taken.view) (g.V.CalendarView.known c.expand.new.view) c.in_ok-expand.ensures.kept agrees in
            let settled = settled_next_way c.args.task.now.grid.now c.args.task.now.request c.args.task.now.horizon a c.requires.ready.bound c.loop-taken.arena c.settle_next.new.arena c.args.task.now.horizon c.in-Some.taken
            (spots_right c.args.task.now.grid.now c.args.task.now.request.goal c.args.task.now.horizon (g.V.CalendarView.known c.loop-taken.view) (spots_of c.loop-taken.arena.states.items) c.loop-taken.arena.newest c.args.task.now.request a refl c.loop-taken.invariant.sound.arranged before)
            (λ y. c.loop-taken.invariant.way a y before) c.in-Some.ensures.some in
            subst (λ (n : ℕ). IsUnderWay c.args.task.now.grid.now c.args.task.now.request c.args.task.now.horizon a c.expand.new.arena.states.items n x) (sym c.in_ok-expand.ensures.floor) (c.in_ok-expand.ensures.led a x agrees settled));
      },
      time,
    )

pub returns-then-may_end-clause-first : goal.returns-then-may_end-clause-first
returns-then-may_end-clause-first g c =
    let at = c.in_ok-expand.ensures.spots c.in-Some.taken.id c.in-Some.taken.spot
    (stands_map (λ (z : State). z.spot) c.settle_next.new.arena.states.items c.in-Some.taken.id (final c.in-Some.taken.spot c.in-Some.taken.arrival) (settled_stands c.loop-taken.arena c.settle_next.new.arena c.args.task.now.horizon c.in-Some.taken c.in-Some.ensures.some)) in
    let of = of_arena c.args.task.now.grid.now c.args.task.now.request.goal c.args.task.now.horizon (g.V.CalendarView.known c.expand.new.view) (spots_of c.expand.new.arena.states.items) c.expand.new.arena.newest c.in-Some.taken.id c.in-Some.taken.spot c.in_ok-expand.ensures.sound.arranged at in
    let more = one_more_of c.loop-taken.arena c.settle_next.new.arena c.expand.new.arena.states.items c.args.task.now.horizon c.in-Some.taken c.in-Some.ensures.some c.in_ok-expand.ensures.improves in
    let floor : c.expand.new.arena.queue.floor ≡ c.in-Some.taken.arrival + c.in-Some.taken.spot.left = c.in_ok-expand.ensures.floor ∙ ap (λ (z : Queue). z.floor) c.in-Some.ensures.some.queue_is in
    let yes = c.if-may_end.ensures.yes in
    let none_left : c.in-Some.taken.spot.left ≡ 0 = goal_left c.args.task.now.grid.now c.args.task.now.request.goal c.requires.ready.bound c.in-Some.taken.spot.cell c.in-Some.taken.spot.left yes.0 of.distance in
    let time : c.expand.new.arena.queue.floor ≡ c.in-Some.taken.arrival = omega arith in
    let inside : IsIn c.in-Some.taken.arrival c.in-Some.taken.spot.interval =
    queued_inside c.args.task.now.grid.now c.args.task.now.request c.args.task.now.horizon (g.V.CalendarView.known c.loop-taken.view) c.loop-taken.arena.states.items c.loop-taken.arena.queue.floor c.in-Some.taken.id c.in-Some.taken.arrival c.in-Some.taken.spot c.loop-taken.invariant.way c.in-Some.ensures.some.was in
    let way : (a : Assignment) (x : ℕ) → Agrees a (g.V.CalendarView.known c.expand.new.view) → IsUnderWay c.args.task.now.grid.now c.args.task.now.request c.args.task.now.horizon a c.expand.new.arena.states.items c.expand.new.arena.queue.floor x = λ a x agrees.
    (let before = agrees_before a (g.V.CalendarView.known c.loop-taken.view) (g.V.CalendarView.known c.expand.new.view) c.in_ok-expand.ensures.kept agrees in
    let settled = settled_next_way c.args.task.now.grid.now c.args.task.now.request c.args.task.now.horizon a c.requires.ready.bound c.loop-taken.arena c.settle_next.new.arena c.args.task.now.horizon c.in-Some.taken
    (spots_right c.args.task.now.grid.now c.args.task.now.request.goal c.args.task.now.horizon (g.V.CalendarView.known c.loop-taken.view) (spots_of c.loop-taken.arena.states.items) c.loop-taken.arena.newest c.args.task.now.request a refl c.loop-taken.invariant.sound.arranged before)
    (λ y. c.loop-taken.invariant.way a y before) c.in-Some.ensures.some in
    subst (λ (n : ℕ). IsUnderWay c.args.task.now.grid.now c.args.task.now.request c.args.task.now.horizon a c.expand.new.arena.states.items n x) (sym c.in_ok-expand.ensures.floor) (c.in_ok-expand.ensures.led a x agrees settled)) in
    λ a agrees.
    (let ends = ends_found c.args.task.now.request a c.loop-taken.arena.states.items c.expand.new.arena.states.items c.in-Some.taken.id c.in-Some.taken.arrival c.in-Some.taken.spot more (c.loop-taken.invariant.ends a (agrees_before a (g.V.CalendarView.known c.loop-taken.view) (g.V.CalendarView.known c.expand.new.view) c.in_ok-expand.ensures.kept agrees)) yes.0 (λ t at'. yes.1 a agrees t at') inside in
    subst (λ (n : ℕ). IsFirstArrival c.args.task.now.grid.now c.args.task.now.request a n) time
    (first_arrival c.args.task.now.grid.now c.args.task.now.request c.args.task.now.horizon a c.requires.ready.bound c.expand.new.arena.states.items c.expand.new.arena.queue.floor
    (spots_right c.args.task.now.grid.now c.args.task.now.request.goal c.args.task.now.horizon (g.V.CalendarView.known c.expand.new.view) (spots_of c.expand.new.arena.states.items) c.expand.new.arena.newest c.args.task.now.request a refl c.in_ok-expand.ensures.sound.arranged agrees)
    (λ x. way a x agrees) (omega (arith, c.in-Some.ensures.some.in_limit)) (subst (λ (n : ℕ). EndsAt c.args.task.now.request a c.expand.new.arena.states.items n) (sym time) ends)))

pub loop-taken-preserved : goal.loop-taken-preserved
loop-taken-preserved g c =
    let at = c.in_ok-expand.ensures.spots c.in-Some.taken.id c.in-Some.taken.spot
    (stands_map (λ (z : State). z.spot) c.settle_next.new.arena.states.items c.in-Some.taken.id (final c.in-Some.taken.spot c.in-Some.taken.arrival) (settled_stands c.loop-taken.arena c.settle_next.new.arena c.args.task.now.horizon c.in-Some.taken c.in-Some.ensures.some)) in
    let of = of_arena c.args.task.now.grid.now c.args.task.now.request.goal c.args.task.now.horizon (g.V.CalendarView.known c.expand.new.view) (spots_of c.expand.new.arena.states.items) c.expand.new.arena.newest c.in-Some.taken.id c.in-Some.taken.spot c.in_ok-expand.ensures.sound.arranged at in
    let more = one_more_of c.loop-taken.arena c.settle_next.new.arena c.expand.new.arena.states.items c.args.task.now.horizon c.in-Some.taken c.in-Some.ensures.some c.in_ok-expand.ensures.improves in
    let floor : c.expand.new.arena.queue.floor ≡ c.in-Some.taken.arrival + c.in-Some.taken.spot.left = c.in_ok-expand.ensures.floor ∙ ap (λ (z : Queue). z.floor) c.in-Some.ensures.some.queue_is in
    record {
      cells = c.in_ok-expand.ensures.cells ∙ c.loop-taken.invariant.cells;
      went = g.met.V.CalendarView.goes_on _ _ _ c.loop-taken.invariant.went c.in_ok-expand.ensures.went;
      kept = kept_twice _ _ _ c.loop-taken.invariant.kept c.in_ok-expand.ensures.kept;
      sound = c.in_ok-expand.ensures.sound;
      low = omega (arith, c.in-Some.ensures.some.in_limit);
      count = omega (arith, c.tick.ensures, c.loop-taken.invariant.count, c.in_ok-expand.ensures.improves.count, settled_count c.loop-taken.arena c.settle_next.new.arena c.args.task.now.horizon c.in-Some.taken c.in-Some.ensures.some);
      way = λ a x agrees.
          (let before = agrees_before a (g.V.CalendarView.known c.loop-taken.view) (g.V.CalendarView.known c.expand.new.view) c.in_ok-expand.ensures.kept agrees in
          let settled = settled_next_way c.args.task.now.grid.now c.args.task.now.request c.args.task.now.horizon a c.requires.ready.bound c.loop-taken.arena c.settle_next.new.arena c.args.task.now.horizon c.in-Some.taken
          (spots_right c.args.task.now.grid.now c.args.task.now.request.goal c.args.task.now.horizon (g.V.CalendarView.known c.loop-taken.view) (spots_of c.loop-taken.arena.states.items) c.loop-taken.arena.newest c.args.task.now.request a refl c.loop-taken.invariant.sound.arranged before)
          (λ y. c.loop-taken.invariant.way a y before) c.in-Some.ensures.some in
          subst (λ (n : ℕ). IsUnderWay c.args.task.now.grid.now c.args.task.now.request c.args.task.now.horizon a c.expand.new.arena.states.items n x) (sym c.in_ok-expand.ensures.floor) (c.in_ok-expand.ensures.led a x agrees settled));
      ends = λ a agrees.
          ends_none c.args.task.now.request a c.loop-taken.arena.states.items c.expand.new.arena.states.items c.in-Some.taken.id c.in-Some.taken.arrival c.in-Some.taken.spot more (c.loop-taken.invariant.ends a (agrees_before a (g.V.CalendarView.known c.loop-taken.view) (g.V.CalendarView.known c.expand.new.view) c.in_ok-expand.ensures.kept agrees))
          (λ goal' t at'. c.if-may_end.ensures.no a agrees goal' t at');
    }

pub returns-clause-none : goal.returns-clause-none
returns-clause-none g c =
    λ a agrees.
    (none_right c.args.task.now.grid.now c.args.task.now.request c.args.task.now.horizon a c.requires.ready.bound c.loop-taken.arena.states.items (table_from c.loop-taken.arena.states.items)
    (over_now c.args.task.now.grid.now c.args.task.now.request c.args.task.now.horizon a c.requires.ready.bound c.loop-taken.arena.states.items c.loop-taken.arena.queue.floor c.args.task.now.horizon
    (spots_right c.args.task.now.grid.now c.args.task.now.request.goal c.args.task.now.horizon (g.V.CalendarView.known c.loop-taken.view) (spots_of c.loop-taken.arena.states.items) c.loop-taken.arena.newest c.args.task.now.request a refl c.loop-taken.invariant.sound.arranged agrees)
    (λ x. c.loop-taken.invariant.way a x agrees) c.in_default.ensures.above c.loop-taken.invariant.low (omega arith)) (c.loop-taken.invariant.ends a agrees) refl).none
