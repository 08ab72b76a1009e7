use Rattle.std.proofs.Common.{rules, arith, subst, sym, ap, ◌∙◌, refl, ◌≡◌, ◌<◌, ◌≤◌, ◌+◌, ◌^◌, ℕ, List, length, vec_len, Some, None}
use Rattle.std.proofs.lemmas.Option.{IfSome_then, same_Some}
use Rattle.std.specs.Prelude.{unwrap_or, IfSome}
use Rattle.bucket_queue.specs.Queue.{Queue}
use Rattle.fleet_base.specs.declared.request.Record.{Record}
use Rattle.safe_intervals.specs.Safe.{IsIn, IsSafeInterval}
use Rattle.sipp_search.specs.declared.states.State.{State}
use Rattle.sipp_search.specs.declared.states.Arena.{Arena}
use Rattle.sipp_search.specs.Marks.{spots_of, final, final_count}
use Rattle.sipp_search.specs.Progress.{IsUnderWay}
use Rattle.sipp_search.specs.Running.{IsOver, LoadsFor}
use Rattle.sipp_search.proofs.Lists.{stands_map}
use Rattle.sipp_search.proofs.Marking.{count_within}
use Rattle.sipp_search.proofs.Blocks.{of_arena, spots_right}
use Rattle.sipp_search.proofs.Moving.{kept_twice, agrees_before, some_of}
use Rattle.sipp_search.proofs.Ending.{over_now, settled_next_way, settled_count, settled_stands, settled_sound, one_more_of, goal_left, loads_for, lists_before, interval_grows, states_within, queued_inside, low_next, time_next, reached_next, ends_next}
use Rattle.sipp_search.proofs.run.run.Goals as goal

pub expand-requires-clause-sound : goal.expand-requires-clause-sound
expand-requires-clause-sound g c =
    settled_sound c.args.task.now.grid.now c.args.task.now.request c.args.task.now.horizon (g.V.CalendarView.known c.loop-taken.view) (g.V.CalendarView.size c.loop-taken.view)
    c.loop-taken.arena c.settle_next.new.arena c.unwrap_or.result c.in-Some.taken c.loop-taken.invariant.sound c.in-Some.ensures.some

pub expand-requires-clause-taken : goal.expand-requires-clause-taken
expand-requires-clause-taken g c = record {
  stands = settled_stands c.loop-taken.arena c.settle_next.new.arena c.unwrap_or.result c.in-Some.taken c.in-Some.ensures.some;
  inside = queued_inside c.args.task.now.grid.now c.args.task.now.request c.args.task.now.horizon (g.V.CalendarView.known c.loop-taken.view) c.loop-taken.arena.states.items
      c.loop-taken.arena.queue.floor c.in-Some.taken.id c.in-Some.taken.arrival c.in-Some.taken.spot c.loop-taken.invariant.way c.in-Some.ensures.some.was;
  floor = ap (λ (z : Queue). z.floor) c.in-Some.ensures.some.queue_is;
}

pub returns-in_err-expand-clause-takes : goal.returns-in_err-expand-clause-takes
returns-in_err-expand-clause-takes g c = λ lists are.
    (let known = g.V.CalendarView.known c.loop-taken.view in
    let sound = settled_sound c.args.task.now.grid.now c.args.task.now.request c.args.task.now.horizon known (g.V.CalendarView.size c.loop-taken.view)
    c.loop-taken.arena c.settle_next.new.arena c.unwrap_or.result c.in-Some.taken c.loop-taken.invariant.sound c.in-Some.ensures.some in
    let within = states_within c.args.task.now.grid.now c.args.task.now.request c.args.task.now.horizon known (g.V.CalendarView.size c.loop-taken.view) c.settle_next.new.arena lists (c.loop-taken.invariant.cells ∙ c.requires.ready.size_is) sound
    (lists_before known (g.V.CalendarView.known c.expand.new.view) c.args.task.now.horizon lists c.in_err-expand.ensures.kept are) in
    let grows = interval_grows known (g.V.CalendarView.known c.expand.new.view) lists (g.V.CalendarView.size c.loop-taken.view) c.in_err-expand.ensures.kept in
    rw c.in_err-expand.ensures.cells (omega (arith, c.tick.ensures, c.loop-taken.invariant.count, settled_count c.loop-taken.arena c.settle_next.new.arena c.unwrap_or.result c.in-Some.taken c.in-Some.ensures.some)))

pub first_end-found-requires-clause-known : goal.first_end-found-requires-clause-known
first_end-found-requires-clause-known g c =
    let at = c.in_ok-expand.ensures.spots c.in-Some.taken.id c.in-Some.taken.spot
    (stands_map (λ (z : State). z.spot) c.settle_next.new.arena.states.items c.in-Some.taken.id (final c.in-Some.taken.spot c.in-Some.taken.arrival)
    (settled_stands c.loop-taken.arena c.settle_next.new.arena c.unwrap_or.result c.in-Some.taken c.in-Some.ensures.some)) in
    let of = of_arena c.args.task.now.grid.now c.args.task.now.request.goal c.args.task.now.horizon (g.V.CalendarView.known c.expand.new.view) (spots_of c.expand.new.arena.states.items)
    c.expand.new.arena.newest c.in-Some.taken.id c.in-Some.taken.spot c.in_ok-expand.ensures.sound.arranged at in
    some_of (g.V.CalendarView.known c.expand.new.view c.in-Some.taken.spot.cell.0) of.records of.known_is

pub first_end-found-requires-clause-safe : goal.first_end-found-requires-clause-safe
first_end-found-requires-clause-safe g c = λ records is.
    (let at = c.in_ok-expand.ensures.spots c.in-Some.taken.id c.in-Some.taken.spot
    (stands_map (λ (z : State). z.spot) c.settle_next.new.arena.states.items c.in-Some.taken.id (final c.in-Some.taken.spot c.in-Some.taken.arrival)
    (settled_stands c.loop-taken.arena c.settle_next.new.arena c.unwrap_or.result c.in-Some.taken c.in-Some.ensures.some)) in
    let of = of_arena c.args.task.now.grid.now c.args.task.now.request.goal c.args.task.now.horizon (g.V.CalendarView.known c.expand.new.view) (spots_of c.expand.new.arena.states.items)
    c.expand.new.arena.newest c.in-Some.taken.id c.in-Some.taken.spot c.in_ok-expand.ensures.sound.arranged at in
    let same : of.records ≡ records = same_Some of.records records (sym of.known_is ∙ is) in
    subst (λ (rs : List Record). IsSafeInterval rs c.args.task.now.horizon c.in-Some.taken.spot.interval) same of.safe)

pub loop-taken-smaller : goal.loop-taken-smaller
loop-taken-smaller g c =
    let len : vec_len c.loop-taken.arena.states ≡ length c.loop-taken.arena.states.items = search rules in
    let fits : vec_len c.loop-taken.arena.states < 2 ^ 63 = search rules in
    omega (
      arith,
      count_within c.loop-taken.arena.states.items,
      c.in_ok-expand.ensures.improves.count,
      settled_count c.loop-taken.arena c.settle_next.new.arena c.unwrap_or.result c.in-Some.taken c.in-Some.ensures.some,
    )

pub loop-taken-preserved : goal.loop-taken-preserved
loop-taken-preserved g c =
    let terrain = c.args.task.now.grid.now in
    let q = c.args.task.now.request in
    let horizon = c.args.task.now.horizon in
    let known = g.V.CalendarView.known c.loop-taken.view in
    let known' = g.V.CalendarView.known c.expand.new.view in
    let settles = c.in-Some.ensures.some in
    let taken = c.in-Some.taken in
    let better = c.in_ok-expand.ensures.improves in
    let more = one_more_of c.loop-taken.arena c.settle_next.new.arena c.expand.new.arena.states.items c.unwrap_or.result taken settles better in
    let at = c.in_ok-expand.ensures.spots taken.id taken.spot
    (stands_map (λ (z : State). z.spot) c.settle_next.new.arena.states.items taken.id (final taken.spot taken.arrival)
    (settled_stands c.loop-taken.arena c.settle_next.new.arena c.unwrap_or.result taken settles)) in
    let of = of_arena terrain q.goal horizon known' (spots_of c.expand.new.arena.states.items) c.expand.new.arena.newest taken.id taken.spot c.in_ok-expand.ensures.sound.arranged at in
    let left : taken.spot.cell ≡ q.goal → taken.spot.left ≡ 0 = λ same. goal_left terrain q.goal c.requires.ready.bound taken.spot.cell taken.spot.left same of.distance in
    let floor : c.expand.new.arena.queue.floor ≡ taken.arrival + taken.spot.left = c.in_ok-expand.ensures.floor ∙ ap (λ (z : Queue). z.floor) settles.queue_is in
    let inside : IsIn taken.arrival taken.spot.interval =
    queued_inside terrain q horizon known c.loop-taken.arena.states.items c.loop-taken.arena.queue.floor taken.id taken.arrival taken.spot c.loop-taken.invariant.way settles.was in
    let low : taken.arrival + taken.spot.left ≤ unwrap_or c.loop-taken.found horizon = subst (λ (n : ℕ). taken.arrival + taken.spot.left ≤ n) c.unwrap_or.ensures settles.in_limit in
    let first : IfSome c.loop-taken.found (λ t. c.first_end-found.result ≡ Some t) × (c.loop-taken.found ≡ None → IfSome c.first_end-found.result (λ t. (t ≡ taken.arrival) × (taken.spot.left ≡ 0))) = (
      c.first_end-found.ensures.kept,
      (λ none. IfSome_then c.first_end-found.result (c.first_end-found.ensures.ends none) (λ t end. (end.0, left end.1.0))),
    ) in
    record {
      cells = c.in_ok-expand.ensures.cells ∙ c.loop-taken.invariant.cells;
      went = g.met.V.CalendarView.goes_on _ _ _ c.loop-taken.invariant.went c.in_ok-expand.ensures.went;
      kept = kept_twice _ _ _ c.loop-taken.invariant.kept c.in_ok-expand.ensures.kept;
      sound = c.in_ok-expand.ensures.sound;
      low = rw floor (low_next horizon c.loop-taken.arena.queue.floor taken.arrival taken.spot.left settles.rises c.loop-taken.found c.first_end-found.result first low);
      in_time = time_next horizon c.loop-taken.arena.queue.floor taken.arrival taken.spot.left settles.rises c.loop-taken.found c.first_end-found.result first low c.loop-taken.invariant.in_time;
      reached = λ t is. rw floor (reached_next horizon c.loop-taken.arena.queue.floor taken.arrival taken.spot.left settles.rises c.loop-taken.found c.first_end-found.result first c.loop-taken.invariant.reached t is);
      count = omega (arith, c.tick.ensures, c.loop-taken.invariant.count, better.count, settled_count c.loop-taken.arena c.settle_next.new.arena c.unwrap_or.result taken settles);
      way = λ a x agrees.
          (let before = agrees_before a known known' c.in_ok-expand.ensures.kept agrees in
          let settled = settled_next_way terrain q horizon a c.requires.ready.bound c.loop-taken.arena c.settle_next.new.arena c.unwrap_or.result taken
          (spots_right terrain q.goal horizon known (spots_of c.loop-taken.arena.states.items) c.loop-taken.arena.newest q a refl c.loop-taken.invariant.sound.arranged before)
          (λ y. c.loop-taken.invariant.way a y before) settles in
          subst (λ (n : ℕ). IsUnderWay terrain q horizon a c.expand.new.arena.states.items n x) (sym c.in_ok-expand.ensures.floor) (c.in_ok-expand.ensures.led a x agrees settled));
      ends = λ a agrees.
          ends_next q a known' c.loop-taken.arena.states.items c.expand.new.arena.states.items taken.id taken.arrival c.loop-taken.arena.queue.floor taken.spot c.loop-taken.found c.first_end-found.result
          more agrees inside settles.rises left c.loop-taken.invariant.reached c.first_end-found.ensures.kept c.first_end-found.ensures.ends c.first_end-found.ensures.never
          (c.loop-taken.invariant.ends a (agrees_before a known known' c.in_ok-expand.ensures.kept agrees));
      loads = loads_for terrain (g.V.CalendarView.known c.args.view.now) known known' c.loop-taken.arena.states.items c.expand.new.arena.states.items taken.id taken.arrival taken.spot
          more c.loop-taken.invariant.loads c.in_ok-expand.ensures.loads;
    }

pub returns-clause-takes : goal.returns-clause-takes
returns-clause-takes g c = λ lists are.
    (let within = states_within c.args.task.now.grid.now c.args.task.now.request c.args.task.now.horizon (g.V.CalendarView.known c.loop-taken.view) (g.V.CalendarView.size c.loop-taken.view)
    c.loop-taken.arena lists (c.loop-taken.invariant.cells ∙ c.requires.ready.size_is) c.loop-taken.invariant.sound are in
    omega (arith, c.loop-taken.invariant.count))

pub returns-clause-counted : goal.returns-clause-counted
returns-clause-counted g c = c.loop-taken.invariant.count ∙ ap (λ (z : Arena). c.args.steps.now + final_count z.states.items) (sym c.in_default.ensures.none)

pub returns-clause-loads : goal.returns-clause-loads
returns-clause-loads g c =
    subst (λ (z : Arena). LoadsFor c.args.task.now.grid.now (g.V.CalendarView.known c.args.view.now) (g.V.CalendarView.known c.loop-taken.view) z.states.items)
    (sym c.in_default.ensures.none) c.loop-taken.invariant.loads

pub returns-clause-over : goal.returns-clause-over
returns-clause-over g c = λ a agrees.
    (let terrain = c.args.task.now.grid.now in
    let q = c.args.task.now.request in
    let horizon = c.args.task.now.horizon in
    let known = g.V.CalendarView.known c.loop-taken.view in
    subst (λ (z : Arena). IsOver terrain q horizon a z.states.items (unwrap_or c.loop-taken.found horizon)) (sym c.in_default.ensures.none)
    (over_now terrain q horizon a c.requires.ready.bound c.loop-taken.arena.states.items c.loop-taken.arena.queue.floor (unwrap_or c.loop-taken.found horizon)
    (spots_right terrain q.goal horizon known (spots_of c.loop-taken.arena.states.items) c.loop-taken.arena.newest q a refl c.loop-taken.invariant.sound.arranged agrees)
    (λ x. c.loop-taken.invariant.way a x agrees)
    (λ i r p at. subst (λ (n : ℕ). n < r + p.left) c.unwrap_or.ensures (c.in_default.ensures.above i r p at))
    c.loop-taken.invariant.low c.loop-taken.invariant.in_time))
