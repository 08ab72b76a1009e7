use Rattle.std.proofs.Common.{arith, subst, sym, refl, ◌∙◌, ◌≡◌, ◌++◌, ◌∷◌, ℕ, [], List, false}
use Rattle.std.proofs.lemmas.Option.{slice_get_within}
use Rattle.std.specs.Prelude.{reverse, unwrap_or}
use Rattle.fleet_base.specs.declared.grid.Cell.{Cell}
use Rattle.fleet_base.specs.Canonical.{ReadsBack, IsEarliest}
use Rattle.fleet_base.proofs.ReachLemmas.{steps_from_walk}
use Rattle.calendars.specs.Records.{covers}
use Rattle.calendars.specs.Assignments.{traffic_by}
use Rattle.sipp_search.specs.Back.{ReadsOn}
use Rattle.sipp_search.proofs.Moves.{reached_open}
use Rattle.sipp_search.proofs.Moving.{kept_twice, agrees_before}
use Rattle.sipp_search.proofs.Backward.{final_known, reads_nothing, reads_step, reads_done, hop_cells}
use Rattle.sipp_search.proofs.Paused.{paused_goal, ready_kept, start_of}
use Rattle.sipp_search.proofs.ties.read_ties.Goals as goal

pub step_back-requires-clause-ties : goal.step_back-requires-clause-ties
step_back-requires-clause-ties g c =
    c.in_ok-forget.ensures.ties (g.V.CalendarView.known c.args.view.now)

pub step_back-requires-clause-known : goal.step_back-requires-clause-known
step_back-requires-clause-known g c =
    final_known c.args.task.now.grid.now c.args.task.now.request c.args.task.now.horizon (g.V.CalendarView.known c.args.view.now) (g.V.CalendarView.size c.args.view.now) c.args.arena.now c.requires.paused.sound c.requires.paused.on.place c.args.arena.now.queue.floor c.requires.paused.on.spot c.args.task.now.request.goal c.requires.paused.on.stands c.requires.paused.on.cell_is

pub step_back-requires-clause-free : goal.step_back-requires-clause-free
step_back-requires-clause-free g c =
    λ a agrees. subst (λ (n : ℕ). covers (a c.args.task.now.request.goal.0) n ≡ false) c.requires.arrival ((paused_goal c.args.task.now.grid.now c.args.task.now.request c.args.task.now.horizon (g.V.CalendarView.known c.args.view.now) (g.V.CalendarView.size c.args.view.now) c.args.arena.now c.requires.ready.bound c.requires.paused a agrees).untaken c.args.arena.now.queue.floor (omega arith) (omega arith))

pub loop-told-init : goal.loop-told-init
loop-told-init g c =
    record {
      cells = c.in_ok-told.ensures.cells;
      went = c.in_ok-told.ensures.went;
      kept = c.in_ok-told.ensures.kept;
      paused = c.in_ok-told.ensures.paused;
      ties = c.in_ok-told.ensures.ties;
      waiting = c.in_ok-told.ensures.waiting;
      floor = c.in_ok-told.ensures.floor;
      count = c.in_ok-told.ensures.count;
      in_time = omega (arith, c.requires.paused.in_time, c.requires.arrival);
      serves = c.in_ok-told.ensures.serves;
      fit = c.in_ok-told.ensures.fit;
      early = c.in_ok-told.ensures.early;
      loaded = c.in_ok-told.ensures.loaded;
      told = c.in_ok-told.ensures.told;
      earliest = λ a agrees. (c.args.arrival, subst (λ (n : ℕ). IsEarliest c.args.task.now.grid.now (traffic_by a) c.args.task.now.request c.args.task.now.request.goal n n) c.requires.arrival (paused_goal c.args.task.now.grid.now c.args.task.now.request c.args.task.now.horizon (g.V.CalendarView.known c.args.view.now) (g.V.CalendarView.size c.args.view.now) c.args.arena.now c.requires.ready.bound c.requires.paused a (agrees_before a (g.V.CalendarView.known c.args.view.now) (g.V.CalendarView.known c.step_back.new.view) c.in_ok-told.ensures.kept agrees)));
      reads = λ a agrees. reads_nothing c.args.task.now.grid.now c.args.task.now.request a c.args.arrival c.in_ok-cells.cells.items c.in_ok-cells.ensures.items;
    }

pub overflow_sub-time : goal.overflow_sub-time
overflow_sub-time g c =
    (let early = rw c.in-Since.is at c.loop-told.invariant.early in omega (arith, early))

pub overflow_sub-time-in-Since : goal.overflow_sub-time-in-Since
overflow_sub-time-in-Since g c =
    (let early = rw c.in-Since.is at c.loop-told.invariant.early in omega (arith, early))

pub loop-told-smaller : goal.loop-told-smaller
loop-told-smaller g c =
    (let early = rw c.in-Since.is at c.loop-told.invariant.early in omega (arith, early))

pub step_back-requires-in-Since-clause-ready : goal.step_back-requires-in-Since-clause-ready
step_back-requires-in-Since-clause-ready g c =
    ready_kept c.args.task.now.grid.now c.args.task.now.request c.args.task.now.horizon (g.V.CalendarView.size c.args.view.now) (g.V.CalendarView.size c.loop-told.view) c.loop-told.invariant.cells c.requires.ready

pub step_back-requires-in-Since-clause-known : goal.step_back-requires-in-Since-clause-known
step_back-requires-in-Since-clause-known g c =
    rw c.in-Since.is at c.loop-told.invariant.loaded

pub step_back-requires-in-Since-clause-cell : goal.step_back-requires-in-Since-clause-cell
step_back-requires-in-Since-clause-cell g c =
    let back = rw c.in-Since.is at (c.loop-told.invariant.told (λ n. unwrap_or (g.V.CalendarView.known c.loop-told.view n) []) (λ n records is. rw is refl)) in
    let opened = reached_open c.args.task.now.grid.now c.args.task.now.request (λ n. unwrap_or (g.V.CalendarView.known c.loop-told.view n) []) (steps_from_walk c.args.task.now.grid.now c.args.task.now.request (traffic_by (λ n. unwrap_or (g.V.CalendarView.known c.loop-told.view n) [])) c.in-Since.hop.cell c.in-Since.hop.time back.earliest.reachable) in
    omega (arith, slice_get_within c.args.task.now.grid.now.cells c.in-Since.hop.cell.0 _ opened, c.requires.ready.size_is, c.loop-told.invariant.cells)

pub step_back-requires-in-Since-clause-time : goal.step_back-requires-in-Since-clause-time
step_back-requires-in-Since-clause-time g c =
    (let early = rw c.in-Since.is at c.loop-told.invariant.early in omega (arith, early, c.loop-told.invariant.in_time))

pub step_back-requires-in-Since-clause-free : goal.step_back-requires-in-Since-clause-free
step_back-requires-in-Since-clause-free g c =
    λ a agrees. (let back = rw c.in-Since.is at (c.loop-told.invariant.told a agrees) in back.earliest.untaken c.in-Since.hop.time (omega arith) back.earliest.before)

pub loop-told-preserved : goal.loop-told-preserved
loop-told-preserved g c =
    record {
      cells = c.in_ok-told-2.ensures.cells ∙ c.loop-told.invariant.cells;
      went = g.met.V.CalendarView.goes_on _ _ _ c.loop-told.invariant.went c.in_ok-told-2.ensures.went;
      kept = kept_twice _ _ _ c.loop-told.invariant.kept c.in_ok-told-2.ensures.kept;
      paused = c.in_ok-told-2.ensures.paused;
      ties = c.in_ok-told-2.ensures.ties;
      waiting = c.in_ok-told-2.ensures.waiting;
      floor = c.in_ok-told-2.ensures.floor ∙ c.loop-told.invariant.floor;
      count = c.in_ok-told-2.ensures.count ∙ c.loop-told.invariant.count;
      in_time = (let early = rw c.in-Since.is at c.loop-told.invariant.early in omega (arith, early, c.loop-told.invariant.in_time));
      serves = c.in_ok-told-2.ensures.serves;
      fit = c.in_ok-told-2.ensures.fit;
      early = c.in_ok-told-2.ensures.early;
      loaded = c.in_ok-told-2.ensures.loaded;
      told = c.in_ok-told-2.ensures.told;
      earliest = λ a agrees.
          (let back = rw c.in-Since.is at (c.loop-told.invariant.told a (agrees_before a (g.V.CalendarView.known c.loop-told.view) _ c.in_ok-told-2.ensures.kept agrees)) in
          (back.before, back.earliest));
      reads = λ a agrees.
          (let old = agrees_before a (g.V.CalendarView.known c.loop-told.view) _ c.in_ok-told-2.ensures.kept agrees in
          let back = rw c.in-Since.is at (c.loop-told.invariant.told a old) in
          let more = reads_step c.args.task.now.grid.now c.args.task.now.request a c.args.arrival c.loop-told.at c.in-Since.hop.cell c.loop-told.time back.before c.in-Since.hop.time _ (reverse c.loop-told.cells.items)
          (c.loop-told.invariant.reads a old) back.time_is back.first back.earliest refl in
          subst (λ (xs : List Cell). ReadsOn c.args.task.now.grid.now c.args.task.now.request a c.args.arrival c.in-Since.hop.cell c.in-Since.hop.time xs)
          (hop_cells c.loop-told.cells.items (c.loop-told.cells.items ++ c.loop-told.at ∷ []) c.push_hop.new.cells.items c.loop-told.at c.in-Since.hop.cell _ refl c.in_ok-push_hop.ensures) more);
    }

pub returns-clause-cells_back : goal.returns-clause-cells_back
returns-clause-cells_back g c =
    λ a agrees.
    (let known = c.loop-told.invariant.earliest a agrees in
    let start = start_of c.args.task.now.grid.now c.args.task.now.request a c.loop-told.at known.0 c.loop-told.time known.1 (rw c.in-Never.is at (c.loop-told.invariant.told a agrees)) in
    subst (λ (xs : List Cell). ReadsBack c.args.task.now.grid.now (traffic_by a) c.args.task.now.request c.args.task.now.request.goal c.args.arrival xs) (sym c.reverse.ensures.items)
    (reads_done c.args.task.now.grid.now c.args.task.now.request a c.args.arrival c.loop-told.at c.loop-told.time c.loop-told.cells.items c.push.new.self.items (c.loop-told.invariant.reads a agrees) start.0 start.1 c.in_ok-push.ensures.items))
