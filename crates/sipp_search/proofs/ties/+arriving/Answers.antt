use Rattle.std.proofs.Common.{arith, subst, sym, ◌∙◌, refl, inl, inr, ◌≡◌, ◌-◌, ℕ, true, false, None, get_or}
use Rattle.std.proofs.lemmas.Option.{get_or_from_slice_get}
use Rattle.std.proofs.lemmas.Bool.{cases_lt, false≢true}
use Rattle.fleet_base.specs.declared.grid.Cell.{Cell}
use Rattle.fleet_base.specs.declared.grid.Side.{Side}
use Rattle.fleet_base.specs.Terrain.{IsBeside}
use Rattle.fleet_base.specs.Canonical.{rank_of, IsEarliest}
use Rattle.fleet_base.proofs.CanonicalLemmas.{beside_once}
use Rattle.fleet_base.proofs.ReachLemmas.{steps_from_walk}
use Rattle.calendars.specs.Records.{is_exchange}
use Rattle.calendars.specs.Assignments.{traffic_by}
use Rattle.sipp_search.specs.Back.{NoneFrom}
use Rattle.sipp_search.specs.Ties.{IsUnseenAt}
use Rattle.sipp_search.proofs.Moves.{IsReached, reached_free, reached_open, beside_differs}
use Rattle.sipp_search.proofs.Moving.{kept_twice, agrees_before, same_side, rank_low}
use Rattle.sipp_search.proofs.Paused.{paused_counted, paused_seen, paused_below, paused_beside, paused_entered, seen_loaded, some_kept, ready_kept, ties_missed, ties_entered, side_found}
use Rattle.sipp_search.proofs.Nearby.{paused_far, waiting_counted, waiting_kept}
use Rattle.sipp_search.proofs.ties.+arriving.Goals as goal

pub arrival_at-returns-in_default-clause-paused : goal.arrival_at-returns-in_default-clause-paused
arrival_at-returns-in_default-clause-paused g t c =
    paused_counted c.args.task.now.grid.now c.args.task.now.request c.args.task.now.horizon (g.V.CalendarView.known c.args.view.now) (g.V.CalendarView.size c.args.view.now) c.args.arena.now c.way_left.new.arena c.requires.paused c.in_ok-left.ensures.sound c.in_ok-left.ensures.states c.in_ok-left.ensures.queue

pub arrival_at-returns-in_default-checked_sub-clause-paused : goal.arrival_at-returns-in_default-checked_sub-clause-paused
arrival_at-returns-in_default-checked_sub-clause-paused g t c =
    paused_counted c.args.task.now.grid.now c.args.task.now.request c.args.task.now.horizon (g.V.CalendarView.known c.args.view.now) (g.V.CalendarView.size c.args.view.now) c.args.arena.now c.way_left.new.arena c.requires.paused c.in_ok-left.ensures.sound c.in_ok-left.ensures.states c.in_ok-left.ensures.queue

pub arrival_at-returns-then-room-left-clause-paused : goal.arrival_at-returns-then-room-left-clause-paused
arrival_at-returns-then-room-left-clause-paused g t c =
    paused_counted c.args.task.now.grid.now c.args.task.now.request c.args.task.now.horizon (g.V.CalendarView.known c.args.view.now) (g.V.CalendarView.size c.args.view.now) c.args.arena.now c.way_left.new.arena c.requires.paused c.in_ok-left.ensures.sound c.in_ok-left.ensures.states c.in_ok-left.ensures.queue

pub arrival_at-returns-in-Some-seen_at-clause-paused : goal.arrival_at-returns-in-Some-seen_at-clause-paused
arrival_at-returns-in-Some-seen_at-clause-paused g t c =
    paused_counted c.args.task.now.grid.now c.args.task.now.request c.args.task.now.horizon (g.V.CalendarView.known c.args.view.now) (g.V.CalendarView.size c.args.view.now) c.args.arena.now c.way_left.new.arena c.requires.paused c.in_ok-left.ensures.sound c.in_ok-left.ensures.states c.in_ok-left.ensures.queue

pub arrival_at-returns-then-left-room-clause-paused : goal.arrival_at-returns-then-left-room-clause-paused
arrival_at-returns-then-left-room-clause-paused g t c =
    paused_counted c.args.task.now.grid.now c.args.task.now.request c.args.task.now.horizon (g.V.CalendarView.known c.args.view.now) (g.V.CalendarView.size c.args.view.now) c.args.arena.now c.way_left.new.arena c.requires.paused c.in_ok-left.ensures.sound c.in_ok-left.ensures.states c.in_ok-left.ensures.queue

pub arrival_at-returns-in-Some-seen_at-clause-loaded : goal.arrival_at-returns-in-Some-seen_at-clause-loaded
arrival_at-returns-in-Some-seen_at-clause-loaded g t c =
    seen_loaded c.args.task.now.grid.now c.args.task.now.request c.args.task.now.horizon (g.V.CalendarView.known c.args.view.now) (g.V.CalendarView.size c.args.view.now) c.way_left.new.arena c.args.cell c.args.time c.in_ok-left.ensures.sound c.in-Some-seen_at.ensures.some.0

pub arrival_at-returns-in-Some-seen_at-clause-early : goal.arrival_at-returns-in-Some-seen_at-clause-early
arrival_at-returns-in-Some-seen_at-clause-early g t c = omega (arith, c.in-Some-seen_at.ensures.some.0.early, c.in-Some-seen_at.ensures.some.1)

pub arrival_at-returns-in-Some-seen_at-clause-told : goal.arrival_at-returns-in-Some-seen_at-clause-told
arrival_at-returns-in-Some-seen_at-clause-told g t c =
    λ a agrees.
    (let seen = c.in-Some-seen_at.ensures.some in
    let early : IsEarliest c.args.task.now.grid.now (traffic_by a) c.args.task.now.request c.args.cell c.args.time seen.0.arrival =
    paused_seen c.args.task.now.grid.now c.args.task.now.request c.args.task.now.horizon (g.V.CalendarView.known c.args.view.now) (g.V.CalendarView.size c.args.view.now) c.way_left.new.arena c.requires.ready.bound
    (paused_counted c.args.task.now.grid.now c.args.task.now.request c.args.task.now.horizon (g.V.CalendarView.known c.args.view.now) (g.V.CalendarView.size c.args.view.now) c.args.arena.now c.way_left.new.arena c.requires.paused c.in_ok-left.ensures.sound c.in_ok-left.ensures.states c.in_ok-left.ensures.queue) a agrees
    c.args.cell c.args.time c.in-Some.left seen.0 (rw c.in-Some.is at c.in_ok-left.ensures.some) (omega (arith, c.in-Some-checked_sub.ensures, c.floor.ensures.value, c.if-room-left.false)) in
    (refl, subst (λ (n : ℕ). IsEarliest c.args.task.now.grid.now (traffic_by a) c.args.task.now.request c.args.cell c.args.time n) seen.1 early))

pub arrival_at-returns-then-left-room-clause-told : goal.arrival_at-returns-then-left-room-clause-told
arrival_at-returns-then-left-room-clause-told g t c =
    λ a agrees.
    paused_below c.args.task.now.grid.now c.args.task.now.request c.args.task.now.horizon (g.V.CalendarView.known c.args.view.now) (g.V.CalendarView.size c.args.view.now) c.way_left.new.arena c.requires.ready.bound
    (paused_counted c.args.task.now.grid.now c.args.task.now.request c.args.task.now.horizon (g.V.CalendarView.known c.args.view.now) (g.V.CalendarView.size c.args.view.now) c.args.arena.now c.way_left.new.arena c.requires.paused c.in_ok-left.ensures.sound c.in_ok-left.ensures.states c.in_ok-left.ensures.queue) a agrees
    c.args.cell c.args.time c.in-Some.left (rw c.in-Some.is at c.in_ok-left.ensures.some)
    (c.in_default-seen_at.ensures.none c.args.task.now.grid.now c.args.task.now.request c.args.task.now.horizon (g.V.CalendarView.known c.args.view.now) c.in_ok-left.ensures.sound.arranged) (omega (arith, c.in-Some-checked_sub.ensures, c.floor.ensures.value, c.if-left-room.true))

pub arrival_at-ask-requires : goal.arrival_at-ask-requires
arrival_at-ask-requires g t c κs within =
    (let unseen : IsUnseenAt c.args.task.now.grid.now c.args.task.now.request c.way_left.new.arena.states.items c.way_left.new.arena.queue.floor c.args.cell c.args.time c.in-Some.left = record {
      distance = rw c.in-Some.is at c.in_ok-left.ensures.some;
      key = omega (arith, c.in-Some-checked_sub.ensures, c.floor.ensures.value, c.if-room-left.false, c.if-left-room.false);
      unseen = c.in_default-seen_at.ensures.none c.args.task.now.grid.now c.args.task.now.request c.args.task.now.horizon (g.V.CalendarView.known c.args.view.now) c.in_ok-left.ensures.sound.arranged;
    } in (
      omega (arith, c.decreases),
      (
        within,
        (
          c.requires.ready,
          (
            paused_counted c.args.task.now.grid.now c.args.task.now.request c.args.task.now.horizon (g.V.CalendarView.known c.args.view.now) (g.V.CalendarView.size c.args.view.now) c.args.arena.now c.way_left.new.arena c.requires.paused c.in_ok-left.ensures.sound c.in_ok-left.ensures.states c.in_ok-left.ensures.queue,
            (
              c.requires.ties,
              (
                waiting_counted c.args.task.now.grid.now c.args.arena.now c.way_left.new.arena c.args.ties.now c.requires.waiting c.in_ok-left.ensures.states c.in_ok-left.ensures.queue,
                (c.requires.cell, (c.requires.place, (c.requires.time, unseen))),
              ),
            ),
          ),
        ),
      ),
    ))

pub ask-returns-then-not-is_near_waiting-clause-told : goal.ask-returns-then-not-is_near_waiting-clause-told
ask-returns-then-not-is_near_waiting-clause-told g t c =
    λ a agrees reached.
    paused_far c.args.task.now.grid.now c.args.task.now.request c.args.task.now.horizon (g.V.CalendarView.known c.args.view.now) (g.V.CalendarView.size c.args.view.now) c.args.arena.now c.requires.ready.bound c.requires.paused a agrees
    c.args.ties.now.waiting.items c.args.cell c.args.place c.args.time c.args.left (c.requires.waiting c.if-ties.true) c.requires.place c.requires.unseen c.if-not-is_near_waiting.ensures.none reached

pub ask-returns-then-taken-clause-told : goal.ask-returns-then-taken-clause-told
ask-returns-then-taken-clause-told g t c =
    λ a agrees reached. false≢true (sym (reached_free c.args.task.now.grid.now c.args.task.now.request a reached) ∙ (c.in_ok-taken.ensures.taken a agrees ∙ c.if-taken.true))

pub ask-returns-then-branch-clause-ties : goal.ask-returns-then-branch-clause-ties
ask-returns-then-branch-clause-ties g t c =
    c.in_ok-is_too_far.ensures.ties (g.V.CalendarView.known c.args.view.now) c.requires.ties

pub ask-is_taken-requires-clause-ties : goal.ask-is_taken-requires-clause-ties
ask-is_taken-requires-clause-ties g t c =
    c.in_ok-is_too_far.ensures.ties (g.V.CalendarView.known c.args.view.now) c.requires.ties

pub ask-step_back-requires : goal.ask-step_back-requires
ask-step_back-requires g t c κs within = (
  omega (arith, c.decreases, c.if-depth-eq0.false),
  (
    within,
    (
      ready_kept c.args.task.now.grid.now c.args.task.now.request c.args.task.now.horizon (g.V.CalendarView.size c.args.view.now) (g.V.CalendarView.size c.is_taken.new.view) c.in_ok-taken.ensures.cells c.requires.ready,
      (
        c.in_ok-taken.ensures.paused,
        (
          c.in_ok-taken.ensures.ties,
          (
            waiting_kept c.args.task.now.grid.now c.args.arena.now.states.items c.args.arena.now.queue.floor c.args.ties.now c.is_too_far.new.ties c.requires.waiting c.in_ok-is_too_far.ensures.waiting c.in_ok-is_too_far.ensures.few,
            (
              c.in_ok-taken.ensures.loaded,
              (
                omega (arith, c.requires.cell, c.in_ok-taken.ensures.cells),
                (c.requires.place, (c.requires.time, (λ a agrees. c.in_ok-taken.ensures.taken a agrees ∙ c.if-taken.false))),
              ),
            ),
          ),
        ),
      ),
    ),
  ),
)

pub ask-returns-then-told-time-2-clause-loaded : goal.ask-returns-then-told-time-2-clause-loaded
ask-returns-then-told-time-2-clause-loaded g t c =
    c.requires.ties.loaded c.args.cell c.args.time (rw c.if-told-time-2.true at c.get-told.ensures)

pub ask-returns-then-told-time-2-clause-told : goal.ask-returns-then-told-time-2-clause-told
ask-returns-then-told-time-2-clause-told g t c =
    λ a agrees. (refl, c.requires.ties.entered a c.args.cell c.args.time agrees (rw c.if-told-time-2.true at c.get-told.ensures))

pub ask-returns-in-Since-clause-ties : goal.ask-returns-in-Since-clause-ties
ask-returns-in-Since-clause-ties g t c =
    ties_entered c.args.task.now.grid.now c.args.task.now.request (g.V.CalendarView.known c.step_back.new.view) c.step_back.new.ties c.args.cell c.args.time c.set.new.self c.in_ok-before.ensures.ties (omega (arith, c.requires.cell, c.requires.ready.size_is)) c.set.ensures
    (λ a agrees. (let back = rw c.in-Since.is at (c.in_ok-before.ensures.told a agrees) in paused_entered c.args.task.now.grid.now c.args.task.now.request c.args.task.now.horizon (g.V.CalendarView.known c.is_taken.new.view) (g.V.CalendarView.size c.is_taken.new.view) c.args.arena.now c.requires.ready.bound c.in_ok-taken.ensures.paused a (agrees_before a (g.V.CalendarView.known c.is_taken.new.view) (g.V.CalendarView.known c.step_back.new.view) c.in_ok-before.ensures.kept agrees) c.args.cell c.in-Since.field-0.cell c.args.time c.in-Since.field-0.time c.args.left c.requires.unseen back))
    (some_kept (g.V.CalendarView.known c.is_taken.new.view) (g.V.CalendarView.known c.step_back.new.view) c.args.cell.0 c.in_ok-before.ensures.kept c.in_ok-taken.ensures.loaded)

pub ask-returns-in-Since-clause-loaded : goal.ask-returns-in-Since-clause-loaded
ask-returns-in-Since-clause-loaded g t c =
    some_kept (g.V.CalendarView.known c.is_taken.new.view) (g.V.CalendarView.known c.step_back.new.view) c.args.cell.0 c.in_ok-before.ensures.kept c.in_ok-taken.ensures.loaded

pub ask-returns-in-Since-clause-told : goal.ask-returns-in-Since-clause-told
ask-returns-in-Since-clause-told g t c =
    λ a agrees. (let back = rw c.in-Since.is at (c.in_ok-before.ensures.told a agrees) in (refl, paused_entered c.args.task.now.grid.now c.args.task.now.request c.args.task.now.horizon (g.V.CalendarView.known c.is_taken.new.view) (g.V.CalendarView.size c.is_taken.new.view) c.args.arena.now c.requires.ready.bound c.in_ok-taken.ensures.paused a (agrees_before a (g.V.CalendarView.known c.is_taken.new.view) (g.V.CalendarView.known c.step_back.new.view) c.in_ok-before.ensures.kept agrees) c.args.cell c.in-Since.field-0.cell c.args.time c.in-Since.field-0.time c.args.left c.requires.unseen back))

pub ask-returns-in-Never-clause-ties : goal.ask-returns-in-Never-clause-ties
ask-returns-in-Never-clause-ties g t c =
    ties_missed c.args.task.now.grid.now c.args.task.now.request (g.V.CalendarView.known c.step_back.new.view) c.step_back.new.ties c.args.cell c.args.time c.set-in-Never.new.self c.in_ok-before.ensures.ties (omega (arith, c.requires.cell, c.requires.ready.size_is)) c.set-in-Never.ensures
    (λ a agrees. paused_beside c.args.task.now.grid.now c.args.task.now.request c.args.task.now.horizon (g.V.CalendarView.known c.is_taken.new.view) (g.V.CalendarView.size c.is_taken.new.view) c.args.arena.now c.requires.ready.bound c.in_ok-taken.ensures.paused a (agrees_before a (g.V.CalendarView.known c.is_taken.new.view) (g.V.CalendarView.known c.step_back.new.view) c.in_ok-before.ensures.kept agrees) c.args.cell c.args.time c.args.left c.requires.unseen (rw c.in-Never.is at (c.in_ok-before.ensures.told a agrees)))

pub ask-returns-in-Never-clause-told : goal.ask-returns-in-Never-clause-told
ask-returns-in-Never-clause-told g t c =
    λ a agrees. paused_beside c.args.task.now.grid.now c.args.task.now.request c.args.task.now.horizon (g.V.CalendarView.known c.is_taken.new.view) (g.V.CalendarView.size c.is_taken.new.view) c.args.arena.now c.requires.ready.bound c.in_ok-taken.ensures.paused a (agrees_before a (g.V.CalendarView.known c.is_taken.new.view) (g.V.CalendarView.known c.step_back.new.view) c.in_ok-before.ensures.kept agrees) c.args.cell c.args.time c.args.left c.requires.unseen (rw c.in-Never.is at (c.in_ok-before.ensures.told a agrees))

pub side_back-returns-in-Never-clause-told : goal.side_back-returns-in-Never-clause-told
side_back-returns-in-Never-clause-told g t c =
    λ a agrees n u beside time can.
    (let same : n ≡ c.in-Some.next.cell = beside_once c.args.task.now.grid.now c.args.side c.args.at n c.in-Some.next.cell beside (rw c.in-Some.is at c.requires.neighbour).0 in
    let before : u ≡ c.args.entered - 1 = omega arith in
    let reached : IsReached c.args.task.now.grid.now c.args.task.now.request a n u = steps_from_walk c.args.task.now.grid.now c.args.task.now.request (traffic_by a) n u can.reachable in
    (rw c.in-Never.is at (c.in_ok-told.ensures.told a agrees))
    (subst (λ (m : ℕ). IsReached c.args.task.now.grid.now c.args.task.now.request a c.in-Some.next.cell m) before (subst (λ (z : Cell). IsReached c.args.task.now.grid.now c.args.task.now.request a z u) same reached)))

pub side_back-returns-then-not-is_open-clause-told : goal.side_back-returns-then-not-is_open-clause-told
side_back-returns-then-not-is_open-clause-told g t c =
    λ a agrees n u beside time can.
    (let same : n ≡ c.in-Some.next.cell = beside_once c.args.task.now.grid.now c.args.side c.args.at n c.in-Some.next.cell beside (rw c.in-Some.is at c.requires.neighbour).0 in
    let reached : IsReached c.args.task.now.grid.now c.args.task.now.request a n u = steps_from_walk c.args.task.now.grid.now c.args.task.now.request (traffic_by a) n u can.reachable in
    let opened = reached_open c.args.task.now.grid.now c.args.task.now.request a (subst (λ (z : Cell). IsReached c.args.task.now.grid.now c.args.task.now.request a z u) same reached) in
    false≢true (c.if-not-is_open.ensures.1 opened))

pub side_back-is_barred_from-requires-clause-to : goal.side_back-is_barred_from-requires-clause-to
side_back-is_barred_from-requires-clause-to g t c =
    some_kept (g.V.CalendarView.known c.args.view.now) (g.V.CalendarView.known c.arrival_at.new.view) c.args.at.0 c.in_ok-told.ensures.kept c.requires.known

pub side_back-returns-then-is_barred_from-clause-told : goal.side_back-returns-then-is_barred_from-clause-told
side_back-returns-then-is_barred_from-clause-told g t c =
    λ a agrees n u beside time can.
    (let told = rw c.in-Since.is at (c.in_ok-told.ensures.told a agrees) in
    let barred : is_exchange (a c.in-Since.hop.cell.0) (a c.args.at.0) (c.args.entered - 1) ≡ true = c.if-is_barred_from.ensures.barred a agrees in
    let same : n ≡ c.in-Some.next.cell = beside_once c.args.task.now.grid.now c.args.side c.args.at n c.in-Some.next.cell beside (rw c.in-Some.is at c.requires.neighbour).0 in
    let before : u ≡ c.args.entered - 1 = omega arith in
    let differ : n ≡ c.args.at → ⊥ = λ e. beside_differs c.args.task.now.grid.now c.args.side c.args.at n beside (sym e) in
    let unbarred : is_exchange (a n.0) (a c.args.at.0) u ≡ false = can.clear.unbarred differ in
    let unbarred' : is_exchange (a c.in-Since.hop.cell.0) (a c.args.at.0) (c.args.entered - 1) ≡ false =
    subst (λ (m : ℕ). is_exchange (a c.in-Since.hop.cell.0) (a c.args.at.0) m ≡ false) before
    (subst (λ (z : Cell). is_exchange (a z.0) (a c.args.at.0) u ≡ false) (same ∙ sym told.0) unbarred) in
    false≢true (sym unbarred' ∙ barred))

pub side_back-returns-clause-told : goal.side_back-returns-clause-told
side_back-returns-clause-told g t c =
    λ a agrees.
    (let told = rw c.in-Since.is at (c.in_ok-told.ensures.told a agrees) in
    let unbarred : is_exchange (a c.in-Since.hop.cell.0) (a c.args.at.0) (c.args.entered - 1) ≡ false = c.if-is_barred_from.ensures.barred a agrees in
    let beside : IsBeside c.args.task.now.grid.now c.args.side c.args.at c.in-Since.hop.cell = subst (λ (z : Cell). IsBeside c.args.task.now.grid.now c.args.side c.args.at z) (sym told.0) (rw c.in-Some.is at c.requires.neighbour).0 in
    let earliest : IsEarliest c.args.task.now.grid.now (traffic_by a) c.args.task.now.request c.in-Since.hop.cell (c.args.entered - 1) c.in-Since.hop.time =
    subst (λ (z : Cell). IsEarliest c.args.task.now.grid.now (traffic_by a) c.args.task.now.request z (c.args.entered - 1) c.in-Since.hop.time) (sym told.0) told.1 in
    side_found c.args.task.now.grid.now c.args.task.now.request a c.args.at c.in-Since.hop.cell c.args.entered (c.args.entered - 1) c.in-Since.hop.time c.args.side (omega (arith, c.if-entered-eq0.false)) beside earliest
    (c.requires.free a (agrees_before a (g.V.CalendarView.known c.args.view.now) (g.V.CalendarView.known c.arrival_at.new.view) c.in_ok-told.ensures.kept agrees)) unbarred)

pub step_back-returns-in-Since-clause-told : goal.step_back-returns-in-Since-clause-told
step_back-returns-in-Since-clause-told g t c =
    λ a agrees.
    (let back = rw c.in-Since.is at (c.in_ok-told.ensures.told a agrees) in
    record {
      before = back.before;
      time_is = back.time_is;
      first = record {
        side = c.side_at-side.result;
        beside = back.beside;
        precedes = back.precedes;
        first = λ other m less beside. c.loop-rank.invariant.none a (agrees_before a (g.V.CalendarView.known c.loop-rank.view) (g.V.CalendarView.known c.side_back.new.view) c.in_ok-told.ensures.kept agrees) other (omega (arith, c.side_at-side.ensures)) m back.before beside back.time_is;
      };
      earliest = back.earliest;
    })

pub step_back-loop-rank-preserved : goal.step_back-loop-rank-preserved
step_back-loop-rank-preserved g t c =
    record {
      cells = c.in_ok-told.ensures.cells ∙ c.loop-rank.invariant.cells;
      went = g.met.V.CalendarView.goes_on _ _ _ c.loop-rank.invariant.went c.in_ok-told.ensures.went;
      kept = kept_twice _ _ _ c.loop-rank.invariant.kept c.in_ok-told.ensures.kept;
      paused = c.in_ok-told.ensures.paused;
      ties = c.in_ok-told.ensures.ties;
      waiting = c.in_ok-told.ensures.waiting;
      floor = c.in_ok-told.ensures.floor ∙ c.loop-rank.invariant.floor;
      count = c.in_ok-told.ensures.count ∙ c.loop-rank.invariant.count;
      none = λ a agrees side low. elim (cases_lt (rank_of side) c.loop-rank.rank) [
        | inl less ↦ c.loop-rank.invariant.none a (agrees_before a (g.V.CalendarView.known c.loop-rank.view) (g.V.CalendarView.known c.side_back.new.view) c.in_ok-told.ensures.kept agrees) side less
        | inr past ↦
            let same : c.side_at-side.result ≡ side = same_side c.side_at-side.result side (omega (arith, c.side_at-side.ensures)) in
            subst (λ (z : Side). NoneFrom c.args.task.now.grid.now c.args.task.now.request a c.args.at c.args.entered z) same (rw c.in-Never.is at (c.in_ok-told.ensures.told a agrees))
      ];
    }

pub step_back-returns-clause-told : goal.step_back-returns-clause-told
step_back-returns-clause-told g t c =
    λ a agrees side n u beside time. c.loop-rank.invariant.none a agrees side (omega (arith, rank_low side, c.loop-rank-test.false)) n u beside time

pub step_back-side_back-requires : goal.step_back-side_back-requires
step_back-side_back-requires g t c κs within = (
  omega arith,
  (
    within,
    (
      ready_kept c.args.task.now.grid.now c.args.task.now.request c.args.task.now.horizon (g.V.CalendarView.size c.args.view.now) (g.V.CalendarView.size c.loop-rank.view) c.loop-rank.invariant.cells c.requires.ready,
      (
        c.loop-rank.invariant.paused,
        (
          c.loop-rank.invariant.ties,
          (
            c.loop-rank.invariant.waiting,
            (
              some_kept (g.V.CalendarView.known c.args.view.now) (g.V.CalendarView.known c.loop-rank.view) c.args.at.0 c.loop-rank.invariant.kept c.requires.known,
              (
                (let has = c.around-all.ensures c.side_at-side.result in
                    let there : get_or c.around-all.result c.loop-rank.rank None ≡ has.0 = get_or_from_slice_get c.around-all.result c.loop-rank.rank has.0 None (rw (sym c.side_at-side.ensures) has.1) in
                    rw there has.2),
                (
                  omega (arith, c.requires.cell, c.loop-rank.invariant.cells),
                  (
                    c.requires.time,
                    (λ a agrees. c.requires.free a (agrees_before a (g.V.CalendarView.known c.args.view.now) (g.V.CalendarView.known c.loop-rank.view) c.loop-rank.invariant.kept agrees)),
                  ),
                ),
              ),
            ),
          ),
        ),
      ),
    ),
  ),
)
