-- One state that is visited: each move into its interval is seen then.
use Rattle.std.proofs.Common.{arith, subst, sym, ap, ◌∙◌, refl, inl, inr, set}
use Rattle.std.specs.Prelude.{◌≡◌, ℕ, ◌+◌, ◌<◌, ◌≤◌, List, Some, slice_get}
use Rattle.fleet_base.specs.declared.grid.Cell.{Cell}
use Rattle.fleet_base.specs.declared.request.Record.{Record}
use Rattle.fleet_base.specs.declared.request.Request.{Request}
use Rattle.fleet_base.specs.Terrain.{Terrain}
use Rattle.fleet_base.specs.Reach.{Reached}
use Rattle.calendars.specs.Assignments.{Assignment, traffic_by}
use Rattle.safe_intervals.specs.declared.interval.Interval.{Interval}
use Rattle.safe_intervals.specs.Safe.{IsSafeInterval}
use Rattle.sipp_search.specs.declared.states.Spot.{Spot}
use Rattle.sipp_search.specs.declared.states.State.{State}
use Rattle.sipp_search.specs.declared.states.Mark.{Mark}
use Rattle.sipp_search.specs.declared.states.Mark.TheVariants.{Final}
use Rattle.sipp_search.specs.Marks.{spots_of, final, offered, offered_mark}
use Rattle.sipp_search.specs.Entry.{CanEnter, IsEntry}
use Rattle.static_distance.specs.Distance.{IsDistance}
use Rattle.sipp_search.specs.Progress.{MayMove, AreSpots, IsArrived, IsQueuedWell, AreQueuedWell, IsUnderWay, Improves}
use Rattle.sipp_search.specs.Visiting.{IsSource, HasEntered, HasLed, HasLedInto}
use Rattle.sipp_search.proofs.Lists.{stands_map}
use Rattle.sipp_search.proofs.Moves.{wait_until, move_on}
use Rattle.sipp_search.proofs.Marking.{marked, offered_has, offered_improves, offered_well, offered_seen, improved_way}

abbrev pub IsVisited : Terrain → Request → ℕ → Assignment → List State → ℕ → ℕ → List Record → List Record → Spot → ℕ → Spot → Type 0
IsVisited g q horizon a states cursor x here there from r to = IsUnderWay g q horizon a states cursor x × HasEntered here there horizon states from r to

module _ (g : Terrain) (q : Request) (horizon : ℕ) (a : Assignment) (cursor x : ℕ) (states : List State) (from : Spot) (r : ℕ) (here there : List Record) where
  -- no move enters
  pub visited_none : (to : Spot) → IsUnderWay g q horizon a states cursor x → ((t : ℕ) → ¬ (CanEnter here there from.interval to.interval r t))
      → IsVisited g q horizon a states cursor x here there from r to
  visited_none to way never = (way, (λ t can in_time. absurd (never t can)))

  -- from the earliest arrival that there could be the goal is too far
  pub visited_late : (to : Spot) (e : ℕ) → IsUnderWay g q horizon a states cursor x → ((t : ℕ) → CanEnter here there from.interval to.interval r t → e ≤ t + 1)
      → horizon < e + to.left → IsVisited g q horizon a states cursor x here there from r to
  visited_late to e way least late = (way, (λ t can in_time. absurd (omega (arith, least t can))))

  module _ (j : ℕ) (s : State) (at : slice_get states j ≡ Some s) (here_is : a from.cell.0 ≡ here) (there_is : a s.spot.cell.0 ≡ there)
      (source : IsSource g q horizon a from r s.spot.cell) (spots : AreSpots g q horizon a (spots_of states)) where
    safe : IsSafeInterval (a s.spot.cell.0) horizon s.spot.interval
    safe = spots.safe j s.spot (stands_map (λ (z : State). z.spot) states j s at)

    -- the spot is reached by each move that enters it
    can_arrive : (t : ℕ) → CanEnter here there from.interval s.spot.interval r t → IsArrived g q a s.spot (t + 1)
    can_arrive t can =
        let move : MayMove g a from.cell s.spot.cell t = record {
          side = source.side;
          beside = source.beside;
          opens = source.opens;
          untaken = safe.free (t + 1) can.lands;
          unbarred = rw (here_is, there_is) can.unbarred;
        } in
        let waits : Reached g (traffic_by a) q.start q.depart from.cell t =
        wait_until g q a from.cell r t source.arrived.reached can.not_before
        (λ y low high. source.safe.free y (omega (arith, source.arrived.inside.0), omega (arith, can.until))) in
        record { reached = move_on g q a move waits; inside = can.lands }

    -- a final state has the least arrival already
    pub visited_final : (f : ℕ) → s.mark ≡ Final f → IsUnderWay g q horizon a states cursor x → IsVisited g q horizon a states cursor x here there from r s.spot
    visited_final f mark way =
        let stands : slice_get states j ≡ Some (final s.spot f) = at ∙ ap (λ (m : Mark). Some (marked s.spot m)) mark in (
          way,
          (λ t can in_time. record {
            place = j;
            spot = s.spot;
            arrival = f;
            stands = inr stands;
            cell_is = refl;
            holds = can.lands;
            early = (way.final_well j f s.spot stands).least (t + 1) (can_arrive t can);
          }),
        )

    -- an arrival is known that is as early as the earliest that there could be
    pub visited_known : (e : ℕ) → offered_mark s.mark e ≡ s.mark → ((t : ℕ) → CanEnter here there from.interval s.spot.interval r t → e ≤ t + 1)
        → IsUnderWay g q horizon a states cursor x → IsVisited g q horizon a states cursor x here there from r s.spot
    visited_known e kept least way =
        let known = offered_has s.mark e in
        elim known.1 [
          | inr is ↦ visited_final known.0 is way
          | inl is ↦ (
            way,
            (λ t can in_time. record {
              place = j;
              spot = s.spot;
              arrival = known.0;
              stands = inl (at ∙ ap (λ (m : Mark). Some (marked s.spot m)) (sym kept ∙ is.0));
              cell_is = refl;
              holds = can.lands;
              early = omega (arith, is.1, least t can);
            }),
          )
        ]

  module _ (j e : ℕ) (s : State) (at : slice_get states j ≡ Some s) (here_is : a from.cell.0 ≡ here) (there_is : a s.spot.cell.0 ≡ there)
      (source : IsSource g q horizon a from r s.spot.cell) (spots : AreSpots g q horizon a (spots_of states)) (entry : IsEntry here there from.interval s.spot.interval r e) where
    -- the spot is reached at the offered time
    pub entry_arrives : IsArrived g q a s.spot e
    entry_arrives = subst (λ (n : ℕ). IsArrived g q a s.spot n) (sym entry.time_is) (can_arrive j s at here_is there_is source spots entry.before entry.enters)

    pub visited_offered : IsUnderWay g q horizon a states cursor x → cursor ≤ e + s.spot.left → e + s.spot.left ≤ horizon
        → IsVisited g q horizon a (set states j (offered s e)) cursor x here there from r s.spot
    visited_offered way after in_time =
        let new : IsQueuedWell g q horizon a cursor s.spot e = record { arrived = entry_arrives; after = after; in_time = in_time } in
        let well : AreQueuedWell g q horizon a (set states j (offered s e)) cursor = offered_well states j e s at g q horizon a cursor way.queued_well new in (
          improved_way g q horizon a states (set states j (offered s e)) cursor x way (offered_improves states j e s at) well,
          (λ t can near. offered_seen states j e s at s.spot.cell (t + 1) refl can.lands (omega (arith, entry.least t can, entry.time_is))
              (λ m mark. (way.final_well j m s.spot (at ∙ ap (λ (z : Mark). Some (marked s.spot z)) mark)).least e entry_arrives)),
        )

-- each move that arrives in the spot was seen, since no way is shorter than the static distance
pub entered_into : (g : Terrain) (q : Request) (horizon : ℕ) (a : Assignment) (states : List State) (from : Spot) (r : ℕ) (to : Spot) (here there : List Record)
    → a from.cell.0 ≡ here → a to.cell.0 ≡ there → IsDistance g q.goal to.cell to.left → HasEntered here there horizon states from r to
    → HasLedInto g q horizon a states from r to.cell to.interval
entered_into g q horizon a states from r to here there here_is there_is distance entered t k since until lands move near in_time =
    let left : to.left ≤ near.left = distance.least near.left near.way in
    entered t (record { not_before = since; until = until; lands = lands; unbarred = rw (here_is, there_is) at move.unbarred }) (omega (arith, near.below))

pub led_same : (g : Terrain) (q : Request) (horizon : ℕ) (a : Assignment) (states : List State) (from : Spot) (r : ℕ) (c d : Cell) (i j : Interval) → c ≡ d → i ≡ j
    → HasLedInto g q horizon a states from r c i → HasLedInto g q horizon a states from r d j
led_same g q horizon a states from r c d i j cell interval led =
    subst (λ (z : Interval). HasLedInto g q horizon a states from r d z) interval (subst (λ (z : Cell). HasLedInto g q horizon a states from r z i) cell led)

pub led_kept : (g : Terrain) (q : Request) (horizon : ℕ) (a : Assignment) (old new : List State) (from : Spot) (r : ℕ) (c : Cell) → Improves old new
    → HasLed g q horizon a old from r c → HasLed g q horizon a new from r c
led_kept g q horizon a old new from r c better led t k since until move near in_time = better.seen c (t + 1) (led t k since until move near in_time)
