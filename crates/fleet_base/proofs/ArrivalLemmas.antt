-- Free walks of a request are arrivals at its goal: so a search answers for all walks by the times that it reached.
use Rattle.std.proofs.Common.{◌≡◌, ℕ, ◌+◌, ◌-◌, ◌<◌, ◌≤◌, ◌⊎◌, inl, inr, Bool, true, false, List, length, Some, None, refl, sym, subst, ◌∙◌, arith}
use Rattle.fleet_base.specs.declared.grid.Cell.{Cell}
use Rattle.fleet_base.specs.declared.request.Request.{Request}
use Rattle.fleet_base.specs.declared.request.Live.{Live}
use Rattle.fleet_base.specs.Terrain.{Terrain, IsOpen}
use Rattle.fleet_base.specs.TimedWalk.{TimedWalk, position, arrival}
use Rattle.fleet_base.specs.Planned.{IsWalkOf, NoneBefore, NoneFree}
use Rattle.fleet_base.specs.Traffic.{Traffic, IsFreeIn, traffic_of}
use Rattle.fleet_base.specs.Reach.{Reached, MayEnd, IsArrival}
use Rattle.fleet_base.proofs.TrafficLemmas.{free_in_traffic}
use Rattle.fleet_base.proofs.WalkLemmas.{nat_cases, bool_cases, position_early, position_within, position_over, position_for_ever, some_cells}
use Rattle.fleet_base.proofs.ReachLemmas.{ReachesBy, goal_reached, walk_from_steps, steps_from_walk}

-- where a free walk of the request arrives, its agent may end
pub arrival_from_walk : (g : Terrain) (horizon : ℕ) (q : Request) (traffic : Traffic) (w : TimedWalk) → IsWalkOf g horizon q w → IsFreeIn traffic w
    → IsArrival g traffic q (arrival w)
arrival_from_walk g horizon q traffic w walk free = record {
  reachable = walk_from_steps g q traffic (goal_reached g horizon q traffic w walk free);
  may_end = λ staying s later.
      let some : 1 ≤ length w.cells = some_cells w q.depart q.start walk.starts in
      let stays : w.stay ≡ true = walk.stays ∙ staying in
      let e : arrival w + (s - arrival w) ≡ s = omega arith in
      let there : position w (arrival w + (s - arrival w)) ≡ Some q.goal =
      position_for_ever w q.goal (arrival w) (s - arrival w) stays (omega arith, omega arith) walk.arrives in
      free.untaken s q.goal (rw e at there);
}

-- The walk that ends on the goal, with the request's mark.
abbrev pub with_mark : TimedWalk → Bool → TimedWalk
with_mark w stay = record { depart = w.depart; cells = w.cells; stay = stay }

module _ (g : Terrain) (q : Request) (traffic : Traffic) (t : ℕ) (w : TimedWalk) (by : ReachesBy g q traffic q.goal t w) (ends : MayEnd traffic q t) where
  marked : TimedWalk
  marked = with_mark w q.stay

  some : 1 ≤ length w.cells
  some = some_cells w q.depart q.start by.walk_of.starts

  marked-until : (s : ℕ) → s ≤ arrival w → position marked s ≡ position w s
  unfolding marked
  marked-until s h = elim (nat_cases s w.depart) [
    | inl early ↦ position_early marked s early ∙ sym (position_early w s early)
    | inr since ↦ let n : 1 ≤ length w.cells = some in
        position_within marked s since (omega arith) ∙ sym (position_within w s since (omega arith))
  ]

  -- after its arrival it is on the goal, and only where it stays
  marked-later : (s : ℕ) (c : Cell) → arrival w ≤ s → position marked s ≡ Some c → (q.goal ≡ c) × ((s ≡ arrival w) ⊎ (q.stay ≡ true))
  unfolding marked
  marked-later s c later at = elim (bool_cases q.stay) [
    | inl stays ↦
        let n : 1 ≤ length w.cells = some in
        let last : position marked (arrival w) ≡ Some q.goal = marked-until (arrival w) (omega arith) ∙ by.walk_of.arrives in
        let e : arrival w + (s - arrival w) ≡ s = omega arith in
        let there : position marked (arrival w + (s - arrival w)) ≡ Some q.goal =
        position_for_ever marked q.goal (arrival w) (s - arrival w) stays (omega arith, omega arith) last in
        let here : position marked s ≡ Some q.goal = rw e at there in
        (cc, inr stays)
    | inr gone ↦ elim (nat_cases (arrival w) s) [
      | inl after ↦ let nowhere : position marked s ≡ None = position_over marked s gone (omega arith) in absurd (cc)
      | inr until ↦
          let e : s ≡ arrival w = omega arith in
          let last : position w (arrival w) ≡ Some q.goal = by.walk_of.arrives in
          let here : position w (arrival w) ≡ Some c = rw e at (sym (marked-until s until) ∙ at) in
          (cc, inl e)
    ]
  ]

  pub walk_of_arrival : (horizon : ℕ) → t ≤ horizon → IsWalkOf g horizon q (with_mark w q.stay)
  unfolding marked
  walk_of_arrival horizon in_time = record {
    departs = by.walk_of.departs;
    stays = refl;
    starts = marked-until q.depart (omega (arith, by.walk_of.departs)) ∙ by.walk_of.starts;
    arrives = marked-until (arrival w) (omega arith) ∙ by.walk_of.arrives;
    opens = λ s c at. elim (nat_cases s (arrival w)) [
      | inl before ↦ by.walk_of.opens s c (sym (marked-until s (omega arith)) ∙ at)
      | inr later ↦ subst (λ (x : Cell). IsOpen g x) (marked-later s c later at).0 (by.walk_of.opens (arrival w) q.goal by.walk_of.arrives)
    ];
    steps = λ s c d from to. elim (nat_cases s (arrival w)) [
      | inl before ↦ by.walk_of.steps s c d (sym (marked-until s (omega arith)) ∙ from) (sym (marked-until (s + 1) (omega arith)) ∙ to)
      | inr later ↦
          let here : q.goal ≡ c = (marked-later s c later from).0 in
          let there : q.goal ≡ d = (marked-later (s + 1) d (omega arith) to).0 in
          inl (cc)
    ];
    in_time = omega (arith, by.ends);
  }

  pub free_of_arrival : IsFreeIn traffic (with_mark w q.stay)
  unfolding marked
  free_of_arrival = record {
    untaken = λ s c at. elim (nat_cases s (arrival w)) [
      | inl before ↦ by.free.untaken s c (sym (marked-until s (omega arith)) ∙ at)
      | inr later ↦
          let end = marked-later s c later at in
          elim end.1 [
            | inl last ↦ by.free.untaken s c (sym (marked-until s (omega arith)) ∙ at)
            | inr stays ↦ subst (λ (x : Cell). traffic.is_taken x s ≡ false) end.0 (ends stays s (omega (arith, by.ends)))
          ]
    ];
    unbarred = λ s c d differ from to. elim (nat_cases s (arrival w)) [
      | inl before ↦ by.free.unbarred s c d differ (sym (marked-until s (omega arith)) ∙ from) (sym (marked-until (s + 1) (omega arith)) ∙ to)
      | inr later ↦
          let here : q.goal ≡ c = (marked-later s c later from).0 in
          let there : q.goal ≡ d = (marked-later (s + 1) d (omega arith) to).0 in
          absurd (differ (cc))
    ];
  }

-- No walk arrives before t where there is no arrival before t, and none at all where there is none.
module _ (g : Terrain) (horizon : ℕ) (q : Request) (book : List Live) where
  pub none_before_from_arrivals : (t : ℕ) → ((s : ℕ) → IsArrival g (traffic_of book) q s → t ≤ s) → NoneBefore g horizon q book t
  none_before_from_arrivals t later = record {
    later = λ w walk free. later (arrival w) (arrival_from_walk g horizon q (traffic_of book) w walk (free_in_traffic w book free));
  }

  pub none_free_from_arrivals : ((s : ℕ) → s ≤ horizon → ¬ (IsArrival g (traffic_of book) q s)) → NoneFree g horizon q book
  none_free_from_arrivals never = record {
    never = λ w walk free. never (arrival w) walk.in_time (arrival_from_walk g horizon q (traffic_of book) w walk (free_in_traffic w book free));
  }

  -- the same by steps
  pub none_before_from_steps : (t : ℕ) → ((s : ℕ) → s < t → ¬ (Reached g (traffic_of book) q.start q.depart q.goal s)) → NoneBefore g horizon q book t
  none_before_from_steps t never = none_before_from_arrivals t (λ s a. elim (nat_cases s t) [
    | inl before ↦ absurd (never s before (steps_from_walk g q (traffic_of book) q.goal s a.reachable))
    | inr since ↦ since
  ])

  pub none_free_from_steps : ((s : ℕ) → s ≤ horizon → ¬ (Reached g (traffic_of book) q.start q.depart q.goal s)) → NoneFree g horizon q book
  none_free_from_steps never = none_free_from_arrivals (λ s below a. never s below (steps_from_walk g q (traffic_of book) q.goal s a.reachable))
