-- A cell is reached step by step exactly where a free walk ends on it, and what a search concludes from that.
use Rattle.std.proofs.Common.{◌≡◌, ℕ, zero, suc, ◌+◌, ◌-◌, ◌<◌, ◌≤◌, ◌⊎◌, inl, inr, false, List, [], ◌∷◌, ◌++◌, length, Some, refl, sym, ap, subst, ◌∙◌, arith, add-zero}
use Rattle.std.specs.Prelude.{slice_get}
use Rattle.std.proofs.lemmas.List.{length_push}
use Rattle.fleet_base.specs.declared.grid.Cell.{Cell}
use Rattle.fleet_base.specs.declared.request.Request.{Request}
use Rattle.fleet_base.specs.Terrain.{Terrain, IsOpen}
use Rattle.fleet_base.specs.TimedWalk.{TimedWalk, position, arrival, IsStep}
use Rattle.fleet_base.specs.Planned.{IsWalkOf}
use Rattle.fleet_base.specs.Traffic.{Traffic, IsFreeIn}
use Rattle.fleet_base.specs.Reach.{reaching, IsReachable, IsClearStep, Reached, begin, step}
use Rattle.fleet_base.proofs.WalkLemmas.{nat_cases, position_within, position_early, stood_since, stood_until, stood_before, some_cells}

-- From whole walks to steps.
module _ (g : Terrain) (horizon : ℕ) (q : Request) (traffic : Traffic) (w : TimedWalk) (walk : IsWalkOf g horizon q w) (free : IsFreeIn traffic w) where
  -- where a free walk is, its cell is reached, also while it stays on its last one
  pub walk_reaches : (k : ℕ) (c : Cell) → position w (q.depart + k) ≡ Some c → Reached g traffic q.start q.depart c (q.depart + k)
  walk_reaches zero c at =
      let first : position w q.depart ≡ Some c = rw add-zero at at in
      let same : q.start ≡ c = cc in
      let opened : IsOpen g q.start = walk.opens q.depart q.start walk.starts in
      rw add-zero (subst (λ (x : Cell). Reached g traffic q.start q.depart x q.depart) same (begin opened (free.untaken q.depart q.start walk.starts)))
  walk_reaches (suc k) d at =
      let e : q.depart + suc k ≡ q.depart + k + 1 = omega arith in
      let to : position w (q.depart + k + 1) ≡ Some d = rw e at at in
      let before : (c : Cell) × (position w (q.depart + k) ≡ Some c) = stood_before w (q.depart + k) d (omega (arith, walk.departs)) to in
      let c : Cell = before.0 in
      let clear : IsClearStep traffic c d (q.depart + k) = record {
        untaken = free.untaken (q.depart + k + 1) d to;
        unbarred = λ differ. free.unbarred (q.depart + k) c d differ before.1 to;
      } in
      rw e (step (walk_reaches k c before.1) (walk.steps _ c d before.1 to) (walk.opens _ d to) clear)

  pub goal_reached : Reached g traffic q.start q.depart q.goal (arrival w)
  goal_reached =
      let k : ℕ = length w.cells - 1 in
      let a : arrival w ≡ q.depart + k = ap (λ (t : ℕ). t + k) walk.departs in
      rw a (walk_reaches k q.goal (rw a at walk.arrives))

-- From steps to whole walks.
-- the walk with one cell more at its end
abbrev pub longer : TimedWalk → Cell → TimedWalk
longer w d = record { depart = w.depart; cells = w.cells ++ d ∷ []; stay = false }

slice_get-push_old : (xs : List Cell) (d : Cell) (k : ℕ) → k < length xs → slice_get (xs ++ d ∷ []) k ≡ slice_get xs k
slice_get-push_old [] d k h = absurd (omega arith)
slice_get-push_old (x ∷ xs) d zero h = refl
slice_get-push_old (x ∷ xs) d (suc k) h = slice_get-push_old xs d k (omega arith)

slice_get-push_new : (xs : List Cell) (d : Cell) → slice_get (xs ++ d ∷ []) (length xs) ≡ Some d
slice_get-push_new [] d = refl
slice_get-push_new (x ∷ xs) d = slice_get-push_new xs d

module _ (w : TimedWalk) (d : Cell) (some : 1 ≤ length w.cells) where
  pub longer-old : (t : ℕ) → t ≤ arrival w → position (longer w d) t ≡ position w t
  longer-old t h = elim (nat_cases t w.depart) [
    | inl early ↦ position_early (longer w d) t early ∙ sym (position_early w t early)
    | inr since ↦
        position_within (longer w d) t since (omega (arith, length_push w.cells d))
        ∙ (slice_get-push_old w.cells d (t - w.depart) (omega arith) ∙ sym (position_within w t since (omega arith)))
  ]

  pub longer-new : position (longer w d) (arrival w + 1) ≡ Some d
  longer-new =
      let k : arrival w + 1 - w.depart ≡ length w.cells = omega arith in
      position_within (longer w d) (arrival w + 1) (omega arith) (omega (arith, length_push w.cells d))
      ∙ (ap (λ n. slice_get (w.cells ++ d ∷ []) n) k ∙ slice_get-push_new w.cells d)

  pub longer-arrival : arrival (longer w d) ≡ arrival w + 1
  longer-arrival = omega (arith, length_push w.cells d)

  -- it is at its new end or where it was before
  pub longer-cases : (t : ℕ) (a : Cell) → position (longer w d) t ≡ Some a
      → ((t ≤ arrival w) × (position w t ≡ Some a)) ⊎ ((t ≡ arrival w + 1) × (d ≡ a))
  longer-cases t a at = elim (nat_cases (arrival w) t) [
    | inr before ↦ inl (before, sym (longer-old t before) ∙ at)
    | inl after ↦
        let last : t < w.depart + length (w.cells ++ d ∷ []) = stood_until (longer w d) t a refl at in
        let e : t ≡ arrival w + 1 = omega (arith, length_push w.cells d) in
        let new : position (longer w d) t ≡ Some d = rw e longer-new in
        inr (e, cc)
  ]

module _ (g : Terrain) (q : Request) (traffic : Traffic) where
  -- this walk shows that c is reachable at t
  pub record ReachesBy (c : Cell) (t : ℕ) (walk : TimedWalk) : Type 0 where
    pub walk_of : IsWalkOf g t (reaching q c) walk
    pub free : IsFreeIn traffic walk
    pub ends : arrival walk ≡ t

  pub reachable_by : {c : Cell} {t : ℕ} (walk : TimedWalk) → ReachesBy c t walk → IsReachable g traffic q c t
  reachable_by walk by = record { walk = walk; walk_of = by.walk_of; free = by.free; ends = by.ends }

  abbrev pub standing : TimedWalk
  standing = record { depart = q.depart; cells = q.start ∷ []; stay = false }

  standing_at : (t : ℕ) (c : Cell) → position standing t ≡ Some c → t ≡ q.depart
  standing_at t c at = omega (arith, stood_since standing t c at, stood_until standing t c refl at)

  standing-first : position standing q.depart ≡ Some q.start
  standing-first =
      let zero_later : q.depart - q.depart ≡ 0 = omega arith in
      position_within standing q.depart (omega arith) (omega arith) ∙ ap (λ n. slice_get (q.start ∷ []) n) zero_later

  standing_is : (c : Cell) → position standing q.depart ≡ Some c → q.start ≡ c
  standing_is c at = let first : position standing q.depart ≡ Some q.start = standing-first in cc

  pub standing_reaches : IsOpen g q.start → traffic.is_taken q.start q.depart ≡ false → ReachesBy q.start q.depart standing
  standing_reaches opened untaken =
      record {
        walk_of = record {
          departs = refl;
          stays = refl;
          starts = standing-first;
          arrives = rw add-zero standing-first;
          opens = λ t c at. let here : t ≡ q.depart = standing_at t c at in subst (λ (x : Cell). IsOpen g x) (standing_is c (rw here at at)) opened;
          steps = λ t c d from to. absurd (omega (arith, standing_at t c from, standing_at (t + 1) d to));
          in_time = omega arith;
        };
        free = record {
          untaken = λ t c at.
              let here : t ≡ q.depart = standing_at t c at in
              let same : q.start ≡ c = standing_is c (rw here at at) in
              rw (here, ← same) untaken;
          unbarred = λ t c d differ from to. absurd (omega (arith, standing_at t c from, standing_at (t + 1) d to));
        };
        ends = add-zero q.depart;
      }

  pub step_reaches : {c d : Cell} {t : ℕ} (w : TimedWalk) → ReachesBy c t w → IsStep g c d → IsOpen g d → IsClearStep traffic c d t
      → ReachesBy d (t + 1) (longer w d)
  step_reaches {c} {d} {t} w r moves opened clear =
      let some : 1 ≤ length w.cells = some_cells w q.depart q.start r.walk_of.starts in
      let last : position w (arrival w) ≡ Some c = r.walk_of.arrives in
      let begun : q.depart ≤ arrival w = omega (arith, r.walk_of.departs) in
      let ends : arrival w ≡ t = r.ends in
      record {
        walk_of = record {
          departs = r.walk_of.departs;
          stays = refl;
          starts = longer-old w d some q.depart begun ∙ r.walk_of.starts;
          arrives = rw (longer-arrival w d some) (longer-new w d some);
          opens = λ s a at. elim (longer-cases w d some s a at) [
            | inl before ↦ r.walk_of.opens s a before.1
            | inr end ↦ subst (λ (x : Cell). IsOpen g x) end.1 opened
          ];
          steps = λ s a b from to. elim (longer-cases w d some (s + 1) b to) [
            | inl before ↦ r.walk_of.steps s a b (sym (longer-old w d some s (omega (arith, before.0))) ∙ from) before.1
            | inr end ↦ subst (λ (x : Cell). IsStep g x b) (left some s a from (omega (arith, end.0))) (subst (λ (x : Cell). IsStep g c x) end.1 moves)
          ];
          in_time = omega (arith, longer-arrival w d some, r.ends);
        };
        free = record {
          untaken = λ s a at. elim (longer-cases w d some s a at) [
            | inl before ↦ r.free.untaken s a before.1
            | inr end ↦ let e : s ≡ t + 1 = omega (arith, end.0, ends) in let same : d ≡ a = end.1 in rw (e, ← same) clear.untaken
          ];
          unbarred = λ s a b differ from to. elim (longer-cases w d some (s + 1) b to) [
            | inl before ↦ r.free.unbarred s a b differ (sym (longer-old w d some s (omega (arith, before.0))) ∙ from) before.1
            | inr end ↦
                let e : s ≡ t = omega (arith, end.0, ends) in
                let same : d ≡ b = end.1 in
                let was : c ≡ a = left some s a from (omega (arith, end.0)) in
                rw (e, ← same, ← was) (clear.unbarred (λ one. differ (sym was ∙ (one ∙ same))))
          ];
        };
        ends = longer-arrival w d some ∙ ap (λ n. n + 1) ends;
      }
    where
      left : 1 ≤ length w.cells → (s : ℕ) (a : Cell) → position (longer w d) s ≡ Some a → s ≡ arrival w → c ≡ a
      left some s a from e =
          let at : position w (arrival w) ≡ Some a = rw e at (sym (longer-old w d some s (omega arith)) ∙ from) in
          let last : position w (arrival w) ≡ Some c = r.walk_of.arrives in
          cc

  -- what is reached step by step is reached by a walk
  pub walk_from_steps : {c : Cell} {t : ℕ} → Reached g traffic q.start q.depart c t → IsReachable g traffic q c t
  walk_from_steps (begin opened untaken) = reachable_by standing (standing_reaches opened untaken)
  walk_from_steps (step {c} {d} {t} before moves opened clear) =
      let r : IsReachable g traffic q c t = walk_from_steps before in
      reachable_by (longer r.walk d) (step_reaches r.walk (record { walk_of = r.walk_of; free = r.free; ends = r.ends }) moves opened clear)

  pub steps_from_walk : (c : Cell) (t : ℕ) → IsReachable g traffic q c t → Reached g traffic q.start q.depart c t
  steps_from_walk c t r = subst (λ (n : ℕ). Reached g traffic q.start q.depart c n) r.ends (goal_reached g t (reaching q c) traffic r.walk r.walk_of r.free)

  pub reachable_since : {c : Cell} {t : ℕ} → IsReachable g traffic q c t → q.depart ≤ t
  reachable_since r = omega (arith, r.walk_of.departs, r.ends)

  pub reachable_open : {c : Cell} {t : ℕ} → IsReachable g traffic q c t → IsOpen g c
  reachable_open {c} r = r.walk_of.opens (arrival r.walk) c r.walk_of.arrives

  pub reachable_untaken : {c : Cell} {t : ℕ} → IsReachable g traffic q c t → traffic.is_taken c t ≡ false
  reachable_untaken {c} {t} r = subst (λ (n : ℕ). traffic.is_taken c n ≡ false) r.ends (r.free.untaken (arrival r.walk) c r.walk_of.arrives)
