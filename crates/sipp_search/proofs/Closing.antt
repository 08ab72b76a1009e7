-- Every cell that can be reached by a limit has a final state, once no key up to the limit is queued; and the arrival of the
-- queued state of the least key is the least one.
use Rattle.std.proofs.Common.{arith, subst, sym, ap, ◌∙◌, inl, inr}
use Rattle.std.proofs.lemmas.Bool.{cases_lt, cases_eq}
use Rattle.std.proofs.lemmas.Option.{same_Some}
use Rattle.std.specs.Prelude.{◌≡◌, ℕ, ◌+◌, ◌<◌, ◌≤◌, false, List, Some, slice_get}
use Rattle.fleet_base.specs.declared.grid.Cell.{Cell}
use Rattle.fleet_base.specs.declared.request.Request.{Request}
use Rattle.fleet_base.specs.Terrain.{Terrain}
use Rattle.fleet_base.specs.Reach.{Reached, begin, step}
use Rattle.calendars.specs.Records.{covers}
use Rattle.calendars.specs.Assignments.{Assignment, traffic_by}
use Rattle.safe_intervals.specs.Safe.{IsSafeInterval}
use Rattle.safe_intervals.proofs.SafeLemmas.{safe_once, in_one}
use Rattle.static_distance.specs.Distance.{IsDistance}
use Rattle.sipp_search.specs.declared.states.Spot.{Spot}
use Rattle.sipp_search.specs.declared.states.State.{State}
use Rattle.sipp_search.specs.declared.states.Mark.TheVariants.{Queued, Final}
use Rattle.sipp_search.specs.Marks.{spots_of, queued, final}
use Rattle.sipp_search.specs.Progress.{IsBound, MayMove, IsWithin, HasSeen, HasFinal, AreSpots, IsArrived, IsQueuedWell, LeadsOn, IsUnderWay}
use Rattle.sipp_search.specs.Running.{AreAbove}
use Rattle.sipp_search.proofs.Lists.{stands_map}
use Rattle.sipp_search.proofs.Moves.{falls_back, reached_free, reached_open, move_of_step}

-- each final state leads on
abbrev pub EachLeads : Terrain → Request → ℕ → Assignment → List State → Type 0
EachLeads g q horizon a states = (i r : ℕ) (p : Spot) → slice_get states i ≡ Some (final p r) → LeadsOn g q horizon a states p r

-- where no place is left out, each leads
pub each_leads : (g : Terrain) (q : Request) (horizon : ℕ) (a : Assignment) (states : List State) (cursor x : ℕ) → IsUnderWay g q horizon a states cursor x
    → ((r : ℕ) (p : Spot) → slice_get states x ≡ Some (final p r) → LeadsOn g q horizon a states p r) → EachLeads g q horizon a states
each_leads g q horizon a states cursor x way last i r p at = elim (cases_eq i x) [
  | inl e ↦ last r p (rw e at at)
  | inr ne ↦ way.leads i r p ne at
]

module _ (g : Terrain) (q : Request) (horizon : ℕ) (a : Assignment) (bound : IsBound g q.goal) (states : List State) (cursor x : ℕ)
    (spots : AreSpots g q horizon a (spots_of states)) (way : IsUnderWay g q horizon a states cursor x) (leads : EachLeads g q horizon a states) where
  spot_at : (i : ℕ) (s : State) → slice_get states i ≡ Some s → slice_get (spots_of states) i ≡ Some s.spot
  spot_at i s at = stands_map (λ (z : State). z.spot) states i s at

  -- what was seen by the limit is final
  seen_final : (limit : ℕ) → AreAbove states limit → (c : Cell) (t k : ℕ) → HasSeen states c t → IsWithin g q.goal c k → t + k ≤ limit → HasFinal states c t
  seen_final limit above c t k seen within le = elim seen.stands [
    | inl at ↦
        let high : limit < seen.arrival + seen.spot.left = above seen.place seen.arrival seen.spot at in
        let mine : IsDistance g q.goal c seen.spot.left =
        subst (λ (z : Cell). IsDistance g q.goal z seen.spot.left) seen.cell_is (spots.distance seen.place seen.spot (spot_at seen.place (queued seen.spot seen.arrival) at)) in
        let e : seen.spot.left ≤ within.left = mine.least within.left within.way in
        absurd (omega (arith, seen.early, within.below))
    | inr at ↦ record {
      place = seen.place;
      spot = seen.spot;
      arrival = seen.arrival;
      stands = at;
      cell_is = seen.cell_is;
      holds = seen.holds;
      early = seen.early;
    }
  ]

  -- who waits stays in the safe interval
  pub final_waits : (c : Cell) (t : ℕ) → HasFinal states c t → t + 1 ≤ horizon → covers (a c.0) t ≡ false → covers (a c.0) (t + 1) ≡ false → HasFinal states c (t + 1)
  final_waits c t has in_time free free' =
      let safe : IsSafeInterval (a has.spot.cell.0) horizon has.spot.interval = spots.safe has.place has.spot (spot_at has.place (final has.spot has.arrival) has.stands) in
      let safe' : IsSafeInterval (a c.0) horizon has.spot.interval = subst (λ (z : Cell). IsSafeInterval (a z.0) horizon has.spot.interval) has.cell_is safe in
      record {
        place = has.place;
        spot = has.spot;
        arrival = has.arrival;
        stands = has.stands;
        cell_is = has.cell_is;
        holds = in_one (a c.0) horizon has.spot.interval t (t + 1) safe' has.holds (omega arith) in_time (λ y low high. between y low high);
        early = omega (arith, has.early);
      }
    where
      between : (y : ℕ) → t ≤ y → y ≤ t + 1 → covers (a c.0) y ≡ false
      between y low high = elim (cases_eq y t) [
        | inl e ↦ rw e free
        | inr ne ↦ let e : y ≡ t + 1 = omega arith in rw e free'
      ]

  pub complete : (limit : ℕ) → AreAbove states limit → limit ≤ horizon → {c : Cell} {t : ℕ} (k : ℕ) → Reached g (traffic_by a) q.start q.depart c t
      → IsWithin g q.goal c k → t + k ≤ limit → HasFinal states c t
  complete limit above in_time k (begin opened untaken) within le =
      seen_final limit above q.start q.depart k (way.start k untaken within (omega arith)) within le
  complete limit above in_time k (step {c} {d} {t} before moves opened clear) within le = elim moves [
    | inl same ↦
        let here : IsWithin g q.goal c k = subst (λ (z : Cell). IsWithin g q.goal z k) same within in
        let had : HasFinal states c t = complete limit above in_time k before here (omega arith) in
        let free : covers (a c.0) (t + 1) ≡ false = subst (λ (z : Cell). covers (a z.0) (t + 1) ≡ false) same clear.untaken in
        subst (λ (z : Cell). HasFinal states z (t + 1)) (sym same) (final_waits c t had (omega arith) (reached_free g q a before) free)
    | inr beside ↦
        let m : MayMove g a c d t = move_of_step g q a c d t beside.0 beside.1 opened clear in
        let here : IsWithin g q.goal c (k + 1) = falls_back g q a k m (reached_open g q a before) within in
        let had : HasFinal states c t = complete limit above in_time (k + 1) before here (omega arith) in
        let m' : MayMove g a had.spot.cell d t = subst (λ (z : Cell). MayMove g a z d t) (sym had.cell_is) m in
        let seen : HasSeen states d (t + 1) = leads had.place had.arrival had.spot had.stands t k d had.early had.holds.1 m' within (omega arith) in
        seen_final limit above d (t + 1) k seen within le
  ]

  -- the state of the least key has its least arrival
  pub taken_least : (i r : ℕ) (p : Spot) → slice_get states i ≡ Some (queued p r) → ((j s : ℕ) (o : Spot) → slice_get states j ≡ Some (queued o s) → r + p.left ≤ s + o.left)
      → (t : ℕ) → IsArrived g q a p t → r ≤ t
  taken_least i r p at least t arrived = elim (cases_lt t r) [
    | inr ge ↦ ge
    | inl lt ↦ absurd (earlier lt)
  ]
    where
      earlier : t < r → ⊥
      earlier lt =
          let well : IsQueuedWell g q horizon a cursor p r = way.queued_well i r p at in
          let here : slice_get (spots_of states) i ≡ Some p = spot_at i (queued p r) at in
          let near : IsWithin g q.goal p.cell p.left = record { left = p.left; way = (spots.distance i p here).way; below = omega arith } in
          let has : HasFinal states p.cell t =
          complete (t + p.left) (λ j s o at'. omega (arith, least j s o at')) (omega (arith, well.in_time)) p.left arrived.reached near (omega arith) in
          let there : slice_get (spots_of states) has.place ≡ Some has.spot = spot_at has.place (final has.spot has.arrival) has.stands in
          let safe : IsSafeInterval (a p.cell.0) horizon has.spot.interval =
          subst (λ (z : Cell). IsSafeInterval (a z.0) horizon has.spot.interval) has.cell_is (spots.safe has.place has.spot there) in
          let same : has.spot.interval ≡ p.interval = safe_once (a p.cell.0) horizon has.spot.interval p.interval t safe (spots.safe i p here) has.holds arrived.inside in
          let place : has.place ≡ i = spots.once has.place i has.spot p there here has.cell_is same in
          let at' : slice_get states i ≡ Some (final has.spot has.arrival) = rw place at has.stands in
          let clash : final has.spot has.arrival ≡ queued p r = same_Some (final has.spot has.arrival) (queued p r) (sym at' ∙ at) in
          let marks : Final has.arrival ≡ Queued r = ap (λ (z : State). z.mark) clash in
          cc
