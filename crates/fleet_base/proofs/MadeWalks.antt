-- A walk of a request, from facts on its list of cells, and two walks that keep apart, by a test.
use Rattle.std.proofs.Common.{◌≡◌, ℕ, zero, suc, ◌+◌, ◌-◌, ◌<◌, ◌≤◌, inl, inr, Bool, true, false, cond, List, [], ◌∷◌, length, Option, Some, None, refl, sym, ap, subst, ◌∙◌, arith}
use Rattle.std.specs.Prelude.{slice_get, not, ◌&&◌}
use Rattle.std.specs.List.{list_all}
use Rattle.std.proofs.lemmas.Option.{slice_get_within, get_or_from_slice_get}
use Rattle.std.proofs.lemmas.List.Sums.{AllPass-from_list_all}
use Rattle.std.proofs.lemmas.Bool.{and_parts, cases_eq, both_ways, not-true}
use Rattle.fleet_base.specs.declared.grid.Cell.{Cell}
use Rattle.fleet_base.specs.Terrain.{Terrain, IsOpen}
use Rattle.fleet_base.specs.TimedWalk.{TimedWalk, position, place_after, IsStep, MeetAt, Meet}
use Rattle.fleet_base.specs.Traffic.{is_on}
use Rattle.fleet_base.proofs.TrafficLemmas.{is_on-some}
use Rattle.fleet_base.proofs.WalkLemmas.{nat_cases, stands_still, position_since, position_within, stood_since, stood_until}
use Rattle.fleet_base.proofs.Layers.{is_open}

abbrev pub AllSteps : Terrain → List Cell → Type 0
AllSteps g [] = Unit {0}
AllSteps g (c ∷ []) = Unit {0}
AllSteps g (c ∷ d ∷ cs) = IsStep g c d × AllSteps g (d ∷ cs)

step_at : (g : Terrain) (cs : List Cell) (k : ℕ) (c d : Cell) → AllSteps g cs → slice_get cs k ≡ Some c → slice_get cs (suc k) ≡ Some d → IsStep g c d
step_at g [] k c d h from to = absurd (cc)
step_at g (a ∷ []) k c d h from to = absurd (cc)
step_at g (a ∷ b ∷ cs) zero c d h from to =
    let first : a ≡ c = cc in let second : b ≡ d = cc in subst (λ (x : Cell). IsStep g x d) first (subst (λ (x : Cell). IsStep g a x) second h.0)
step_at g (a ∷ b ∷ cs) (suc k) c d h from to = step_at g (b ∷ cs) k c d h.1 from to

pub steps_from_list : (g : Terrain) (w : TimedWalk) → AllSteps g w.cells → (t : ℕ) (c d : Cell) → position w t ≡ Some c → position w (t + 1) ≡ Some d → IsStep g c d
steps_from_list g w h t c d from to =
    let since : w.depart ≤ t = stood_since w t c from in
    elim (nat_cases (t + 1) (w.depart + length w.cells)) [
      | inl below ↦
          let k : t + 1 - w.depart ≡ suc (t - w.depart) = omega arith in
          step_at g w.cells (t - w.depart) c d h (sym (position_within w t since (omega arith)) ∙ from)
          (ap (λ n. slice_get w.cells n) (sym k) ∙ (sym (position_within w (t + 1) (omega arith) below) ∙ to))
      | inr over ↦ let still : position w (t + 1) ≡ position w t = stands_still w t d (since, over) to in inl (cc)
    ]

open_from : (o : Option Bool) → is_open o ≡ true → o ≡ Some true
open_from None h = absurd (cc)
open_from (Some b) h = ap (λ (x : Bool). Some x) h

pub opens_from_list : (g : Terrain) (w : TimedWalk) → list_all (λ c. is_open (slice_get g.cells c.0)) w.cells ≡ true → (t : ℕ) (c : Cell) → position w t ≡ Some c → IsOpen g c
opens_from_list g w h t c at =
    let place : ℕ = place_after w (t - w.depart) in
    let here : slice_get w.cells place ≡ Some c = sym (position_since w t (stood_since w t c at)) ∙ at in
    let p : Cell → Bool = λ c. is_open (slice_get g.cells c.0) in
    let test = AllPass-from_list_all p w.cells h place c (slice_get_within w.cells place c here) in
    open_from _ (subst (λ (x : Cell). p x ≡ true) (get_or_from_slice_get w.cells place c c here) test)

-- whether two walks meet at a time, and at any of the first times
abbrev pub is_same : Option Cell → Option Cell → Bool
is_same None b = false
is_same (Some c) b = is_on c b

abbrev pub conflict : TimedWalk → TimedWalk → ℕ → Bool
conflict w v t = cond (is_same (position w t) (position v t)) true (is_same (position w t) (position v (t + 1)) && is_same (position w (t + 1)) (position v t))

abbrev pub no_conflict : TimedWalk → TimedWalk → ℕ → Bool
no_conflict w v zero = true
no_conflict w v (suc t) = not (conflict w v t) && no_conflict w v t

same_cell : (c : Cell) (a b : Option Cell) → a ≡ Some c → b ≡ Some c → is_same a b ≡ true
same_cell c None b p q = absurd (cc)
same_cell c (Some d) b p q = let e : d ≡ c = cc in is_on-some d b (q ∙ ap (λ (x : Cell). Some x) (sym e))

if_second : (a b : Bool) → b ≡ true → cond a true b ≡ true
if_second true b h = refl
if_second false b h = h

both_true : (a b : Bool) → a ≡ true → b ≡ true → (a && b) ≡ true
both_true true b p q = q
both_true false b p q = p

conflict_when_met : (w v : TimedWalk) (t : ℕ) → MeetAt w v t → conflict w v t ≡ true
conflict_when_met w v t (inl (c, here, there)) =
    ap (λ b. cond b true (is_same (position w t) (position v (t + 1)) && is_same (position w (t + 1)) (position v t))) (same_cell c _ _ here there)
conflict_when_met w v t (inr (c, d, differ, here, next, there, after)) =
    if_second (is_same (position w t) (position v t)) _ (both_true _ _ (same_cell c _ _ here after) (same_cell d _ _ next there))

conflict_within : (w v : TimedWalk) (n t : ℕ) → no_conflict w v n ≡ true → t < n → conflict w v t ≡ true → ⊥
conflict_within w v zero t h below met = omega arith
conflict_within w v (suc n) t h below met =
    let both : (not (conflict w v n) ≡ true) × (no_conflict w v n ≡ true) = and_parts _ _ h in
    elim (cases_eq t n) [
      | inl same ↦ both_ways (conflict w v n) (not-true _ both.0) (rw same at met)
      | inr other ↦ conflict_within w v n t both.1 (omega arith) met
    ]

met_until : (w v : TimedWalk) (t : ℕ) → w.stay ≡ false → MeetAt w v t → t < w.depart + length w.cells
met_until w v t gone (inl (c, here, there)) = stood_until w t c gone here
met_until w v t gone (inr (c, d, differ, here, next, there, after)) = stood_until w t c gone here

pub apart : (w v : TimedWalk) → w.stay ≡ false → no_conflict w v (w.depart + length w.cells) ≡ true → ¬ (Meet w v)
apart w v gone h m = conflict_within w v (w.depart + length w.cells) m.time h (met_until w v m.time gone m.met) (conflict_when_met w v m.time m.met)
