-- Where a walk is and where it isn't, and that meeting is mutual.
use Rattle.std.proofs.Common.{◌≡◌, ℕ, zero, suc, ◌+◌, ◌-◌, ◌<◌, ◌≤◌, ◌⊎◌, inl, inr, Bool, true, false, refl, sym, ap, length, Some, None, ◌∙◌, arith}
use Rattle.std.proofs.lemmas.Option.{slice_get_past, slice_get_cases}
use Rattle.std.proofs.lemmas.Bool.Decides.{nat_tests, leb_tells}
use Rattle.std.specs.Prelude.{slice_get, min, if◌then◌else◌}
use Rattle.fleet_base.specs.declared.grid.Cell.{Cell}
use Rattle.fleet_base.specs.TimedWalk.{TimedWalk, place_after, position, MeetAt, Meet}

pub nat_cases : (a b : ℕ) → (a < b) ⊎ (b ≤ a)
nat_cases a b = elim (leb_tells b a) [ inl e ↦ inr e.1 | inr e ↦ inl e.1 ]

pub bool_cases : (b : Bool) → (b ≡ true) ⊎ (b ≡ false)
bool_cases true = inl refl
bool_cases false = inr refl

place_within : (stay : Bool) (k n : ℕ) → k < n → (if stay then min k (n - 1) else k) ≡ k
place_within true k n h = omega arith
place_within false k n h = refl

place_still : (stay : Bool) (k n : ℕ) → stay ≡ true → n ≤ k + 1 → (if stay then min (k + 1) (n - 1) else k + 1) ≡ (if stay then min k (n - 1) else k)
place_still true k n is h = omega arith
place_still false k n is h = absurd (cc)

place_moving : (stay : Bool) (k n : ℕ) → stay ≡ false → (if stay then min k (n - 1) else k) ≡ k
place_moving true k n is = absurd (cc)
place_moving false k n is = refl

pub position_early : (w : TimedWalk) (t : ℕ) → t < w.depart → position w t ≡ None
position_early w t early = grind (arith, nat_tests)

pub position_since : (w : TimedWalk) (t : ℕ) → w.depart ≤ t → position w t ≡ slice_get w.cells (place_after w (t - w.depart))
position_since w t since = grind (arith, nat_tests)

-- from the departure to the arrival the walk is in the cells of its list
pub position_within : (w : TimedWalk) (t : ℕ) → w.depart ≤ t → t < w.depart + length w.cells → position w t ≡ slice_get w.cells (t - w.depart)
position_within w t low high =
    position_since w t low ∙ ap (λ n. slice_get w.cells n) (place_within w.stay (t - w.depart) (length w.cells) (omega arith))

-- who doesn't stay is gone after its arrival
pub position_over : (w : TimedWalk) (t : ℕ) → w.stay ≡ false → w.depart + length w.cells ≤ t → position w t ≡ None
position_over w t gone late =
    position_since w t (omega arith)
    ∙ (ap (λ n. slice_get w.cells n) (place_moving w.stay (t - w.depart) (length w.cells) gone) ∙ slice_get_past w.cells (t - w.depart) (omega arith))

-- and who stays moves no more
pub position_still : (w : TimedWalk) (t : ℕ) → w.stay ≡ true → w.depart ≤ t → w.depart + length w.cells ≤ t + 1 → position w (t + 1) ≡ position w t
position_still w t stays since over =
    let later : t + 1 - w.depart ≡ t - w.depart + 1 = omega arith in
    position_since w (t + 1) (omega arith)
    ∙ (ap (λ n. slice_get w.cells (place_after w n)) later
    ∙ (ap (λ n. slice_get w.cells n) (place_still w.stay (t - w.depart) (length w.cells) stays (omega arith)) ∙ sym (position_since w t since)))

pub position_inside : (w : TimedWalk) (t : ℕ) → w.depart ≤ t → t < w.depart + length w.cells → (c : Cell) × (position w t ≡ Some c)
position_inside w t low high =
    elim (slice_get_cases w.cells (t - w.depart)).1 [
      | inl found ↦ (found.0, position_within w t low high ∙ found.2)
      | inr past ↦ absurd (omega (arith, past.0))
    ]

-- a walk that is somewhere has departed
pub stood_since : (w : TimedWalk) (t : ℕ) (c : Cell) → position w t ≡ Some c → w.depart ≤ t
stood_since w t c at = elim (nat_cases t w.depart) [
  | inl early ↦ let nowhere : position w t ≡ None = position_early w t early in absurd (cc)
  | inr since ↦ since
]

-- and is not over, unless it stays
pub stood_until : (w : TimedWalk) (t : ℕ) (c : Cell) → w.stay ≡ false → position w t ≡ Some c → t < w.depart + length w.cells
stood_until w t c gone at = elim (nat_cases t (w.depart + length w.cells)) [
  | inl below ↦ below
  | inr late ↦ let nowhere : position w t ≡ None = position_over w t gone late in absurd (cc)
]

-- who is somewhere was somewhere just before, from its departure on
pub stood_before : (w : TimedWalk) (t : ℕ) (d : Cell) → w.depart ≤ t → position w (t + 1) ≡ Some d → (c : Cell) × (position w t ≡ Some c)
stood_before w t d since at = elim (nat_cases (t + 1) (w.depart + length w.cells)) [
  | inl below ↦ position_inside w t since (omega arith)
  | inr over ↦ elim (bool_cases w.stay) [
    | inl stays ↦ (d, sym (position_still w t stays since over) ∙ at)
    | inr gone ↦ let nowhere : position w (t + 1) ≡ None = position_over w (t + 1) gone over in absurd (cc)
  ]
]

-- a walk that is somewhere is so at its arrival
pub some_cells : (w : TimedWalk) (t : ℕ) (c : Cell) → position w t ≡ Some c → 1 ≤ length w.cells
some_cells w t c at = elim (nat_cases 0 (length w.cells)) [
  | inl some ↦ some
  | inr none ↦
      let past : slice_get w.cells (place_after w (t - w.depart)) ≡ None = slice_get_past w.cells (place_after w (t - w.depart)) (omega arith) in
      let found : slice_get w.cells (place_after w (t - w.depart)) ≡ Some c = sym (position_since w t (stood_since w t c at)) ∙ at in
      absurd (cc)
]

-- who is nowhere meets nobody
pub no_meeting_nowhere : (w v : TimedWalk) (t : ℕ) → position w t ≡ None → ¬ (MeetAt w v t)
no_meeting_nowhere w v t nowhere (inl (c, here, there)) = cc
no_meeting_nowhere w v t nowhere (inr (c, d, differ, here, next, there, after)) = cc

pub MeetAt-sym : (w v : TimedWalk) (t : ℕ) → MeetAt w v t → MeetAt v w t
MeetAt-sym w v t (inl (c, here, there)) = inl (c, there, here)
MeetAt-sym w v t (inr (c, d, differ, here, next, there, after)) =
    inr (d, c, (λ e. differ (sym e)), there, after, here, next)

pub Meet-sym : (w v : TimedWalk) → Meet w v → Meet v w
Meet-sym w v m = record { time = m.time; met = MeetAt-sym w v m.time m.met }

-- Where both walks have arrived by the time t, a meeting after t is one at t.
abbrev pub HasArrived : TimedWalk → ℕ → Type 0
HasArrived w t = (w.depart ≤ t) × (w.depart + length w.cells ≤ t + 1)

-- an agent that stays is in its last cell for ever
pub position_for_ever : (w : TimedWalk) (cell : Cell) (t n : ℕ) → w.stay ≡ true → HasArrived w t → position w t ≡ Some cell → position w (t + n) ≡ Some cell
position_for_ever w cell t zero stays over at = let e : t + 0 ≡ t = omega arith in rw e at
position_for_ever w cell t (suc n) stays over at =
    let e : t + suc n ≡ t + n + 1 = omega arith in
    rw e (position_still w (t + n) stays (omega (arith, over.0)) (omega (arith, over.1)) ∙ position_for_ever w cell t n stays over at)

-- who is somewhere after its arrival stands still there
pub stands_still : (w : TimedWalk) (t : ℕ) (c : Cell) → HasArrived w t → position w (t + 1) ≡ Some c → position w (t + 1) ≡ position w t
stands_still w t c over at = elim (bool_cases w.stay) [
  | inl stays ↦ position_still w t stays over.0 over.1
  | inr gone ↦ let nowhere : position w (t + 1) ≡ None = position_over w (t + 1) gone over.1 in absurd (cc)
]

met_before : (w v : TimedWalk) (t : ℕ) → HasArrived w t → HasArrived v t → MeetAt w v (t + 1) → MeetAt w v t
met_before w v t first second (inl (c, here, there)) =
    inl (c, sym (stands_still w t c first here) ∙ here, sym (stands_still v t c second there) ∙ there)
met_before w v t first second (inr (c, d, differ, here, next, there, back)) =
    let still : position w (t + 1 + 1) ≡ position w (t + 1) = stands_still w (t + 1) d (omega arith, omega arith) next in
    absurd (differ (cc))

pub met_by : (w v : TimedWalk) (t n : ℕ) → HasArrived w t → HasArrived v t → MeetAt w v (t + n) → MeetAt w v t
met_by w v t zero first second met = let e : t + 0 ≡ t = omega arith in rw e at met
met_by w v t (suc n) first second met =
    let e : t + suc n ≡ t + n + 1 = omega arith in
    met_by w v t n first second (met_before w v (t + n) (omega (arith, first.0), omega (arith, first.1)) (omega (arith, second.0), omega (arith, second.1)) (rw e at met))
