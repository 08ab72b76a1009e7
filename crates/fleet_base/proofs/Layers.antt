-- The cells that a free walk can stand on, time by time: a plain computation, which small examples are checked by.
-- It may give too many cells, and never too few.
use Rattle.std.proofs.Common.{◌≡◌, ℕ, zero, suc, ◌+◌, ◌-◌, ◌<◌, ◌≤◌, ◌⊎◌, inl, inr, Bool, true, false, cond, List, [], ◌∷◌, length, Option, Some, None, refl, sym, ap, subst, ◌∙◌, arith, add-zero, add-suc}
use Rattle.std.specs.Prelude.{filter, ◌==◌, ◌&&◌, ◌||◌, not, slice_get}
use Rattle.std.specs.List.{list_any}
use Rattle.std.proofs.lemmas.Bool.{eq-eqb, eqb-true, and_from, and_parts, cases_eq, both_ways, not-true}
use Rattle.std.proofs.Math.Bool.{and-false}
use Rattle.std.proofs.lemmas.Option.{slice_get_within}
use Rattle.fleet_base.specs.declared.grid.Cell.{Cell}
use Rattle.fleet_base.specs.declared.grid.Side.TheVariants.{Up, Left, Right, Down}
use Rattle.fleet_base.specs.declared.request.Request.{Request}
use Rattle.fleet_base.specs.declared.request.Live.{Live}
use Rattle.fleet_base.specs.Terrain.{Terrain}
use Rattle.fleet_base.specs.TimedWalk.{IsStep}
use Rattle.fleet_base.specs.Planned.{NoneBefore, NoneFree}
use Rattle.fleet_base.specs.Traffic.{Traffic, traffic_of}
use Rattle.fleet_base.specs.Reach.{reaching, IsReachable, IsClearStep, Reached, begin, step}
use Rattle.fleet_base.proofs.WalkLemmas.{nat_cases}
use Rattle.fleet_base.proofs.ReachLemmas.{steps_from_walk}
use Rattle.fleet_base.proofs.ArrivalLemmas.{none_before_from_steps, none_free_from_steps}

abbrev pub is_open : Option Bool → Bool
is_open None = false
is_open (Some b) = b

abbrev pub cell : ℕ → Cell
cell n = record { 0 = n }

abbrev pub near : Terrain → ℕ → ℕ → Bool
near g c d = (c == d) || ((c + 1 == d) || ((d + 1 == c) || ((c + g.width == d) || (d + g.width == c))))

-- the step from c to d that begins at t is in nobody's way
abbrev pub passes : Terrain → Traffic → ℕ → ℕ → ℕ → Bool
passes g traffic t c d = near g c d && (not (traffic.is_taken (cell d) (t + 1)) && ((c == d) || not (traffic.is_barred (cell c) (cell d) t)))

abbrev pub below : ℕ → List ℕ
below zero = []
below (suc n) = n ∷ below n

abbrev pub next : Terrain → Traffic → ℕ → List ℕ → List ℕ
next g traffic t layer = filter (λ d. is_open (slice_get g.cells d) && list_any (λ c. passes g traffic t c d) layer) (below (length g.cells))

-- the cells that may be reached in so many steps
abbrev pub layer_after : Terrain → Traffic → Request → ℕ → List ℕ
layer_after g traffic q zero = q.start.0 ∷ []
layer_after g traffic q (suc k) = next g traffic (q.depart + k) (layer_after g traffic q k)

abbrev pub holds : ℕ → List ℕ → Bool
holds n layer = list_any (λ m. m == n) layer

-- the goal is on none of the first layers
abbrev pub none_within : Terrain → Traffic → Request → ℕ → Bool
none_within g traffic q zero = true
none_within g traffic q (suc k) = not (holds q.goal.0 (layer_after g traffic q k)) && none_within g traffic q k

or_second : (a b : Bool) → b ≡ true → (a || b) ≡ true
or_second true b h = refl
or_second false b h = h

pub or_first : (a b : Bool) → a ≡ true → (a || b) ≡ true
or_first true b h = refl
or_first false b h = absurd (cc)

or_parts : (a b : Bool) → (a || b) ≡ true → (a ≡ true) ⊎ (b ≡ true)
or_parts true b h = inl refl
or_parts false b h = inr h

if_holds : (b : Bool) (n m : ℕ) (xs : List ℕ) → holds n xs ≡ true → holds n (cond b (m ∷ xs) xs) ≡ true
if_holds true n m xs h = or_second (m == n) (holds n xs) h
if_holds false n m xs h = h

holds-filter : (p : ℕ → Bool) (n : ℕ) (xs : List ℕ) → holds n xs ≡ true → p n ≡ true → holds n (filter p xs) ≡ true
holds-filter p n [] h ok = h
holds-filter p n (m ∷ xs) h ok = elim (or_parts (m == n) (holds n xs) h) [
  | inl here ↦
      let keeps : p m ≡ true = subst (λ k. p k ≡ true) (sym (eqb-true m n here)) ok in
      subst (λ b. holds n (cond b (m ∷ filter p xs) (filter p xs)) ≡ true) (sym keeps) (or_first (m == n) (holds n (filter p xs)) here)
  | inr later ↦ if_holds (p m) n m (filter p xs) (holds-filter p n xs later ok)
]

holds-below : (n m : ℕ) → m < n → holds m (below n) ≡ true
holds-below zero m h = absurd (omega arith)
holds-below (suc n) m h = elim (nat_cases m n) [
  | inl lower ↦ or_second (n == m) (holds m (below n)) (holds-below n m lower)
  | inr same ↦ or_first (n == m) (holds m (below n)) (eq-eqb n m (omega arith))
]

holds-any : (p : ℕ → Bool) (n : ℕ) (xs : List ℕ) → holds n xs ≡ true → p n ≡ true → list_any p xs ≡ true
holds-any p n [] h ok = h
holds-any p n (m ∷ xs) h ok = elim (or_parts (m == n) (holds n xs) h) [
  | inl here ↦ or_first (p m) (list_any p xs) (subst (λ k. p k ≡ true) (sym (eqb-true m n here)) ok)
  | inr later ↦ or_second (p m) (list_any p xs) (holds-any p n xs later ok)
]

module _ (g : Terrain) (traffic : Traffic) (q : Request) where
  is_near : (c d : Cell) → IsStep g c d → near g c.0 d.0 ≡ true
  is_near c d (inl same) = or_first (c.0 == d.0) _ (eq-eqb c.0 d.0 (sym (ap (λ (x : Cell). x.0) same)))
  is_near c d (inr (Up, (x, y, at, to))) =
      let e : d.0 + g.width ≡ c.0 = omega (arith, at.2, to.2) in
      or_second (c.0 == d.0) _ (or_second (c.0 + 1 == d.0) _ (or_second (d.0 + 1 == c.0) _ (or_second (c.0 + g.width == d.0) (d.0 + g.width == c.0) (eq-eqb _ _ e))))
  is_near c d (inr (Left, (x, y, at, to))) =
      let e : d.0 + 1 ≡ c.0 = omega (arith, at.2, to.2) in
      or_second (c.0 == d.0) _ (or_second (c.0 + 1 == d.0) _ (or_first (d.0 + 1 == c.0) _ (eq-eqb _ _ e)))
  is_near c d (inr (Right, (x, y, at, to))) =
      let e : c.0 + 1 ≡ d.0 = omega (arith, at.2, to.2) in
      or_second (c.0 == d.0) _ (or_first (c.0 + 1 == d.0) _ (eq-eqb _ _ e))
  is_near c d (inr (Down, (x, y, at, to))) =
      let e : c.0 + g.width ≡ d.0 = omega (arith, at.2, to.2) in
      or_second (c.0 == d.0) _ (or_second (c.0 + 1 == d.0) _ (or_second (d.0 + 1 == c.0) _ (or_first (c.0 + g.width == d.0) (d.0 + g.width == c.0) (eq-eqb _ _ e))))

  is_unbarred : (c d : Cell) (t : ℕ) → IsClearStep traffic c d t → ((c.0 == d.0) || not (traffic.is_barred c d t)) ≡ true
  is_unbarred c d t clear = elim (cases_eq c.0 d.0) [
    | inl same ↦ or_first (c.0 == d.0) _ (eq-eqb c.0 d.0 same)
    | inr other ↦ or_second (c.0 == d.0) _ (ap not (clear.unbarred (λ e. other (ap (λ (x : Cell). x.0) e))))
  ]

  step_passes : (c d : Cell) (t : ℕ) → IsStep g c d → IsClearStep traffic c d t → passes g traffic t c.0 d.0 ≡ true
  step_passes c d t moves clear =
      and_from (near g c.0 d.0) _ (is_near c d moves) (and_from (not (traffic.is_taken d (t + 1))) _ (ap not clear.untaken) (is_unbarred c d t clear))

  reached_since : {c : Cell} {t : ℕ} → Reached g traffic q.start q.depart c t → q.depart ≤ t
  reached_since (begin opened untaken) = omega arith
  reached_since (step before moves opened clear) = omega (arith, reached_since before)

  -- what is reached in so many steps is on that layer
  pub on_layer : {c : Cell} {t : ℕ} → Reached g traffic q.start q.depart c t → (k : ℕ) → t ≡ q.depart + k → holds c.0 (layer_after g traffic q k) ≡ true
  on_layer (begin opened untaken) zero e = or_first _ _ (eq-eqb q.start.0 q.start.0 refl)
  on_layer (begin opened untaken) (suc k) e = absurd (omega arith)
  on_layer (step {c} {d} {t} before moves opened clear) zero e = absurd (omega (arith, reached_since before))
  on_layer (step {c} {d} {t} before moves opened clear) (suc k) e =
      let at : t ≡ q.depart + k = omega arith in
      let through : passes g traffic (q.depart + k) c.0 d.0 ≡ true = rw (← at) (step_passes c d t moves clear) in
      holds-filter (λ d. is_open (slice_get g.cells d) && list_any (λ c. passes g traffic (q.depart + k) c d) (layer_after g traffic q k)) d.0 (below (length g.cells))
      (holds-below (length g.cells) d.0 (slice_get_within g.cells d.0 true opened))
      (and_from (is_open (slice_get g.cells d.0)) _ (ap is_open opened) (holds-any (λ c. passes g traffic (q.depart + k) c d.0) c.0 (layer_after g traffic q k) (on_layer before k at) through))

  absent : (n k : ℕ) → none_within g traffic q n ≡ true → k < n → holds q.goal.0 (layer_after g traffic q k) ≡ true → ⊥
  absent zero k test h on = omega arith
  absent (suc n) k test h on =
      let both : (not (holds q.goal.0 (layer_after g traffic q n)) ≡ true) × (none_within g traffic q n ≡ true) = and_parts _ _ test in
      elim (cases_eq k n) [
        | inl same ↦ both_ways (holds q.goal.0 (layer_after g traffic q n)) (not-true _ both.0) (rw same at on)
        | inr other ↦ absent n k both.1 (omega arith) on
      ]

  -- the goal isn't reached before it is on a layer
  pub reached_late : (n : ℕ) → none_within g traffic q n ≡ true → {s : ℕ} → Reached g traffic q.start q.depart q.goal s → q.depart + n ≤ s
  reached_late n test {s} reached = elim (nat_cases s (q.depart + n)) [
    | inl early ↦ absurd (absent n (s - q.depart) test (omega (arith, reached_since reached)) (on_layer reached (s - q.depart) (omega (arith, reached_since reached))))
    | inr late ↦ late
  ]

  -- where a layer is empty, all later ones are
  nothing_next : (t : ℕ) (xs : List ℕ) → filter (λ d. is_open (slice_get g.cells d) && false) xs ≡ []
  nothing_next t [] = refl
  nothing_next t (x ∷ xs) =
      ap (λ b. cond b (x ∷ filter (λ d. is_open (slice_get g.cells d) && false) xs) (filter (λ d. is_open (slice_get g.cells d) && false) xs)) (and-false (is_open (slice_get g.cells x)))
      ∙ nothing_next t xs

  stays_empty : (n k : ℕ) → layer_after g traffic q n ≡ [] → layer_after g traffic q (n + k) ≡ []
  stays_empty n zero e = rw add-zero e
  stays_empty n (suc k) e = rw add-suc (ap (next g traffic (q.depart + (n + k))) (stays_empty n k e) ∙ nothing_next (q.depart + (n + k)) (below (length g.cells)))

  pub reached_never : (n : ℕ) → none_within g traffic q n ≡ true → layer_after g traffic q n ≡ [] → {s : ℕ} → Reached g traffic q.start q.depart q.goal s → ⊥
  reached_never n test empty {s} reached =
      let late : q.depart + n ≤ s = reached_late n test reached in
      let k : ℕ = s - q.depart in
      let e : n + (k - n) ≡ k = omega arith in
      let none : layer_after g traffic q k ≡ [] = subst (λ (m : ℕ). layer_after g traffic q m ≡ []) e (stays_empty n (k - n) empty) in
      let on : holds q.goal.0 (layer_after g traffic q k) ≡ true = on_layer reached k (omega (arith, reached_since reached)) in
      let never : holds q.goal.0 [] ≡ true = rw none at on in
      absurd (cc)

module _ (g : Terrain) (horizon : ℕ) (q : Request) (book : List Live) where
  pub none_before : (n : ℕ) → none_within g (traffic_of book) q n ≡ true → NoneBefore g horizon q book (q.depart + n)
  none_before n test = none_before_from_steps g horizon q book (q.depart + n) (λ s early reached. let late = reached_late g (traffic_of book) q n test reached in omega arith)

  pub none_ever : (n : ℕ) → none_within g (traffic_of book) q n ≡ true → layer_after g (traffic_of book) q n ≡ [] → NoneFree g horizon q book
  none_ever n test empty = none_free_from_steps g horizon q book (λ s below reached. reached_never g (traffic_of book) q n test empty reached)

-- a walk to a cell takes so many steps at least
pub reachable_late : (g : Terrain) (traffic : Traffic) (q : Request) (c : Cell) (n : ℕ) → none_within g traffic (reaching q c) n ≡ true
    → {t : ℕ} → IsReachable g traffic q c t → q.depart + n ≤ t
reachable_late g traffic q c n test {t} r = reached_late g traffic (reaching q c) n test (steps_from_walk g q traffic c t r)
