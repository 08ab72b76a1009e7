-- The canonical walk is a least walk of its request, and there is only one.
use Rattle.std.proofs.Common.{◌≡◌, ℕ, zero, suc, ◌+◌, ◌-◌, ◌≤◌, inl, inr, Bool, false, List, [], ◌∷◌, ◌++◌, refl, sym, ap, subst, ◌∙◌, arith, add-zero, append_assoc}
use Rattle.std.specs.Prelude.{replicate}
use Rattle.std.proofs.lemmas.List.{append-nil}
use Rattle.std.proofs.lemmas.Bool.{cases_order}
use Rattle.fleet_base.specs.declared.grid.Cell.{Cell}
use Rattle.fleet_base.specs.declared.grid.Side.{Side}
use Rattle.fleet_base.specs.declared.grid.Side.TheVariants.{Up, Left, Right, Down}
use Rattle.fleet_base.specs.declared.request.Request.{Request}
use Rattle.fleet_base.specs.declared.request.Live.{Live}
use Rattle.fleet_base.specs.Terrain.{Terrain, IsOpen, IsBeside}
use Rattle.fleet_base.specs.TimedWalk.{TimedWalk, arrival, IsStep}
use Rattle.fleet_base.specs.Planned.{IsWalkOf, IsFree, IsLeast}
use Rattle.fleet_base.specs.Traffic.{Traffic, traffic_of}
use Rattle.fleet_base.specs.Reach.{IsReachable}
use Rattle.fleet_base.specs.Canonical.{rank_of, IsFirstBefore, IsUntaken, IsEarliest, ReadsBack, whole, hop, IsCanonical}
use Rattle.fleet_base.proofs.TrafficLemmas.{same_cells, free_from_traffic}
use Rattle.fleet_base.proofs.ReachLemmas.{ReachesBy, standing_reaches, step_reaches, reachable_open, reachable_untaken}
use Rattle.fleet_base.proofs.ArrivalLemmas.{with_mark, walk_of_arrival, free_of_arrival, none_before_from_arrivals}

-- who is beside a cell can step to it
pub step_back : (g : Terrain) (side : Side) (c n : Cell) → IsBeside g side c n → IsStep g n c
step_back g Up c n (x, y, at, to) = inr (Down, (x, y, to, at))
step_back g Left c n (x, y, at, to) = inr (Right, (x, y, to, at))
step_back g Right c n (x, y, at, to) = inr (Left, (x, y, to, at))
step_back g Down c n (x, y, at, to) = inr (Up, (x, y, to, at))

-- on each side there is one cell at most
pub beside_once : (g : Terrain) (side : Side) (c n m : Cell) → IsBeside g side c n → IsBeside g side c m → n ≡ m
beside_once g Up c n m (x, y, at, to) (x', y', at', to') =
    same_cells n m (let e : n.0 + g.width ≡ c.0 = omega (arith, at.2, to.2) in let e' : m.0 + g.width ≡ c.0 = omega (arith, at'.2, to'.2) in omega arith)
beside_once g Left c n m (x, y, at, to) (x', y', at', to') =
    same_cells n m (let e : n.0 + 1 ≡ c.0 = omega (arith, at.2, to.2) in let e' : m.0 + 1 ≡ c.0 = omega (arith, at'.2, to'.2) in omega arith)
beside_once g Right c n m (x, y, at, to) (x', y', at', to') =
    same_cells n m (let e : c.0 + 1 ≡ n.0 = omega (arith, at.2, to.2) in let e' : c.0 + 1 ≡ m.0 = omega (arith, at'.2, to'.2) in omega arith)
beside_once g Down c n m (x, y, at, to) (x', y', at', to') =
    same_cells n m (let e : c.0 + g.width ≡ n.0 = omega (arith, at.2, to.2) in let e' : c.0 + g.width ≡ m.0 = omega (arith, at'.2, to'.2) in omega arith)

side_at : ℕ → Side
side_at zero = Up
side_at (suc zero) = Left
side_at (suc (suc zero)) = Right
side_at (suc (suc (suc n))) = Down

side_at-rank_of : (s : Side) → side_at (rank_of s) ≡ s
unfolding side_at
side_at-rank_of Up = refl
side_at-rank_of Left = refl
side_at-rank_of Right = refl
side_at-rank_of Down = refl

same_side : (s r : Side) → rank_of s ≡ rank_of r → s ≡ r
same_side s r e = sym (side_at-rank_of s) ∙ (ap side_at e ∙ side_at-rank_of r)

module _ (g : Terrain) (traffic : Traffic) (q : Request) where
  pub first_once : (n m c : Cell) (t : ℕ) → IsFirstBefore g traffic q n c t → IsFirstBefore g traffic q m c t → n ≡ m
  first_once n m c t one two = elim (cases_order (rank_of one.side) (rank_of two.side)) [
    | inl same ↦
        let side : two.side ≡ one.side = sym (same_side one.side two.side same) in
        beside_once g one.side c n m one.beside (subst (λ (s : Side). IsBeside g s c m) side two.beside)
    | inr other ↦ elim other [
      | inl less ↦ absurd (two.first one.side n less one.beside one.precedes)
      | inr more ↦ absurd (one.first two.side m more two.beside two.precedes)
    ]
  ]

  pub earliest_once : (c : Cell) (t r s : ℕ) → IsEarliest g traffic q c t r → IsEarliest g traffic q c t s → r ≡ s
  earliest_once c t r s one two =
      let low : r ≤ s = one.earliest s two.before two.reachable two.untaken in
      let high : s ≤ r = two.earliest r one.before one.reachable one.untaken in
      omega arith

  -- What is read back is a free walk that ends on the cell.
  abbrev pub walk_on : List Cell → TimedWalk
  walk_on cells = record { depart = q.depart; cells = cells; stay = false }

  wait_reaches : {c : Cell} {t : ℕ} (cells : List Cell) → ReachesBy g q traffic c t (walk_on cells) → IsOpen g c → traffic.is_taken c (t + 1) ≡ false
      → ReachesBy g q traffic c (t + 1) (walk_on (cells ++ c ∷ []))
  wait_reaches {c} cells by opened untaken =
      step_reaches g q traffic (walk_on cells) by (inl refl) opened (record { untaken = untaken; unbarred = λ differ. absurd (differ refl) })

  replicate_push : (k : ℕ) (c : Cell) → c ∷ replicate k c ≡ replicate (suc k) c
  replicate_push k c = refl

  -- k steps of waiting
  waits_reach : (k : ℕ) {c : Cell} {t : ℕ} (cells : List Cell) → ReachesBy g q traffic c t (walk_on cells) → IsOpen g c → IsUntaken traffic c t (t + k)
      → ReachesBy g q traffic c (t + k) (walk_on (cells ++ replicate k c))
  waits_reach zero {c} {t} cells by opened untaken = rw (add-zero, append-nil) by
  waits_reach (suc k) {c} {t} cells by opened untaken =
      let one : ReachesBy g q traffic c (t + 1) (walk_on (cells ++ c ∷ [])) = wait_reaches cells by opened (untaken (t + 1) (omega arith) (omega arith)) in
      let e : t + 1 + k ≡ t + suc k = omega arith in
      let more : ReachesBy g q traffic c (t + 1 + k) (walk_on ((cells ++ c ∷ []) ++ replicate k c)) =
      waits_reach k (cells ++ c ∷ []) one opened (λ x low high. untaken x (omega arith) (omega arith)) in
      let moved : ReachesBy g q traffic c (t + suc k) (walk_on ((cells ++ c ∷ []) ++ replicate k c)) = rw e at more in
      subst (λ (xs : List Cell). ReachesBy g q traffic c (t + suc k) (walk_on xs)) (append_assoc cells (c ∷ []) (replicate k c)) moved

  pub reads_walk : {c : Cell} {t : ℕ} {cells : List Cell} → ReadsBack g traffic q c t cells → IsReachable g traffic q c t → ReachesBy g q traffic c t (walk_on cells)
  reads_walk whole reached = standing_reaches g q traffic (reachable_open g q traffic reached) (reachable_untaken g q traffic reached)
  reads_walk (hop {n} {c} {s} {t} {cells} first earliest front) reached =
      let there : ReachesBy g q traffic n s (walk_on cells) = reads_walk front earliest.reachable in
      let e : s + (t - s) ≡ t = omega (arith, earliest.before) in
      let waited : ReachesBy g q traffic n (s + (t - s)) (walk_on (cells ++ replicate (t - s) n)) =
      waits_reach (t - s) cells there (reachable_open g q traffic earliest.reachable) (rw e earliest.untaken) in
      let ready : ReachesBy g q traffic n t (walk_on (cells ++ replicate (t - s) n)) = rw e at waited in
      let moved : ReachesBy g q traffic c (t + 1) (walk_on ((cells ++ replicate (t - s) n) ++ c ∷ [])) =
      step_reaches g q traffic (walk_on (cells ++ replicate (t - s) n)) ready (step_back g first.side c n first.beside) (reachable_open g q traffic reached) first.precedes.clear in
      moved

  hop_since : {n c : Cell} {t s : ℕ} → IsFirstBefore g traffic q n c t → IsEarliest g traffic q n t s → q.depart ≤ t
  hop_since first earliest = omega (arith, earliest.before, earliest.reachable.walk_of.departs, earliest.reachable.ends)

  -- each time the same cells are read back
  pub reads_once : {c d : Cell} {t u : ℕ} {xs ys : List Cell} → ReadsBack g traffic q c t xs → ReadsBack g traffic q d u ys → c ≡ d → t ≡ u → xs ≡ ys
  reads_once whole whole cell time = refl
  reads_once whole (hop first earliest front) cell time = absurd (omega (arith, hop_since first earliest))
  reads_once (hop first earliest front) whole cell time = absurd (omega (arith, hop_since first earliest))
  reads_once (hop {n} {c} {s} {t} {cells = xs} first earliest front) (hop {n = m} {c = d} {s = r} {t = u} {cells = ys} first' earliest' front') cell time =
      let times : u ≡ t = omega arith in
      let there : IsFirstBefore g traffic q m c t = subst (λ (k : ℕ). IsFirstBefore g traffic q m c k) times (subst (λ (x : Cell). IsFirstBefore g traffic q m x u) (sym cell) first') in
      let cells : m ≡ n = first_once m n c t there first in
      let early : IsEarliest g traffic q n t r = subst (λ (k : ℕ). IsEarliest g traffic q n k r) times (subst (λ (x : Cell). IsEarliest g traffic q x u r) cells earliest') in
      let starts : s ≡ r = earliest_once n t s r earliest early in
      let fronts : xs ≡ ys = reads_once front front' (sym cells) starts in
      rw (← cell, cells, times, ← starts, ← fronts) refl

made : ℕ → List Cell → Bool → TimedWalk
made depart cells stay = record { depart = depart; cells = cells; stay = stay }

same_walk : (w v : TimedWalk) → w.depart ≡ v.depart → w.cells ≡ v.cells → w.stay ≡ v.stay → w ≡ v
unfolding made
same_walk w v departs cells stays =
    ap (λ (n : ℕ). made n w.cells w.stay) departs ∙ (ap (λ (xs : List Cell). made v.depart xs w.stay) cells ∙ ap (λ (b : Bool). made v.depart v.cells b) stays)

-- the canonical walk is a free walk of its request, and none arrives earlier
pub canonical_is_least : (g : Terrain) (horizon : ℕ) (q : Request) (book : List Live) (w : TimedWalk) → IsCanonical g horizon (traffic_of book) q w
    → IsLeast g horizon q book w
canonical_is_least g horizon q book w is =
    let by : ReachesBy g q (traffic_of book) q.goal (arrival w) (walk_on g (traffic_of book) q w.cells) = reads_walk g (traffic_of book) q is.reads is.ends.reachable in
    let same : with_mark (walk_on g (traffic_of book) q w.cells) q.stay ≡ w = same_walk (with_mark (walk_on g (traffic_of book) q w.cells) q.stay) w (sym is.departs) refl (sym is.stays) in
    record {
      walk_of = subst (λ (v : TimedWalk). IsWalkOf g horizon q v) same
          (walk_of_arrival g q (traffic_of book) (arrival w) (walk_on g (traffic_of book) q w.cells) by is.ends.may_end horizon is.in_time);
      free = subst (λ (v : TimedWalk). IsFree v book) same
          (free_from_traffic (with_mark (walk_on g (traffic_of book) q w.cells) q.stay) book
          (free_of_arrival g q (traffic_of book) (arrival w) (walk_on g (traffic_of book) q w.cells) by is.ends.may_end));
      least = none_before_from_arrivals g horizon q book (arrival w) is.least;
    }

-- and there is one canonical walk at most
pub canonical_once : (g : Terrain) (horizon : ℕ) (traffic : Traffic) (q : Request) (w v : TimedWalk)
    → IsCanonical g horizon traffic q w → IsCanonical g horizon traffic q v → w ≡ v
canonical_once g horizon traffic q w v one two =
    let low : arrival w ≤ arrival v = one.least (arrival v) two.ends in
    let high : arrival v ≤ arrival w = two.least (arrival w) one.ends in
    let times : arrival w ≡ arrival v = omega arith in
    same_walk w v (one.departs ∙ sym two.departs) (reads_once g traffic q one.reads two.reads refl times) (one.stays ∙ sym two.stays)
