-- Reaching cells by moves and waits, and what a bound of the way that is left must keep.
use Rattle.std.proofs.Common.{arith, ap, refl, inl, inr, add-zero}
use Rattle.std.specs.Prelude.{◌≡◌, ◌≢◌, ℕ, zero, suc, ◌+◌, ◌-◌, ◌≤◌, false}
use Rattle.fleet_base.specs.declared.grid.Cell.{Cell}
use Rattle.fleet_base.specs.declared.grid.Side.{Side}
use Rattle.fleet_base.specs.declared.grid.Side.TheVariants.{Up, Left, Right, Down}
use Rattle.fleet_base.specs.declared.request.Request.{Request}
use Rattle.fleet_base.specs.Terrain.{Terrain, IsOpen, IsBeside}
use Rattle.fleet_base.specs.Reach.{Reached, begin, step, IsClearStep}
use Rattle.calendars.specs.Records.{covers}
use Rattle.calendars.specs.Assignments.{Assignment, traffic_by}
use Rattle.static_distance.specs.Distance.{move}
use Rattle.sipp_search.specs.Progress.{MayMove, IsWithin}

pub beside_differs : (g : Terrain) (side : Side) (c d : Cell) → IsBeside g side c d → c ≢ d
beside_differs g Up c d (x, y, at, to) same =
    let e : c.0 ≡ d.0 = ap (λ (z : Cell). z.0) same in
    let more : d.0 + g.width ≡ c.0 = omega (arith, at.2, to.2) in
    omega (arith, at.0)
beside_differs g Left c d (x, y, at, to) same = let e : c.0 ≡ d.0 = ap (λ (z : Cell). z.0) same in omega (arith, at.2, to.2)
beside_differs g Right c d (x, y, at, to) same = let e : c.0 ≡ d.0 = ap (λ (z : Cell). z.0) same in omega (arith, at.2, to.2)
beside_differs g Down c d (x, y, at, to) same =
    let e : c.0 ≡ d.0 = ap (λ (z : Cell). z.0) same in
    let more : c.0 + g.width ≡ d.0 = omega (arith, at.2, to.2) in
    omega (arith, at.0)

pub within_more : (g : Terrain) (goal c : Cell) (k n : ℕ) → k ≤ n → IsWithin g goal c k → IsWithin g goal c n
within_more g goal c k n le w = record { left = w.left; way = w.way; below = omega (arith, w.below) }

module _ (g : Terrain) (q : Request) (a : Assignment) where
  abbrev pub IsReached : Cell → ℕ → Type 0
  IsReached c t = Reached g (traffic_by a) q.start q.depart c t

  pub reached_free : {c : Cell} {t : ℕ} → IsReached c t → covers (a c.0) t ≡ false
  reached_free (begin opened untaken) = untaken
  reached_free (step before moves opened clear) = clear.untaken

  pub reached_open : {c : Cell} {t : ℕ} → IsReached c t → IsOpen g c
  reached_open (begin opened untaken) = opened
  reached_open (step before moves opened clear) = opened

  pub reached_since : {c : Cell} {t : ℕ} → IsReached c t → q.depart ≤ t
  reached_since (begin opened untaken) = omega arith
  reached_since (step before moves opened clear) = omega (arith, reached_since before)

  -- k steps of waiting
  pub wait_on : (k : ℕ) {c : Cell} {t : ℕ} → IsReached c t → ((x : ℕ) → t ≤ x → x ≤ t + k → covers (a c.0) x ≡ false) → IsReached c (t + k)
  wait_on zero r free = rw add-zero r
  wait_on (suc k) {c} {t} r free =
      let e : t + suc k ≡ t + k + 1 = omega arith in
      rw e (step (wait_on k r (λ x low high. free x low (omega arith))) (inl refl) (reached_open r)
      (record { untaken = free (t + k + 1) (omega arith) (omega arith); unbarred = λ differ. absurd (differ refl) }))

  pub wait_until : (c : Cell) (s t : ℕ) → IsReached c s → s ≤ t → ((x : ℕ) → s ≤ x → x ≤ t → covers (a c.0) x ≡ false) → IsReached c t
  wait_until c s t r le free =
      let e : s + (t - s) ≡ t = omega arith in
      rw e at (wait_on (t - s) {c = c} {t = s} r (λ x low high. free x low (omega arith)))

  pub move_on : {b c : Cell} {t : ℕ} → MayMove g a b c t → IsReached b t → IsReached c (t + 1)
  move_on m r = step r (inr (m.side, m.beside)) m.opens (record { untaken = m.untaken; unbarred = λ differ. m.unbarred })

  pub move_of_step : (b c : Cell) (t : ℕ) (side : Side) → IsBeside g side b c → IsOpen g c → IsClearStep (traffic_by a) b c t → MayMove g a b c t
  move_of_step b c t side beside opened clear = record {
    side = side;
    beside = beside;
    opens = opened;
    untaken = clear.untaken;
    unbarred = clear.unbarred (beside_differs g side b c beside);
  }

  -- a move lowers the way that is left by 1 at most
  pub falls_back : {b c : Cell} {t : ℕ} (k : ℕ) → MayMove g a b c t → IsOpen g b → IsWithin g q.goal c k → IsWithin g q.goal b (k + 1)
  falls_back {b} {c} k m opened within =
      record { left = within.left + 1; way = move m.side opened m.beside within.way; below = omega (arith, within.below) }
