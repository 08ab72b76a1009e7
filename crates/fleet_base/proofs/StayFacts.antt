-- What the stays of a walk tell of where it is: they cover its times, and their ends are its moves.
use Rattle.std.proofs.Common.{◌≡◌, ◌≢◌, ℕ, ◌+◌, ◌⊎◌, inl, inr, List, Some, sym, ap, subst, ◌∙◌, arith}
use Rattle.std.specs.Prelude.{All}
use Rattle.std.specs.List.{Any}
use Rattle.fleet_base.specs.declared.grid.Cell.{Cell}
use Rattle.fleet_base.specs.declared.request.RouteId.{RouteId}
use Rattle.fleet_base.specs.declared.request.Stay.{Stay}
use Rattle.fleet_base.specs.declared.request.Record.{Record}
use Rattle.fleet_base.specs.declared.request.TheConstants.{FOREVER}
use Rattle.fleet_base.specs.TimedWalk.{TimedWalk, position}
use Rattle.fleet_base.specs.Stays.{HoldsTime, IsStay, AreTheStays}
use Rattle.fleet_base.proofs.WalkLemmas.{nat_cases}

-- one element, with what all have
any_of_all : {X : Type 0} (P Q : X → Type 0) (xs : List X) → ((x : X) → Q x → P x → Q x × P x) → All Q xs → Any P xs → Any (λ x. Q x × P x) xs
any_of_all P Q xs pair all (k, x, h, is, p) = (k, x, h, is, (subst Q is (all k x h), p))

any_map : {X : Type 0} (P Q : X → Type 0) (xs : List X) → ((x : X) → P x → Q x) → Any P xs → Any Q xs
any_map P Q xs f (k, x, h, is, p) = (k, x, h, is, f x p)

-- a record that holds a time holds the next one too, or ends there
held_on : (r : Record) (t : ℕ) → HoldsTime r t → HoldsTime r (t + 1) ⊎ (r.to ≡ t)
held_on r t (since, inr never) = inl (omega arith, inr never)
held_on r t (since, inl until) = elim (nat_cases t r.to) [
  | inl longer ↦ inl (omega arith, inl (omega arith))
  | inr over ↦ inr (omega arith)
]

-- and held the time before, or begins there
held_before : (r : Record) (t : ℕ) → HoldsTime r (t + 1) → HoldsTime r t ⊎ (r.from ≡ t + 1)
held_before r t held = elim (nat_cases t r.from) [
  | inl since ↦ inr (omega (arith, held.0))
  | inr before ↦ inl (before, elim held.1 [ inl until ↦ inl (omega arith) | inr never ↦ inr never ])
]

module _ (w : TimedWalk) (id : RouteId) (stays : List Stay) (are : AreTheStays w id stays) where
  -- at each of its times the walk is in the cell of a stay
  pub stay_at : (t : ℕ) (c : Cell) → position w t ≡ Some c → Any (λ s. IsStay w id s × ((s.cell ≡ c) × HoldsTime s.span t)) stays
  stay_at t c at =
      any_map (λ s. IsStay w id s × HoldsTime s.span t) (λ s. IsStay w id s × ((s.cell ≡ c) × HoldsTime s.span t)) stays
      (λ s h. let here : position w t ≡ Some s.cell = h.0.within t h.1 in (h.0, (cc, h.1)))
      (any_of_all (λ s. HoldsTime s.span t) (IsStay w id) stays (λ s q p. (q, p)) are.runs (are.each_time t c at))

  -- a move from d to c ends a stay in d and begins one in c
  pub ends_at_move : (t : ℕ) (d c : Cell) → position w t ≡ Some d → position w (t + 1) ≡ Some c → d ≢ c → Any (λ s. IsStay w id s × ((s.cell ≡ d) × (s.span.to ≡ t))) stays
  ends_at_move t d c from to move =
      any_map (λ s. IsStay w id s × ((s.cell ≡ d) × HoldsTime s.span t)) (λ s. IsStay w id s × ((s.cell ≡ d) × (s.span.to ≡ t))) stays
      (λ s h. (
        h.0,
        (
          h.1.0,
          elim (held_on s.span t h.1.1) [
            | inl longer ↦ let still : position w (t + 1) ≡ Some s.cell = h.0.within (t + 1) longer in
                let cell : s.cell ≡ d = h.1.0 in absurd (move (cc))
            | inr over ↦ over
          ],
        ),
      ))
      (stay_at t d from)

  pub begins_at_move : (t : ℕ) (d c : Cell) → position w t ≡ Some d → position w (t + 1) ≡ Some c → d ≢ c → Any (λ s. IsStay w id s × ((s.cell ≡ c) × (s.span.from ≡ t + 1))) stays
  begins_at_move t d c from to move =
      any_map (λ s. IsStay w id s × ((s.cell ≡ c) × HoldsTime s.span (t + 1))) (λ s. IsStay w id s × ((s.cell ≡ c) × (s.span.from ≡ t + 1))) stays
      (λ s h. (
        h.0,
        (
          h.1.0,
          elim (held_before s.span t h.1.1) [
            | inl before ↦ let already : position w t ≡ Some s.cell = h.0.within t before in
                let cell : s.cell ≡ c = h.1.0 in absurd (move (cc))
            | inr begun ↦ begun
          ],
        ),
      ))
      (stay_at (t + 1) c to)

-- and a stay that ends where another begins is a move
pub move_between : (w : TimedWalk) (id : RouteId) (first second : Stay) → IsStay w id first → IsStay w id second → first.span.to ≢ FOREVER
    → second.span.from ≡ first.span.to + 1
    → (position w first.span.to ≡ Some first.cell) × (position w (first.span.to + 1) ≡ Some second.cell) × (first.cell ≢ second.cell)
move_between w id first second a b ends next =
    let to : position w (first.span.to + 1) ≡ Some second.cell = b.within (first.span.to + 1) (omega arith, inl (omega (arith, b.some))) in
    (a.within first.span.to (a.some, inl (omega arith)), to, λ same. a.not_after ends (to ∙ ap (λ (c : Cell). Some c) (sym same)))
