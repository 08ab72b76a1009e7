-- The stays of a walk so far, as a loop over its times makes them.
use Rattle.std.proofs.Common.{◌≡◌, ◌≢◌, ℕ, ◌+◌, ◌-◌, ◌<◌, ◌≤◌, inl, inr, List, [], ◌∷◌, ◌++◌, Some, None, refl, ap, ◌∙◌, arith}
use Rattle.std.specs.Prelude.{All, AllPairs, Bool, true, false, not, if◌then◌else◌}
use Rattle.std.proofs.Math.Dec.{eqb}
use Rattle.std.proofs.lemmas.Bool.Decides.{nat_tests}
use Rattle.std.specs.List.{Any}
use Rattle.std.proofs.lemmas.List.Elements.{All-push, All-weaker}
use Rattle.std.proofs.lemmas.List.Quantifiers.{Any-push, all_pairs_push}
use Rattle.std.proofs.lemmas.List.{get_or_append_left, length_push}
use Rattle.fleet_base.specs.declared.grid.Cell.{Cell}
use Rattle.fleet_base.specs.declared.request.RouteId.{RouteId}
use Rattle.fleet_base.specs.declared.request.Stay.{Stay}
use Rattle.fleet_base.specs.declared.request.TheConstants.{FOREVER}
use Rattle.fleet_base.specs.TimedWalk.{TimedWalk, arrival, position}
use Rattle.fleet_base.specs.Stays.{HoldsTime, IsStay, AreTheStays}
use Rattle.fleet_base.proofs.WalkLemmas.{nat_cases, bool_cases, position_over, position_for_ever, HasArrived}

-- the stays before the time `from`, and the walk in one cell from then on until before `time`
pub record StaysUntil (w : TimedWalk) (id : RouteId) (stays : List Stay) (cell : Cell) (from time : ℕ) : Type 0 where
  pub some : from < time
  pub here : (t : ℕ) → from ≤ t → t < time → position w t ≡ Some cell
  pub not_before : (t : ℕ) → t + 1 ≡ from → position w t ≢ Some cell
  pub runs : All (IsStay w id) stays
  pub each_time : (t : ℕ) (c : Cell) → t < from → position w t ≡ Some c → Any (λ s. HoldsTime s.span t) stays
  pub in_order : AllPairs (λ a b. a.span.to < b.span.from) stays
  pub past : All (λ s. s.span.to < from) stays

-- what `!=` of two cells tells
pub cells_differ : (a b : Cell) → true ≡ not (eqb a.0 b.0) → a ≢ b
cells_differ a b test same = let e : a.0 ≡ b.0 = ap (λ (c : Cell). c.0) same in grind (arith, nat_tests)

made_of : ℕ → Cell
made_of n = record { 0 = n }

pub cells_same : (a b : Cell) → false ≡ not (eqb a.0 b.0) → a ≡ b
unfolding made_of
cells_same a b test = let e : a.0 ≡ b.0 = grind (arith, nat_tests) in ap made_of e

Any-push_other : {X : Type 0} (P : X → Type 0) (xs : List X) (y : X) → Any P xs → Any P (xs ++ y ∷ [])
Any-push_other P xs y (k, x, h, is, p) = (k, x, omega (arith, length_push xs y), get_or_append_left xs (y ∷ []) x k h ∙ is, p)

-- one time more in the same cell
pub same_cell : {w : TimedWalk} {id : RouteId} {stays : List Stay} {cell : Cell} {from time : ℕ}
    → position w time ≡ Some cell → StaysUntil w id stays cell from time → StaysUntil w id stays cell from (time + 1)
same_cell {time} at u = record {
  some = omega (arith, u.some);
  here = λ t low high. elim (nat_cases t time) [ inl below ↦ u.here t low below | inr above ↦ let e : time ≡ t = omega arith in rw (← e) at ];
  not_before = u.not_before;
  runs = u.runs;
  each_time = u.each_time;
  in_order = u.in_order;
  past = u.past;
}

-- the stay that ends before `time`, where the walk is elsewhere
ended : {w : TimedWalk} {id : RouteId} {stays : List Stay} {cell : Cell} {from time : ℕ}
    → (last : ℕ) → last < FOREVER → time ≡ last + 1 → position w time ≢ Some cell → StaysUntil w id stays cell from time
    → IsStay w id (record { cell = cell; span = record { from = from; to = last; id = id } })
ended {w} {time} last ends e leaves u = record {
  mark = refl;
  some = omega (arith, u.some);
  within = λ t held. u.here t held.0 (elim held.1 [ inl until ↦ omega arith | inr never ↦ absurd (omega arith) ]);
  not_before = u.not_before;
  not_after = λ _. rw (← e) leaves;
}

pub record StaysBefore (w : TimedWalk) (id : RouteId) (stays : List Stay) (time : ℕ) : Type 0 where
  pub runs : All (IsStay w id) stays
  pub each_time : (t : ℕ) (c : Cell) → t < time → position w t ≡ Some c → Any (λ s. HoldsTime s.span t) stays
  pub in_order : AllPairs (λ a b. a.span.to < b.span.from) stays
  pub past : All (λ s. s.span.to < time) stays

-- a stay from `from` on is one more, whatever its end
stay_at_end : {w : TimedWalk} {id : RouteId} {stays : List Stay} {cell : Cell} {from time : ℕ}
    → (last : ℕ) → time ≤ last + 1 → IsStay w id (record { cell = cell; span = record { from = from; to = last; id = id } })
    → StaysUntil w id stays cell from time
    → StaysBefore w id (stays ++ record { cell = cell; span = record { from = from; to = last; id = id } } ∷ []) (last + 1)
stay_at_end {w} {id} {stays} {cell} {from} {time} last e is u =
    let stay : Stay = record { cell = cell; span = record { from = from; to = last; id = id } } in
    record {
      runs = All-push (IsStay w id) stays stay u.runs is;
      each_time = λ t c below at. elim (nat_cases t from) [
        | inl before ↦ Any-push_other (λ s. HoldsTime s.span t) stays stay (u.each_time t c before at)
        | inr since ↦ Any-push (λ s. HoldsTime s.span t) stays stay (since, inl (omega arith))
      ];
      in_order = all_pairs_push (λ a b. a.span.to < b.span.from) stays stay u.in_order (λ k d h. u.past k d h);
      past = All-push (λ s. s.span.to < last + 1) stays stay
          (All-weaker (λ s. s.span.to < from) (λ s. s.span.to < last + 1) (λ s h. omega (arith, u.some)) stays u.past) (omega arith);
    }

pub stay_more : {w : TimedWalk} {id : RouteId} {stays : List Stay} {cell : Cell} {from time : ℕ}
    → (last : ℕ) → last < FOREVER → time ≡ last + 1 → position w time ≢ Some cell → StaysUntil w id stays cell from time
    → StaysBefore w id (stays ++ record { cell = cell; span = record { from = from; to = last; id = id } } ∷ []) time
stay_more {w} {id} last ends e leaves u = rw e (stay_at_end last (omega arith) (ended last ends e leaves u) u)

pub next_cell : {w : TimedWalk} {id : RouteId} {stays : List Stay} {next : Cell} {time : ℕ}
    → position w time ≡ Some next → ((t : ℕ) → t + 1 ≡ time → position w t ≢ Some next) → StaysBefore w id stays time → StaysUntil w id stays next time (time + 1)
next_cell {w} {next} {time} at other u = record {
  some = omega arith;
  here = λ t low high. let e : time ≡ t = omega arith in rw (← e) at;
  not_before = other;
  runs = u.runs;
  each_time = u.each_time;
  in_order = u.in_order;
  past = u.past;
}

-- the walk turns to another cell
pub other_cell : {w : TimedWalk} {id : RouteId} {stays : List Stay} {cell next : Cell} {from time : ℕ}
    → (last : ℕ) → last < FOREVER → last ≡ time - 1 → position w time ≡ Some next → next ≢ cell → StaysUntil w id stays cell from time
    → StaysUntil w id (stays ++ record { cell = cell; span = record { from = from; to = last; id = id } } ∷ []) next time (time + 1)
other_cell {w} {cell} {next} {time} last ends e at differ u =
    next_cell at (λ t before is. let here : position w t ≡ Some cell = u.here t (omega (arith, u.some)) (omega arith) in differ (cc))
    (stay_more last ends (omega (arith, u.some)) (λ is. differ (cc)) u)

-- The last stay.
stays_on : {w : TimedWalk} {id : RouteId} {stays : List Stay} {cell : Cell} {from : ℕ}
    → w.stay ≡ true → HasArrived w (arrival w) → arrival w < FOREVER → StaysUntil w id stays cell from (arrival w + 1)
    → IsStay w id (record { cell = cell; span = record { from = from; to = FOREVER; id = id } })
stays_on {w} {cell = cell} stays over ends u = record {
  mark = refl;
  some = omega (arith, u.some);
  within = λ t held. elim (nat_cases t (arrival w + 1)) [
    | inl before ↦ u.here t held.0 before
    | inr after ↦
        let later : t ≡ arrival w + (t - arrival w) = omega arith in
        let there : position w (arrival w) ≡ Some cell = u.here (arrival w) (omega (arith, u.some)) (omega arith) in
        rw later (position_for_ever w cell (arrival w) (t - arrival w) stays over there)
  ];
  not_before = u.not_before;
  not_after = λ ended. absurd (ended refl);
}

all_if_staying : {w : TimedWalk} {id : RouteId} {stays : List Stay} {cell : Cell} {from : ℕ}
    → w.stay ≡ true → HasArrived w (arrival w) → arrival w < FOREVER → StaysUntil w id stays cell from (arrival w + 1)
    → AreTheStays w id (stays ++ record { cell = cell; span = record { from = from; to = FOREVER; id = id } } ∷ [])
all_if_staying {w} {id} {stays} {cell} {from} stayed over ends u =
    let stay : Stay = record { cell = cell; span = record { from = from; to = FOREVER; id = id } } in
    let all : StaysBefore w id (stays ++ stay ∷ []) (FOREVER + 1) = stay_at_end FOREVER (omega arith) (stays_on stayed over ends u) u in
    record {
      runs = all.runs;
      each_time = λ t c at. elim (nat_cases t from) [
        | inl before ↦ Any-push_other (λ s. HoldsTime s.span t) stays stay (u.each_time t c before at)
        | inr since ↦ Any-push (λ s. HoldsTime s.span t) stays stay (since, inr refl)
      ];
      in_order = all.in_order;
    }

all_if_gone : {w : TimedWalk} {id : RouteId} {stays : List Stay} {cell : Cell} {from : ℕ}
    → w.stay ≡ false → HasArrived w (arrival w) → arrival w < FOREVER → StaysUntil w id stays cell from (arrival w + 1)
    → AreTheStays w id (stays ++ record { cell = cell; span = record { from = from; to = arrival w; id = id } } ∷ [])
all_if_gone {w} {id} {stays} {cell} {from} leaves over ends u =
    let stay : Stay = record { cell = cell; span = record { from = from; to = arrival w; id = id } } in
    let gone : position w (arrival w + 1) ≡ None = position_over w (arrival w + 1) leaves over.1 in
    let all : StaysBefore w id (stays ++ stay ∷ []) (arrival w + 1) = stay_more (arrival w) ends refl (λ is. cc) u in
    record {
      runs = all.runs;
      each_time = λ t c at. elim (nat_cases t (arrival w + 1)) [
        | inl below ↦ all.each_time t c below at
        | inr late ↦ let none : position w t ≡ None = position_over w t leaves (omega (arith, over.1)) in absurd (cc)
      ];
      in_order = all.in_order;
    }

end_if_staying : (b : Bool) (end last : ℕ) → end ≡ (if b then FOREVER else last) → b ≡ true → end ≡ FOREVER
end_if_staying true end last e is = e
end_if_staying false end last e is = absurd (cc)

end_if_gone : (b : Bool) (end last : ℕ) → end ≡ (if b then FOREVER else last) → b ≡ false → end ≡ last
end_if_gone true end last e is = absurd (cc)
end_if_gone false end last e is = e

pub all_stays : {w : TimedWalk} {id : RouteId} {stays : List Stay} {cell : Cell} {from time : ℕ}
    → time ≡ arrival w + 1 → arrival w < FOREVER → (end : ℕ) → end ≡ (if w.stay then FOREVER else arrival w) → StaysUntil w id stays cell from time
    → AreTheStays w id (stays ++ record { cell = cell; span = record { from = from; to = end; id = id } } ∷ [])
all_stays {w} {id} {stays} {cell} {from} over ends end is u =
    let over' : HasArrived w (arrival w) = (omega arith, omega arith) in
    let until : StaysUntil w id stays cell from (arrival w + 1) = rw over at u in
    elim (bool_cases w.stay) [
      | inl stayed ↦ rw (end_if_staying w.stay end (arrival w) is stayed) (all_if_staying stayed over' ends until)
      | inr leaves ↦ rw (end_if_gone w.stay end (arrival w) is leaves) (all_if_gone leaves over' ends until)
    ]
