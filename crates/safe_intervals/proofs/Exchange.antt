-- An exchange, where it is known how many records have begun: who leaves stands just before, who comes just after.
use Rattle.std.proofs.Common.{arith, sym, ap, ◌∙◌, refl, inl, get_or, length}
use Rattle.std.proofs.lemmas.Bool.{and_parts, and_left, eq-eqb, eqb-true, ltb-true, ltb-false}
use Rattle.std.proofs.lemmas.List.Folds.{list_any_none}
use Rattle.std.proofs.Math.Bool.{and-false}
use Rattle.std.specs.Prelude.{◌≡◌, ◌≢◌, ℕ, zero, suc, ◌+◌, ◌-◌, ◌<◌, ◌≤◌, ◌==◌, ◌&&◌, ◌||◌, nat_lt, Bool, true, false, List, [], ◌∷◌, if◌then◌else◌}
use Rattle.std.specs.List.{list_any}
use Rattle.fleet_base.specs.declared.request.Record.{Record}
use Rattle.fleet_base.specs.declared.request.RouteId.{RouteId}
use Rattle.fleet_base.specs.History.{same_id}
use Rattle.calendars.specs.Records.{begins_as, ends_into, is_exchange, InOrderFrom, InOrder}
use Rattle.calendars.specs.Places.{place_in}
use Rattle.calendars.proofs.PlaceLemmas.{AsksToHold, any-last_begun, last_begun-none, last_begun-at, since_low, passes}
use Rattle.calendars.proofs.RecordLemmas.{holds_from}
use Rattle.safe_intervals.proofs.Counting.{begun_before}

end_held : (others : List Record) (t : ℕ) → AsksToHold (ends_into others t) t
end_held others t r proper ends =
    let at : r.to ≡ t = eqb-true r.to t (and_parts (r.to == t) (list_any (begins_as (t + 1) r.id) others) ends).0 in
    holds_from r t (omega arith) (inl (omega arith))

not_equal : (m n : ℕ) → m ≢ n → (m == n) ≡ false
not_equal m n other = go (m == n) refl where
  go : (b : Bool) → (m == n) ≡ b → b ≡ false
  go true e = absurd (other (eqb-true m n e))
  go false e = refl

not_begins : (r : Record) (t : ℕ) (id : RouteId) → r.from ≢ t → begins_as t id r ≡ false
not_begins r t id other = and_left (r.from == t) (same_id r.id id) (not_equal r.from t other)

-- nobody comes where all have begun
none_comes : (rs : List Record) (t : ℕ) (id : RouteId) → length rs ≤ place_in t rs → list_any (begins_as (t + 1) id) rs ≡ false
none_comes rs t id all = list_any_none (begins_as (t + 1) id) rs
    (λ k d h. let begun : (get_or rs k d).from ≤ t = begun_before rs t k d (omega arith) in not_begins (get_or rs k d) (t + 1) id (λ e. omega arith))

-- those after the first that begins later begin later than the next time
none_more : (rs : List Record) (low t : ℕ) (id : RouteId) → InOrderFrom low rs → t < low → list_any (begins_as t id) rs ≡ false
none_more rs low t id order early = list_any_none (begins_as t id) rs
    (λ k d h. let later : low ≤ (get_or rs k d).from = since_low rs low k d order h in not_begins (get_or rs k d) t id (λ e. omega arith))

-- only the first that has not begun can come in the next step
comes_at : (rs : List Record) (low t k : ℕ) (id : RouteId) (d : Record) → InOrderFrom low rs → k ≡ place_in t rs → k < length rs
    → list_any (begins_as (t + 1) id) rs ≡ begins_as (t + 1) id (get_or rs k d)
comes_at [] low t k id d order at within = absurd (omega arith)
comes_at (r ∷ rs) low t k id d order at within = go (λ j at' within'. comes_at rs (r.to + 1) t j id d order.3 at' within') k (nat_lt t r.from) refl at within where
  go : ((j : ℕ) → j ≡ place_in t rs → j < length rs → list_any (begins_as (t + 1) id) rs ≡ begins_as (t + 1) id (get_or rs j d))
      → (j : ℕ) (b : Bool) → nat_lt t r.from ≡ b → j ≡ (if b then 0 else suc (place_in t rs)) → j < suc (length rs)
      → (begins_as (t + 1) id r || list_any (begins_as (t + 1) id) rs) ≡ begins_as (t + 1) id (get_or (r ∷ rs) j d)
  go rest zero true later at within =
      let l : t < r.from = ltb-true t r.from later in
      let proper : r.from ≤ r.to = order.1 in
      ap (λ b. begins_as (t + 1) id r || b) (none_more rs (r.to + 1) (t + 1) id order.3 (omega arith)) ∙ or_false (begins_as (t + 1) id r)
    where
      or_false : (b : Bool) → (b || false) ≡ b
      or_false true = refl
      or_false false = refl
  go rest (suc j) true later at within = absurd (omega arith)
  go rest zero false begun at within = absurd (omega arith)
  go rest (suc j) false begun at within =
      let l : r.from ≤ t = ltb-false t r.from begun in
      ap (λ b. b || list_any (begins_as (t + 1) id) rs) (not_begins r (t + 1) id (λ e. omega arith)) ∙ rest j (omega arith) (omega arith)

-- only the last that has begun can leave
leaves_at : (from to : List Record) (t k : ℕ) (d : Record) → InOrder to → place_in t to ≡ suc k → is_exchange from to t ≡ ends_into from t (get_or to k d)
leaves_at from to t k d order at = any-last_begun (ends_into from t) t (end_held from t) to 0 order ∙ ap (passes (ends_into from t)) (last_begun-at t to k d at)

-- nobody leaves, or nobody comes
pub none_leaves : (from to : List Record) (t : ℕ) → InOrder to → place_in t to ≡ 0 → is_exchange from to t ≡ false
none_leaves from to t order at = any-last_begun (ends_into from t) t (end_held from t) to 0 order ∙ ap (passes (ends_into from t)) (last_begun-none t to at)

pub nobody_comes : (from to : List Record) (t : ℕ) → length from ≤ place_in t from → is_exchange from to t ≡ false
nobody_comes from to t all = list_any_none (ends_into from t) to
    (λ k d h. ap (λ b. ((get_or to k d).to == t) && b) (none_comes from t (get_or to k d).id all) ∙ and-false ((get_or to k d).to == t))

-- both are there
pub exchange_at : (from to : List Record) (t k j : ℕ) (d e : Record) → InOrder from → InOrder to → j ≡ place_in t from → j < length from → place_in t to ≡ suc k
    → is_exchange from to t ≡ (((get_or to k d).to == t) && (((get_or from j e).from == t + 1) && same_id (get_or from j e).id (get_or to k d).id))
exchange_at from to t k j d e order order' comes within leaves =
    leaves_at from to t k d order' leaves ∙ ap (λ b. ((get_or to k d).to == t) && b) (comes_at from 0 t j (get_or to k d).id e order comes within)

-- the same, of the slices that were read
module _ (from to comers leavers : List Record) (t before begun : ℕ) (same : comers ≡ from) (same' : leavers ≡ to) (order : InOrder from) (order' : InOrder to)
    (place : before ≡ place_in t from) (place' : begun ≡ place_in t to) (some : ¬ (begun ≡ 0)) (within : before < length comers) where
  is_told : (d e : Record) → is_exchange from to t
      ≡ (((get_or leavers (begun - 1) d).to == t) && (((get_or comers before e).from == t + 1) && same_id (get_or comers before e).id (get_or leavers (begun - 1) d).id))
  is_told d e = rw (same, same') (exchange_at from to t (begun - 1) before d e order order' place (rw same at within) (omega arith))

  pub told_by_ids : (d e : Record) → (get_or leavers (begun - 1) d).to ≡ t → ((get_or comers before e).from == t + 1) ≡ true
      → same_id (get_or comers before e).id (get_or leavers (begun - 1) d).id ≡ is_exchange from to t
  told_by_ids d e leaves comes =
      let alike = same_id (get_or comers before e).id (get_or leavers (begun - 1) d).id in
      sym (is_told d e ∙ (ap (λ b. b && (((get_or comers before e).from == t + 1) && alike)) (eq-eqb (get_or leavers (begun - 1) d).to t leaves) ∙ ap (λ b. b && alike) comes))

  pub none_by_ends : (d : Record) → ((get_or leavers (begun - 1) d).to == t) ≡ false → is_exchange from to t ≡ false
  none_by_ends d stays =
      let alike = same_id (get_or comers before d).id (get_or leavers (begun - 1) d).id in
      is_told d d ∙ ap (λ b. b && (((get_or comers before d).from == t + 1) && alike)) stays

  pub none_by_begins : (e : Record) → ((get_or comers before e).from == t + 1) ≡ false → is_exchange from to t ≡ false
  none_by_begins e late =
      let alike = same_id (get_or comers before e).id (get_or leavers (begun - 1) e).id in
      is_told e e ∙ (ap (λ b. ((get_or leavers (begun - 1) e).to == t) && (b && alike)) late ∙ and-false ((get_or leavers (begun - 1) e).to == t))
