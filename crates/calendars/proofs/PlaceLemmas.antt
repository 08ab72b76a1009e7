-- What a binary search over the beginnings of records finds.
use Rattle.std.proofs.Common.{arith, sym, ap, ◌∙◌, refl, inl, get_or, length}
use Rattle.std.proofs.lemmas.Bool.{le-leb, leb-true, leb-false, lt-ltb, le-ltb, ltb-true, ltb-false, eqb-true, and_parts, false≢true}
use Rattle.std.proofs.Math.Bool.{and-false}
use Rattle.std.specs.Prelude.{◌≡◌, ℕ, zero, suc, ◌+◌, ◌<◌, ◌≤◌, ◌==◌, ◌&&◌, ◌||◌, nat_lt, nat_le, Bool, true, false, List, [], ◌∷◌, Option, Some, None, IsSome, unwrap_or, slice_get, if◌then◌else◌}
use Rattle.std.specs.List.{insert, list_any}
use Rattle.std.specs.List.Sorted.{IsPartitionedBy, IsPartitionPoint}
use Rattle.fleet_base.specs.declared.request.Record.{Record}
use Rattle.fleet_base.specs.declared.request.RouteId.{RouteId}
use Rattle.fleet_base.specs.History.{same_id}
use Rattle.calendars.specs.Records.{covers, holds_time, begins_as, ends_into, is_exchange, InOrderFrom, InOrder, with_record}
use Rattle.calendars.specs.Places.{place_in, last_begun}
use Rattle.calendars.proofs.RecordLemmas.{holds_from, held_not_before, over_before}

-- the records begin in rising order
pub since_low : (rs : List Record) (low i : ℕ) (d : Record) → InOrderFrom low rs → i < length rs → low ≤ (get_or rs i d).from
since_low [] low i d order h = absurd (omega arith)
since_low (r ∷ rs) low zero d order h = order.0
since_low (r ∷ rs) low (suc i) d order h =
    let later : r.to + 1 ≤ (get_or rs i d).from = since_low rs (r.to + 1) i d order.3 (omega arith) in
    let proper : r.from ≤ r.to = order.1 in
    let since : low ≤ r.from = order.0 in
    omega arith

pub begin_rising : (rs : List Record) (low i j : ℕ) (d : Record) → InOrderFrom low rs → i ≤ j → j < length rs → (get_or rs i d).from ≤ (get_or rs j d).from
begin_rising [] low i j d order le h = absurd (omega arith)
begin_rising (r ∷ rs) low zero j d order le h = since_low (r ∷ rs) r.from j d (let e : r.from ≤ r.from = omega arith in (e, order.1, order.2, order.3)) h
begin_rising (r ∷ rs) low (suc i) zero d order le h = absurd (omega arith)
begin_rising (r ∷ rs) low (suc i) (suc j) d order le h = begin_rising rs (r.to + 1) i j d order.3 (omega arith) (omega arith)

pub partitioned : (rs : List Record) (t : ℕ) → InOrder rs → IsPartitionedBy (λ r. nat_le r.from t) rs
partitioned rs t order i j d le within begun =
    let rises : (get_or rs i d).from ≤ (get_or rs j d).from = begin_rising rs 0 i j d order le within in
    let at : (get_or rs j d).from ≤ t = leb-true (get_or rs j d).from t begun in
    le-leb (get_or rs i d).from t (omega arith)

-- the place is the only one with all before it begun and none after it
place_is : (rs : List Record) (t k : ℕ) → k ≤ length rs → ((i : ℕ) (d : Record) → i < k → (get_or rs i d).from ≤ t)
    → ((i : ℕ) (d : Record) → k ≤ i → i < length rs → t < (get_or rs i d).from) → k ≡ place_in t rs
place_is [] t zero within before after = refl
place_is [] t (suc k) within before after = absurd (omega arith)
place_is (r ∷ rs) t zero within before after =
    let early : t < r.from = after 0 r (omega arith) (omega arith) in
    ap (λ b. if b then 0 else suc (place_in t rs)) (sym (lt-ltb t r.from early))
place_is (r ∷ rs) t (suc k) within before after =
    let begun : r.from ≤ t = before 0 r (omega arith) in
    let rest : k ≡ place_in t rs = place_is rs t k (omega arith) (λ i d h. before (suc i) d (omega arith)) (λ i d le h. after (suc i) d (omega arith) (omega arith)) in
    ap suc rest ∙ ap (λ b. if b then 0 else suc (place_in t rs)) (sym (le-ltb t r.from begun))

pub place_found : (rs : List Record) (t k : ℕ) → k ≤ length rs
    → IsPartitionPoint (λ r. nat_le r.from t ≡ true) (λ r. nat_le r.from t ≡ false) rs k → k ≡ place_in t rs
place_found rs t k within point = place_is rs t k within
    (λ i d h. leb-true (get_or rs i d).from t (point.0 i d (omega arith) h))
    (λ i d le h. not_begun (get_or rs i d) (point.1 i d le h))
  where
    not_begun : (r : Record) → nat_le r.from t ≡ false → t < r.from
    not_begun r e = leb-false r.from t e

pub place_within : (t : ℕ) (rs : List Record) → place_in t rs ≤ length rs
place_within t [] = omega arith
place_within t (r ∷ rs) = go (place_within t rs) (nat_lt t r.from) where
  go : place_in t rs ≤ length rs → (b : Bool) → (if b then 0 else suc (place_in t rs)) ≤ suc (length rs)
  go le true = omega arith
  go le false = omega arith

pub insert-place_in : (a : Record) (rs : List Record) → insert rs (place_in a.from rs) a ≡ with_record a rs
insert-place_in a [] = refl
insert-place_in a (r ∷ rs) = go (insert-place_in a rs) (nat_lt a.from r.from) where
  go : insert rs (place_in a.from rs) a ≡ with_record a rs → (b : Bool) → insert (r ∷ rs) (if b then 0 else suc (place_in a.from rs)) a ≡ (if b then a ∷ r ∷ rs else r ∷ with_record a rs)
  go rest true = refl
  go rest false = ap (λ xs. r ∷ xs) rest

inside : (rs : List Record) (k : ℕ) → k < length rs → IsSome (slice_get rs k)
inside [] k h = absurd (omega arith)
inside (r ∷ rs) zero h = refl
inside (r ∷ rs) (suc k) h = inside rs k (omega arith)

-- the last record that has begun stands just before the place
pub last_begun-none : (t : ℕ) (rs : List Record) → place_in t rs ≡ 0 → last_begun t rs ≡ None
last_begun-none t [] e = refl
last_begun-none t (r ∷ rs) e = go (nat_lt t r.from) e where
  go : (b : Bool) → (if b then 0 else suc (place_in t rs)) ≡ 0 → (if b then None else Some (unwrap_or (last_begun t rs) r)) ≡ None
  go true e = refl
  go false e = absurd (omega arith)

pub last_begun-place : (t : ℕ) (rs : List Record) (k : ℕ) → place_in t rs ≡ suc k → last_begun t rs ≡ slice_get rs k
last_begun-place t [] k e = absurd (omega arith)
last_begun-place t (r ∷ rs) k e = go (λ j e. last_begun-place t rs j e) (nat_lt t r.from) e where
  at : ((j : ℕ) → place_in t rs ≡ suc j → last_begun t rs ≡ slice_get rs j) → (j : ℕ) → place_in t rs ≡ j → Some (unwrap_or (last_begun t rs) r) ≡ slice_get (r ∷ rs) j
  at rest zero e = ap (λ (o : Option Record). Some (unwrap_or o r)) (last_begun-none t rs e)
  at rest (suc j) e = found (last_begun t rs) (slice_get rs j) (rest j e) (inside rs j (let w = place_within t rs in omega arith))
    where
      found : (o x : Option Record) → o ≡ x → IsSome x → Some (unwrap_or o r) ≡ x
      found o None e some = absurd (false≢true some)
      found o (Some y) e some = ap (λ (o : Option Record). Some (unwrap_or o r)) e

  go : ((j : ℕ) → place_in t rs ≡ suc j → last_begun t rs ≡ slice_get rs j) → (b : Bool) → (if b then 0 else suc (place_in t rs)) ≡ suc k
      → (if b then None else Some (unwrap_or (last_begun t rs) r)) ≡ slice_get (r ∷ rs) k
  go rest true e = absurd (omega arith)
  go rest false e = at rest k (omega arith)

-- Only the last record that has begun can hold a time: so a test that asks for that is asked of it alone.
abbrev pub AsksToHold : (Record → Bool) → ℕ → Type 0
AsksToHold p t = (r : Record) → r.from ≤ r.to → p r ≡ true → holds_time t r ≡ true

abbrev pub passes : (Record → Bool) → Option Record → Bool
passes p None = false
passes p (Some r) = p r

not_asked : (p : Record → Bool) (t : ℕ) → AsksToHold p t → (r : Record) → r.from ≤ r.to → holds_time t r ≡ false → p r ≡ false
not_asked p t asks r proper none = go (p r) refl where
  go : (b : Bool) → p r ≡ b → b ≡ false
  go true e = absurd (false≢true (sym none ∙ asks r proper e))
  go false e = refl

-- where the first record begins later, none has begun
none_later : (p : Record → Bool) (t : ℕ) → AsksToHold p t → (rs : List Record) (low : ℕ) → InOrderFrom low rs → t < low → list_any p rs ≡ false
none_later p t asks [] low order early = refl
none_later p t asks (r ∷ rs) low order early =
    let proper : r.from ≤ r.to = order.1 in
    let since : low ≤ r.from = order.0 in
    ap (λ b. b || list_any p rs) (not_asked p t asks r proper (held_not_before r t (omega arith))) ∙ none_later p t asks rs (r.to + 1) order.3 (omega arith)

pub any-last_begun : (p : Record → Bool) (t : ℕ) → AsksToHold p t → (rs : List Record) (low : ℕ) → InOrderFrom low rs → list_any p rs ≡ passes p (last_begun t rs)
any-last_begun p t asks [] low order = refl
any-last_begun p t asks (r ∷ rs) low order = go (any-last_begun p t asks rs (r.to + 1) order.3) (nat_lt t r.from) refl
  where
    proper : r.from ≤ r.to
    proper = order.1

    -- a later record has begun, so this one is over
    over : (rs : List Record) → InOrderFrom low (r ∷ rs) → (y : Record) → last_begun t rs ≡ Some y → p r ≡ false
    over [] order y e = absurd (cc)
    over (s ∷ rs) order y e = begun (nat_lt t s.from) refl e
      where
        begun : (b : Bool) → nat_lt t s.from ≡ b → (if b then None else Some (unwrap_or (last_begun t rs) s)) ≡ Some y → p r ≡ false
        begun true late e = absurd (cc)
        begun false late e = not_asked p t asks r order.1 (over_before r s rs low t order (ltb-false t s.from late))

    by_last : (o : Option Record) → last_begun t rs ≡ o → list_any p rs ≡ passes p o → (p r || list_any p rs) ≡ p (unwrap_or o r)
    by_last None e rest = go' (p r) rest
      where
        go' : (b : Bool) → list_any p rs ≡ false → (b || list_any p rs) ≡ b
        go' true none = refl
        go' false none = none
    by_last (Some y) e rest = ap (λ b. b || list_any p rs) (over rs order y e) ∙ rest

    go : list_any p rs ≡ passes p (last_begun t rs) → (b : Bool) → nat_lt t r.from ≡ b
        → (p r || list_any p rs) ≡ passes p (if b then None else Some (unwrap_or (last_begun t rs) r))
    go rest true e = none_later p t asks (r ∷ rs) r.from (let l : r.from ≤ r.from = omega arith in (l, order.1, order.2, order.3)) (ltb-true t r.from e)
    go rest false e = by_last (last_begun t rs) refl rest

-- What a calendar is asked.
pub covers-last_begun : (rs : List Record) (t : ℕ) → InOrder rs → covers rs t ≡ passes (holds_time t) (last_begun t rs)
covers-last_begun rs t order = any-last_begun (holds_time t) t (λ r proper held. held) rs 0 order

begin_held : (t : ℕ) (id : RouteId) → AsksToHold (begins_as t id) t
begin_held t id r proper begins =
    let at : r.from ≡ t = eqb-true r.from t (and_parts (r.from == t) (same_id r.id id) begins).0 in
    holds_from r t (omega arith) (inl (omega arith))

end_held : (others : List Record) (t : ℕ) → AsksToHold (ends_into others t) t
end_held others t r proper ends =
    let at : r.to ≡ t = eqb-true r.to t (and_parts (r.to == t) (list_any (begins_as (t + 1) r.id) others) ends).0 in
    holds_from r t (omega arith) (inl (omega arith))

abbrev pub is_swap : Option Record → Option Record → ℕ → Bool
is_swap None comes t = false
is_swap (Some leaves) comes t = (leaves.to == t) && passes (begins_as (t + 1) leaves.id) comes

pub exchange-last_begun : (from to : List Record) (t : ℕ) → InOrder from → InOrder to → is_exchange from to t ≡ is_swap (last_begun t to) (last_begun (t + 1) from) t
exchange-last_begun from to t order order' = any-last_begun (ends_into from t) t (end_held from t) to 0 order' ∙ go (last_begun t to)
  where
    go : (o : Option Record) → passes (ends_into from t) o ≡ is_swap o (last_begun (t + 1) from) t
    go None = refl
    go (Some leaves) = ap (λ b. (leaves.to == t) && b) (any-last_begun (begins_as (t + 1) leaves.id) (t + 1) (begin_held (t + 1) leaves.id) from 0 order)

pub no_swap : (leaves comes : Option Record) (t : ℕ) → comes ≡ None → is_swap leaves comes t ≡ false
no_swap None comes t none = refl
no_swap (Some leaves) comes t none = ap (λ (o : Option Record). (leaves.to == t) && passes (begins_as (t + 1) leaves.id) o) none ∙ and-false (leaves.to == t)

pub last_begun-at : (t : ℕ) (rs : List Record) (k : ℕ) (d : Record) → place_in t rs ≡ suc k → last_begun t rs ≡ Some (get_or rs k d)
last_begun-at t rs k d e = last_begun-place t rs k e ∙ at rs k (let w = place_within t rs in omega arith)
  where
    at : (rs : List Record) (k : ℕ) → k < length rs → slice_get rs k ≡ Some (get_or rs k d)
    at [] k h = absurd (omega arith)
    at (r ∷ rs) zero h = refl
    at (r ∷ rs) (suc k) h = at rs k (omega arith)

pub no_leaver : (leaves comes : Option Record) (t : ℕ) → leaves ≡ None → is_swap leaves comes t ≡ false
no_leaver None comes t none = refl
no_leaver (Some leaves) comes t none = absurd (cc)

pub both_there : (leaves comes : Option Record) (a b : Record) (t : ℕ) → leaves ≡ Some a → comes ≡ Some b → is_swap leaves comes t ≡ ((a.to == t) && begins_as (t + 1) a.id b)
both_there leaves comes a b t first second = ap (λ (o : Option Record). is_swap o comes t) first ∙ ap (λ (o : Option Record). is_swap (Some a) o t) second
