-- Spots of which each is an interval of its cell's list, each once, are no more than the lists of the known cells have.
use Rattle.std.proofs.Common.{arith, sym, ap, ◌∙◌, refl, inl, inr}
use Rattle.std.proofs.lemmas.Bool.{cases_lt, cases_eq, eqb-true, false≢true}
use Rattle.std.proofs.lemmas.Map.Steps.{length-le_from_distinct_below}
use Rattle.std.proofs.lemmas.Option.{slice_get_within, slice_get-get_or, same_Some}
use Rattle.std.specs.Prelude.{◌≡◌, ℕ, zero, suc, ◌+◌, ◌<◌, ◌≤◌, ◌==◌, ◌||◌, Bool, true, false, List, [], ◌∷◌, Option, Some, length, slice_get}
use Rattle.std.specs.List.{IsDistinct, AllByRecursion, Any, list_any}
use Rattle.fleet_base.specs.declared.grid.Cell.{Cell}
use Rattle.fleet_base.specs.declared.request.Record.{Record}
use Rattle.fleet_base.specs.Terrain.{Terrain, IsOpen}
use Rattle.safe_intervals.specs.declared.interval.Interval.{Interval}
use Rattle.safe_intervals.specs.Safe.{IsIn, IsSafeInterval, AreSafeIntervals}
use Rattle.safe_intervals.proofs.SafeLemmas.{safe_once}
use Rattle.static_distance.specs.Distance.{IsDistance, IsWay, there, move}
use Rattle.sipp_search.specs.declared.states.Spot.{Spot}
use Rattle.sipp_search.specs.Answer.{AreListsOf, length_if_known, interval_count}
use Rattle.sipp_search.specs.Arena.{IsOfArena}

-- a way begins at an open cell, so at one of the grid's
way_open : (g : Terrain) (goal c : Cell) (k : ℕ) → IsWay g goal c k → IsOpen g c
way_open g goal c k (there opened) = opened
way_open g goal c k (move side opened beside rest) = opened

pub distance_inside : (g : Terrain) (goal c : Cell) (k : ℕ) → IsDistance g goal c k → c.0 < length g.cells
distance_inside g goal c k distance = slice_get_within g.cells c.0 true (way_open g goal c k distance.way)

module _ (known : ℕ → Option (List Record)) (lists : ℕ → List Interval) where
  -- the interval is one of the cell's list, and the cell is known
  pub record IsListed (c : Cell) (i : Interval) : Type 0 where
    pub records : List Record
    pub known_is : known c.0 ≡ Some records
    pub place : ℕ
    pub stands : slice_get (lists c.0) place ≡ Some i

  count_here : (c : ℕ) (records : List Record) → known c ≡ Some records → interval_count known lists (suc c) ≡ length (lists c) + interval_count known lists c
  count_here c records is = ap (λ o. length_if_known o (lists c) + interval_count known lists c) is

  count_rises : (m n : ℕ) → m ≤ n → interval_count known lists m ≤ interval_count known lists n
  count_rises m zero le = let e : m ≡ 0 = omega arith in rw e (omega arith)
  count_rises m (suc n) le = elim (cases_eq m (suc n)) [
    | inl e ↦ rw e (omega arith)
    | inr ne ↦ let before : interval_count known lists m ≤ interval_count known lists n = count_rises m n (omega arith) in omega arith
  ]

  -- the intervals of the known cells are numbered in the order of the cells
  number : (c : Cell) (i : Interval) → IsListed c i → ℕ
  number c i listed = listed.place + interval_count known lists c.0

  number_inside : (c : Cell) (i : Interval) (listed : IsListed c i) → number c i listed < interval_count known lists (suc c.0)
  unfolding number
  number_inside c i listed = omega (arith, count_here c.0 listed.records listed.known_is, slice_get_within (lists c.0) listed.place i listed.stands)

  number_below : (size : ℕ) (c : Cell) (i : Interval) (listed : IsListed c i) → c.0 < size → number c i listed < interval_count known lists size
  number_below size c i listed below = omega (arith, number_inside c i listed, count_rises (suc c.0) size (omega arith))

  number_later : (c d : Cell) (i j : Interval) (one : IsListed c i) (two : IsListed d j) → c.0 < d.0 → number c i one < number d j two
  unfolding number
  number_later c d i j one two below = omega (arith, number_below d.0 c i one below)

  -- the number tells the interval and its cell
  number_once : (c d : Cell) (i j : Interval) (one : IsListed c i) (two : IsListed d j) → number c i one ≡ number d j two → (c ≡ d) × (i ≡ j)
  unfolding number
  number_once c d i j one two same = elim (cases_lt c.0 d.0) [
    | inl below ↦ absurd (let less = number_later c d i j one two below in omega arith)
    | inr ge ↦ elim (cases_lt d.0 c.0) [
      | inl above ↦ absurd (let less = number_later d c j i two one above in omega arith)
      | inr le ↦ here (omega arith)
    ]
  ]
    where
      here : c.0 ≡ d.0 → (c ≡ d) × (i ≡ j)
      here cells =
          let counts : interval_count known lists c.0 ≡ interval_count known lists d.0 = ap (interval_count known lists) cells in
          let place : one.place ≡ two.place = omega arith in
          let other : slice_get (lists c.0) one.place ≡ Some j = rw (cells, place) two.stands in
          (ap (λ (n : ℕ). record { 0 = n }) cells, same_Some i j (sym one.stands ∙ other))

  abbrev pub AreListed : List Spot → Type 0
  AreListed spots = (j : ℕ) (p : Spot) → slice_get spots j ≡ Some p → IsListed p.cell p.interval

  numbers : (spots : List Spot) → AreListed spots → List ℕ
  numbers [] listed = []
  numbers (p ∷ spots) listed = number p.cell p.interval (listed 0 p refl) ∷ numbers spots (λ j r at. listed (suc j) r at)

  length-numbers : (spots : List Spot) (listed : AreListed spots) → length (numbers spots listed) ≡ length spots
  unfolding numbers
  length-numbers [] listed = refl
  length-numbers (p ∷ spots) listed = ap suc (length-numbers spots (λ j r at. listed (suc j) r at))

  all_below : (size : ℕ) (spots : List Spot) (listed : AreListed spots) → ((j : ℕ) (p : Spot) → slice_get spots j ≡ Some p → p.cell.0 < size)
      → (n : ℕ) → list_any (λ m. n == m) (numbers spots listed) ≡ true → n < interval_count known lists size
  unfolding numbers
  all_below size [] listed below n has = absurd (false≢true has)
  all_below size (p ∷ spots) listed below n has =
      go (n == number p.cell p.interval (listed 0 p refl)) refl has (λ later. all_below size spots (λ j r at. listed (suc j) r at) (λ j r at. below (suc j) r at) n later)
    where
      go : (b : Bool) → (n == number p.cell p.interval (listed 0 p refl)) ≡ b → (b || list_any (λ m. n == m) (numbers spots (λ j r at. listed (suc j) r at))) ≡ true
          → (list_any (λ m. n == m) (numbers spots (λ j r at. listed (suc j) r at)) ≡ true → n < interval_count known lists size) → n < interval_count known lists size
      go true e has rest =
          let same : n ≡ number p.cell p.interval (listed 0 p refl) = eqb-true n _ e in
          omega (arith, number_below size p.cell p.interval (listed 0 p refl) (below 0 p refl))
      go false e has rest = rest has

  -- another number than all of these
  all_other : (c : Cell) (i : Interval) (one : IsListed c i) (spots : List Spot) (listed : AreListed spots)
      → ((j : ℕ) (p : Spot) → slice_get spots j ≡ Some p → c ≡ p.cell → i ≡ p.interval → ⊥)
      → AllByRecursion (λ m. (number c i one == m) ≡ false) (numbers spots listed)
  unfolding numbers
  all_other c i one [] listed other = tt
  all_other c i one (p ∷ spots) listed other =
      (go (number c i one == number p.cell p.interval (listed 0 p refl)) refl, all_other c i one spots (λ j r at. listed (suc j) r at) (λ j r at. other (suc j) r at))
    where
      go : (b : Bool) → (number c i one == number p.cell p.interval (listed 0 p refl)) ≡ b → b ≡ false
      go true e =
          let same = number_once c p.cell i p.interval one (listed 0 p refl) (eqb-true (number c i one) _ e) in
          absurd (other 0 p refl same.0 same.1)
      go false e = refl

  abbrev pub EachOnce : List Spot → Type 0
  EachOnce spots = (i j : ℕ) (p r : Spot) → slice_get spots i ≡ Some p → slice_get spots j ≡ Some r → p.cell ≡ r.cell → p.interval ≡ r.interval → i ≡ j

  all_distinct : (spots : List Spot) (listed : AreListed spots) → EachOnce spots → IsDistinct (λ m n. m == n) (numbers spots listed)
  unfolding IsDistinct numbers
  all_distinct [] listed once = tt
  all_distinct (p ∷ spots) listed once = (
    all_other p.cell p.interval (listed 0 p refl) spots (λ j r at. listed (suc j) r at)
        (λ j r at cells intervals. (let e : 0 ≡ suc j = once 0 (suc j) p r refl at cells intervals in omega arith)),
    all_distinct spots (λ j r at. listed (suc j) r at) (λ i j p r at at' cells intervals. (let e : suc i ≡ suc j = once (suc i) (suc j) p r at at' cells intervals in omega arith)),
  )

  pub no_more_than_listed : (size : ℕ) (spots : List Spot) → AreListed spots → EachOnce spots → ((j : ℕ) (p : Spot) → slice_get spots j ≡ Some p → p.cell.0 < size)
      → length spots ≤ interval_count known lists size
  no_more_than_listed size spots listed once below =
      let le = length-le_from_distinct_below (numbers spots listed) (interval_count known lists size) (all_distinct spots listed once) (all_below size spots listed below) in
      omega (arith, length-numbers spots listed)

-- a safe interval of a known cell is one of the cell's list
pub listed_safe : (g : Terrain) (goal : Cell) (horizon : ℕ) (known : ℕ → Option (List Record)) (lists : ℕ → List Interval) (p : Spot)
    → IsOfArena g goal horizon known p → AreListsOf known horizon lists → IsListed known lists p.cell p.interval
listed_safe g goal horizon known lists p of are = go (list.each_time p.interval.from (omega (arith, of.safe.some, of.safe.within)) (of.safe.free p.interval.from first))
  where
    list : AreSafeIntervals of.records horizon (lists p.cell.0)
    list = are p.cell.0 of.records of.known_is

    first : IsIn p.interval.from p.interval
    first = (omega arith, of.safe.some)

    go : Any (IsIn p.interval.from) (lists p.cell.0) → IsListed known lists p.cell p.interval
    go (k, x, inside, is, at) =
        let stands : slice_get (lists p.cell.0) k ≡ Some x = slice_get-get_or (lists p.cell.0) k x inside ∙ ap Some is in
        let safe : IsSafeInterval of.records horizon x = rw is at (list.safe k x inside) in
        let same : x ≡ p.interval = safe_once of.records horizon x p.interval p.interval.from safe of.safe at first in
        record { records = of.records; known_is = of.known_is; place = k; stands = stands ∙ ap Some same }

-- spots of an arena are no more than the safe intervals of the known cells
pub spots_counted : (g : Terrain) (goal : Cell) (horizon : ℕ) (known : ℕ → Option (List Record)) (lists : ℕ → List Interval) (size : ℕ) (spots : List Spot)
    → size ≡ length g.cells → ((j : ℕ) (p : Spot) → slice_get spots j ≡ Some p → IsOfArena g goal horizon known p)
    → ((i j : ℕ) (p r : Spot) → slice_get spots i ≡ Some p → slice_get spots j ≡ Some r → p.cell ≡ r.cell → p.interval ≡ r.interval → i ≡ j)
    → AreListsOf known horizon lists → length spots ≤ interval_count known lists size
spots_counted g goal horizon known lists size spots size_is each once are =
    no_more_than_listed known lists size spots (λ j p at. listed_safe g goal horizon known lists p (each j p at) are) once
    (λ j p at. (let inside : p.cell.0 < length g.cells = distance_inside g goal p.cell p.left (each j p at).distance in omega arith))
