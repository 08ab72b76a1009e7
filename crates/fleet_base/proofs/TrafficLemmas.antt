-- Free in a book is free in the traffic of the book.
use Rattle.std.proofs.Common.{◌≡◌, ◌≢◌, ℕ, ◌+◌, ◌<◌, inl, inr, Bool, true, false, List, length, Option, Some, None, refl, ap, get_or}
use Rattle.std.specs.Prelude.{◌&&◌}
use Rattle.std.specs.List.{list_any}
use Rattle.std.proofs.lemmas.List.Elements.{All-weaker}
use Rattle.std.proofs.lemmas.List.Folds.{list_any_none, list_any_at}
use Rattle.std.proofs.lemmas.Bool.{eq-eqb, eqb-true, and_from, and_parts}
use Rattle.fleet_base.specs.declared.grid.Cell.{Cell}
use Rattle.fleet_base.specs.declared.request.Live.{Live}
use Rattle.fleet_base.specs.TimedWalk.{TimedWalk, position, MeetAt, Meet}
use Rattle.fleet_base.specs.Planned.{IsClearOf, IsFree}
use Rattle.fleet_base.specs.Traffic.{IsFreeIn, is_on, traffic_of}

pub not_true : (b : Bool) → (b ≡ true → ⊥) → b ≡ false
not_true true h = absurd (h refl)
not_true false h = refl

cell_of : ℕ → Cell
cell_of n = record { 0 = n }

pub same_cells : (c d : Cell) → c.0 ≡ d.0 → c ≡ d
unfolding cell_of
same_cells c d e = ap cell_of e

pub is_on-true : (c : Cell) (o : Option Cell) → is_on c o ≡ true → o ≡ Some c
is_on-true c None h = absurd (cc)
is_on-true c (Some d) h = ap (λ (x : Cell). Some x) (same_cells d c (eqb-true d.0 c.0 h))

pub is_on-some : (c : Cell) (o : Option Cell) → o ≡ Some c → is_on c o ≡ true
is_on-some c None h = absurd (cc)
is_on-some c (Some d) h = let same : d ≡ c = cc in eq-eqb d.0 c.0 (ap (λ (x : Cell). x.0) same)

pub free_in_traffic : (w : TimedWalk) (book : List Live) → IsFree w book → IsFreeIn (traffic_of book) w
free_in_traffic w book free = record {
  untaken = λ t c at. list_any_none (λ r. is_on c (position r.walk t)) book
      (All-weaker (IsClearOf w) (λ r. is_on c (position r.walk t) ≡ false)
      (λ r clear. not_true _ (λ on. clear (record { time = t; met = inl (c, at, is_on-true c _ on) }))) book free.clear);
  unbarred = λ t c d differ from to. list_any_none (λ r. is_on d (position r.walk t) && is_on c (position r.walk (t + 1))) book
      (All-weaker (IsClearOf w) (λ r. (is_on d (position r.walk t) && is_on c (position r.walk (t + 1))) ≡ false)
      (λ r clear. not_true _ (λ on. clear (exchange r t c d differ from to (and_parts (is_on d (position r.walk t)) _ on)))) book free.clear);
}
  where
    exchange : (r : Live) (t : ℕ) (c d : Cell) → c ≢ d → position w t ≡ Some c → position w (t + 1) ≡ Some d
        → (is_on d (position r.walk t) ≡ true) × (is_on c (position r.walk (t + 1)) ≡ true) → Meet w r.walk
    exchange r t c d differ from to on = record { time = t; met = inr (c, d, differ, from, to, is_on-true d _ on.0, is_on-true c _ on.1) }

pub free_from_traffic : (w : TimedWalk) (book : List Live) → IsFreeIn (traffic_of book) w → IsFree w book
free_from_traffic w book free = record { clear = λ k r below m. apart k r below m.time m.met }
  where
    apart : (k : ℕ) (r : Live) → k < length book → (t : ℕ) → MeetAt w (get_or book k r).walk t → ⊥
    apart k r below t (inl (c, here, there)) =
        let taken : list_any (λ r. is_on c (position r.walk t)) book ≡ true = list_any_at (λ r. is_on c (position r.walk t)) book k r below (is_on-some c _ there) in
        let free : list_any (λ r. is_on c (position r.walk t)) book ≡ false = free.untaken t c here in
        cc
    apart k r below t (inr (c, d, differ, here, next, there, back)) =
        let p : Live → Bool = λ r. is_on d (position r.walk t) && is_on c (position r.walk (t + 1)) in
        let barred : list_any p book ≡ true = list_any_at p book k r below (and_from _ _ (is_on-some d _ there) (is_on-some c _ back)) in
        let free : list_any p book ≡ false = free.unbarred t c d differ here next in
        cc
