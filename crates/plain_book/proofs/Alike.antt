-- Traffic that is the same but for exchanges of a cell with itself has the same free walks, and the same canonical one.
use Rattle.std.proofs.Common.{◌≡◌, ◌≢◌, ℕ, ◌∙◌, sym}
use Rattle.fleet_base.specs.declared.grid.Cell.{Cell}
use Rattle.fleet_base.specs.declared.request.Request.{Request}
use Rattle.fleet_base.specs.Terrain.{Terrain}
use Rattle.fleet_base.specs.TimedWalk.{TimedWalk}
use Rattle.fleet_base.specs.Traffic.{Traffic, IsFreeIn}
use Rattle.fleet_base.specs.Reach.{IsReachable, IsClearStep, IsArrival}
use Rattle.fleet_base.specs.Canonical.{CanPrecede, IsFirstBefore, IsUntaken, IsEarliest, ReadsBack, whole, hop, IsCanonical}

-- the same cells are taken, and the same moves are exchanges
pub record AreAlike (a b : Traffic) : Type 0 where
  pub taken : (c : Cell) (t : ℕ) → a.is_taken c t ≡ b.is_taken c t
  pub barred : (c d : Cell) (t : ℕ) → c ≢ d → a.is_barred c d t ≡ b.is_barred c d t

pub AreAlike-sym : (a b : Traffic) → AreAlike a b → AreAlike b a
AreAlike-sym a b alike = record { taken = λ c t. sym (alike.taken c t); barred = λ c d t differ. sym (alike.barred c d t differ) }

pub AreAlike-trans : (a b c : Traffic) → AreAlike a b → AreAlike b c → AreAlike a c
AreAlike-trans a b c first second = record {
  taken = λ x t. first.taken x t ∙ second.taken x t;
  barred = λ x y t differ. first.barred x y t differ ∙ second.barred x y t differ;
}

pub free_alike : (a b : Traffic) → AreAlike a b → (w : TimedWalk) → IsFreeIn a w → IsFreeIn b w
free_alike a b alike w free = record {
  untaken = λ t c at. sym (alike.taken c t) ∙ free.untaken t c at;
  unbarred = λ t c d differ here next. sym (alike.barred c d t differ) ∙ free.unbarred t c d differ here next;
}

module _ (g : Terrain) (q : Request) (a b : Traffic) (alike : AreAlike a b) where
  reachable_alike : (c : Cell) (t : ℕ) → IsReachable g a q c t → IsReachable g b q c t
  reachable_alike c t r = record { walk = r.walk; walk_of = r.walk_of; free = free_alike a b alike r.walk r.free; ends = r.ends }

  clear_alike : (c d : Cell) (t : ℕ) → IsClearStep a c d t → IsClearStep b c d t
  clear_alike c d t clear = record { untaken = sym (alike.taken d _) ∙ clear.untaken; unbarred = λ differ. sym (alike.barred c d t differ) ∙ clear.unbarred differ }

  arrival_alike : (t : ℕ) → IsArrival g a q t → IsArrival g b q t
  arrival_alike t arrives = record { reachable = reachable_alike q.goal t arrives.reachable; may_end = λ stays s late. sym (alike.taken q.goal s) ∙ arrives.may_end stays s late }

  precede_alike : (n c : Cell) (t : ℕ) → CanPrecede g a q n c t → CanPrecede g b q n c t
  precede_alike n c t can = record { reachable = reachable_alike n t can.reachable; clear = clear_alike n c t can.clear }

  untaken_alike : (c : Cell) (s t : ℕ) → IsUntaken a c s t → IsUntaken b c s t
  untaken_alike c s t untaken x low high = sym (alike.taken c x) ∙ untaken x low high

module _ (g : Terrain) (q : Request) (a b : Traffic) (alike : AreAlike a b) where
  first_alike : (n c : Cell) (t : ℕ) → IsFirstBefore g a q n c t → IsFirstBefore g b q n c t
  first_alike n c t is = record {
    side = is.side;
    beside = is.beside;
    precedes = precede_alike g q a b alike n c t is.precedes;
    first = λ other m lower beside can. is.first other m lower beside (precede_alike g q b a (AreAlike-sym a b alike) m c t can);
  }

  earliest_alike : (c : Cell) (t s : ℕ) → IsEarliest g a q c t s → IsEarliest g b q c t s
  earliest_alike c t s is = record {
    before = is.before;
    reachable = reachable_alike g q a b alike c s is.reachable;
    untaken = untaken_alike g q a b alike c s t is.untaken;
    earliest = λ u before reachable untaken. is.earliest u before (reachable_alike g q b a (AreAlike-sym a b alike) c u reachable) (untaken_alike g q b a (AreAlike-sym a b alike) c u t untaken);
  }

  reads_alike : {c : Cell} {t : ℕ} {cells : _} → ReadsBack g a q c t cells → ReadsBack g b q c t cells
  reads_alike whole = whole
  reads_alike (hop {n} {c} {s} {t} first earliest front) = hop (first_alike n c t first) (earliest_alike n t s earliest) (reads_alike front)

  pub canonical_alike : (horizon : ℕ) (w : TimedWalk) → IsCanonical g horizon a q w → IsCanonical g horizon b q w
  canonical_alike horizon w is = record {
    departs = is.departs;
    stays = is.stays;
    in_time = is.in_time;
    ends = arrival_alike g q a b alike _ is.ends;
    least = λ t arrives. is.least t (arrival_alike g q b a (AreAlike-sym a b alike) t arrives);
    reads = reads_alike is.reads;
  }
