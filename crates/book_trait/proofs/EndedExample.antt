-- A history of one reply without a route: its start is a closed cell.
use Rattle.std.proofs.Common.{◌≡◌, ℕ, ◌<◌, Bool, false, List, [], ◌∷◌, Some, refl, sym, ap, ◌∙◌, subst, inr, arith}
use Rattle.std.specs.Prelude.{slice_get}
use Rattle.std.proofs.lemmas.List.Elements.{All-nil, All-cons}
use Rattle.fleet_base.specs.declared.request.Request.{Request}
use Rattle.fleet_base.specs.declared.request.Live.{Live}
use Rattle.fleet_base.specs.declared.request.Entry.{Entry}
use Rattle.fleet_base.specs.declared.request.Entry.TheVariants.{NoRoute}
use Rattle.fleet_base.specs.Terrain.{Terrain, IsOpen}
use Rattle.fleet_base.specs.Planned.{NoneFree}
use Rattle.fleet_base.specs.History.{IsAbove, caller_of}
use Rattle.book_trait.specs.Passes.{BookView, IsShared, IsStampIn}

closed_start : (g : Terrain) (horizon : ℕ) (q : Request) (book : List Live) → ¬ (IsOpen g q.start) → NoneFree g horizon q book
closed_start g horizon q book closed = record { never = λ w walk free. closed (walk.opens q.depart q.start walk.starts) }

pub one_refusal : (b : BookView) (q : Request) → 0 < b.callers → ¬ (IsOpen b.grid q.start) → IsShared b (NoRoute 1 0 0 q ∷ [])
one_refusal b q some closed = record {
  strong = ((record { in_era = refl; new_stamp = record { low = omega arith; high = omega arith; above = All-nil (IsAbove record { stamp = 1; caller = 0 }) }; none_free = closed_start b.grid b.horizon q [] closed }, closed_start b.grid b.horizon q [] closed), tt);
  counted = (omega arith, tt);
  callers = All-cons (λ (e : Entry). caller_of e < b.callers) (NoRoute 1 0 0 q) [] some (All-nil (λ (e : Entry). caller_of e < b.callers));
}

pub its_stamp : (q : Request) (list : List Entry) → list ≡ NoRoute 1 0 0 q ∷ [] → IsStampIn 1 list
its_stamp q list e = subst (IsStampIn 1) (sym e) (inr (0, record { stamp = 1; caller = 0 }, omega arith, refl, refl))

-- on a map of one closed cell
pub closed_map : (b : BookView) (q : Request) (list : List Entry) (cells : List Bool) → list ≡ NoRoute 1 0 0 q ∷ [] → 0 < b.callers → b.grid ≡ record { width = 1; height = 1; cells = cells } → cells ≡ false ∷ []
    → q.start.0 ≡ 0 → IsShared b list
closed_map b q list cells e some map one start = subst (IsShared b) (sym e) (one_refusal b q some (λ opened.
    let there : slice_get (false ∷ []) 0 ≡ Some false = refl in
    let same : slice_get b.grid.cells q.start.0 ≡ slice_get (false ∷ []) 0 = (λ i. slice_get (map i).cells (start i)) ∙ ap (λ (cs : List Bool). slice_get cs 0) one in absurd (cc)))
