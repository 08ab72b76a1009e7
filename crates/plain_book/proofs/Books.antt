-- What is true of each book stays true.
use Rattle.std.proofs.Common.{◌≡◌, ℕ, ◌≤◌, List, ◌∷◌, length, sym, subst, ◌∙◌, arith, not, max}
use Rattle.std.specs.Prelude.{All, filter, IsPermutation}
use Rattle.std.specs.List.Sorted.{IsStrictlySortedBy}
use Rattle.std.specs.Map.{keys_of}
use Rattle.std.proofs.lemmas.List.Elements.{All-cons, All-weaker, All-filter}
use Rattle.std.proofs.lemmas.List.Sorted.{All-permutation, IsPermutation-sym}
use Rattle.fleet_base.specs.declared.request.Live.{Live}
use Rattle.fleet_base.specs.declared.request.Record.{Record}
use Rattle.fleet_base.specs.declared.request.RouteId.{RouteId}
use Rattle.fleet_base.specs.Terrain.{Terrain}
use Rattle.fleet_base.specs.TimedWalk.{TimedWalk}
use Rattle.fleet_base.specs.History.{same_id}
use Rattle.sipp_search.specs.Scratch.{Scratch}
use Rattle.plain_book.specs.Kept.{routes_of, id_cmp, AreCalendarsOf, IsKept}

module _ (g : Terrain) (horizon stamp : ℕ) (entries now : List (RouteId × TimedWalk)) (old new : List (List Record)) (searcher : Scratch) (kept : IsKept g horizon stamp entries old searcher)
    (same : length new ≡ length old) (ordered : IsStrictlySortedBy id_cmp (keys_of now)) (are : AreCalendarsOf (routes_of now) new) where
  kept_by : (last : ℕ) → All (λ (r : Live). r.id.stamp ≤ last) (routes_of now) → IsKept g horizon last now new searcher
  kept_by last stamps = record {
    in_range = kept.in_range;
    size = same ∙ kept.size;
    searches = kept.searches;
    ordered = ordered;
    stamps = stamps;
    calendars_are = are;
  }

  -- where the routes are the same
  pub kept_same : now ≡ entries → IsKept g horizon stamp now new searcher
  kept_same unchanged = kept_by stamp (subst (λ (es : List (RouteId × TimedWalk)). All (λ (r : Live). r.id.stamp ≤ stamp) (routes_of es)) (sym unchanged) kept.stamps)

  -- where one ended
  pub kept_ended : (id : RouteId) → routes_of now ≡ filter (λ r. not (same_id r.id id)) (routes_of entries) → IsKept g horizon stamp now new searcher
  kept_ended id ended =
      kept_by stamp (subst (λ (rs : List Live). All (λ (r : Live). r.id.stamp ≤ stamp) rs) (sym ended)
      (All-filter (λ r. not (same_id r.id id)) (λ (r : Live). r.id.stamp ≤ stamp) (routes_of entries) kept.stamps))

  -- where one came
  pub kept_added : (id : RouteId) (w : TimedWalk) → IsPermutation (routes_of now) (record { id = id; walk = w } ∷ routes_of entries)
      → IsKept g horizon (max stamp id.stamp) now new searcher
  kept_added id w added =
      kept_by (max stamp id.stamp)
      (All-permutation (λ (r : Live). r.id.stamp ≤ max stamp id.stamp) (record { id = id; walk = w } ∷ routes_of entries) (routes_of now)
      (IsPermutation-sym (routes_of now) (record { id = id; walk = w } ∷ routes_of entries) added)
      (All-cons (λ (r : Live). r.id.stamp ≤ max stamp id.stamp) (record { id = id; walk = w }) (routes_of entries) (omega arith)
      (All-weaker (λ (r : Live). r.id.stamp ≤ stamp) (λ r. r.id.stamp ≤ max stamp id.stamp) (λ r h. omega arith) (routes_of entries) kept.stamps)))
