-- A span is taken whose cells wait on this level.
use Rattle.std.proofs.Common.{◌≡◌, ◌≢◌, ℕ, zero, suc, ◌<◌, ◌⊎◌, inl, inr, List, [], ◌∷◌, ◌++◌, length, Some, refl, sym, ap, subst, ◌∙◌, set}
use Rattle.std.specs.Prelude.{slice_get, Vec}
use Rattle.std.specs.Global.{Global}
use Rattle.std.proofs.lemmas.Bool.{cases_eq}
use Rattle.std.proofs.lemmas.List.{length-set}
use Rattle.std.proofs.lemmas.Option.{same_Some, none-some}
use Rattle.fleet_base.specs.declared.grid.Cell.{Cell}
use Rattle.fleet_base.specs.Terrain.{Terrain}
use Rattle.static_distance.specs.declared.span.Span.{Span}
use Rattle.static_distance.specs.declared.waiting.Waiting.{Waiting}
use Rattle.static_distance.specs.declared.distances.Distances.{Distances}
use Rattle.static_distance.specs.Waiting.{IsListed}
use Rattle.static_distance.specs.Spreading.{IsFlood}
use Rattle.static_distance.specs.Spans.{IsSpan, Holds, Stands, AreListed, AreSpans, flood_of, flood_with}
use Rattle.static_distance.proofs.SpreadLemmas.{flood_same}
use Rattle.static_distance.proofs.SpanLemmas.{set_here, set_there, span_within, stands_of, stands_there}
use Rattle.static_distance.proofs.FloodLemmas.{held_word}

-- Lists at their end.
kept_before : {X : Type 0} (xs : List X) (y x : X) (i : ℕ) → slice_get xs i ≡ Some x → slice_get (xs ++ y ∷ []) i ≡ Some x
kept_before [] y x i at = absurd (none-some x at)
kept_before (z ∷ xs) y x zero at = at
kept_before (z ∷ xs) y x (suc i) at = kept_before xs y x i at

last_at : {X : Type 0} (xs : List X) (y : X) → slice_get (xs ++ y ∷ []) (length xs) ≡ Some y
last_at [] y = refl
last_at (x ∷ xs) y = last_at xs y

last_cases : {X : Type 0} (xs : List X) (y x : X) (i : ℕ) → slice_get (xs ++ y ∷ []) i ≡ Some x → (slice_get xs i ≡ Some x) ⊎ (x ≡ y)
last_cases [] y x zero at = inr (sym (same_Some y x at))
last_cases [] y x (suc i) at = absurd (none-some x at)
last_cases (z ∷ xs) y x zero at = inl at
last_cases (z ∷ xs) y x (suc i) at = last_cases xs y x i at

-- the list of what waits may be written as what it is equal to
pub same_lists : (g : Terrain) (d : Distances) (here : Waiting) → AreSpans g d → here.words ≡ d.here.words → here.spans.items ≡ d.here.spans.items → AreSpans g (record d { here = here })
same_lists g d here spans words items = record {
  marks_fit = spans.marks_fit;
  known_fit = spans.known_fit;
  free_fit = spans.free_fit;
  here_fit = ap (λ (v : Vec ℕ Global). length v.items) words ∙ spans.here_fit;
  next_fit = spans.next_fit;
  free_only = spans.free_only;
  free_all = spans.free_all;
  looked = spans.looked;
  layered = spans.layered;
  here_listed = subst (λ (xs : List Span). AreListed g d.known here.words.items xs) (sym items) (subst (λ (v : Vec ℕ Global). AreListed g d.known v.items d.here.spans.items) (sym words) spans.here_listed);
  next_listed = spans.next_listed;
}

-- the last span of the list is one of the grid, and was looked at
module _ (g : Terrain) (d : Distances) (s : Span) (rest : List Span) (spans : AreSpans g d) (items : d.here.spans.items ≡ rest ++ s ∷ []) where
  listed_last : IsSpan g s × (slice_get d.known s.number ≡ Some 1)
  listed_last = spans.here_listed.spans_are (length rest) s (subst (λ (xs : List Span). slice_get xs (length rest) ≡ Some s) (sym items) (last_at rest s))

  pub taken_span : IsSpan g s
  taken_span = listed_last.0

  pub taken_known : slice_get d.known s.number ≡ Some 1
  taken_known = listed_last.1

  pub taken_within : s.number < length d.here.words.items
  taken_within = span_within g s d.here.words.items taken_span spans.here_fit

module _ (g : Terrain) (d : Distances) (s : Span) (here : Waiting) (spans : AreSpans g d) (items : d.here.spans.items ≡ here.spans.items ++ s ∷ [])
    (words : here.words.items ≡ set d.here.words.items s.number 0) where
  is_span : IsSpan g s
  is_span = taken_span g d s here.spans.items spans items

  is_known : slice_get d.known s.number ≡ Some 1
  is_known = taken_known g d s here.spans.items spans items

  zero_here : (w : ℕ) → slice_get here.words.items s.number ≡ Some w → w ≡ 0
  zero_here w at = same_Some w 0 (sym at ∙ (ap (λ (ws : List ℕ). slice_get ws s.number) words ∙ set_here d.here.words.items s.number 0 (taken_within g d s here.spans.items spans items)))

  same_there : (n : ℕ) → n ≢ s.number → slice_get here.words.items n ≡ slice_get d.here.words.items n
  same_there n other = ap (λ (ws : List ℕ). slice_get ws n) words ∙ set_there d.here.words.items s.number n 0 other

  still_listed : (n w : ℕ) → slice_get d.known n ≡ Some 1 → slice_get here.words.items n ≡ Some w → w ≢ 0 → IsListed here.spans.items n
  still_listed n w known at some = elim (cases_eq n s.number) [
    | inl same ↦ absurd (some (zero_here w (subst (λ (m : ℕ). slice_get here.words.items m ≡ Some w) same at)))
    | inr other ↦
        let listed : IsListed d.here.spans.items n = spans.here_listed.listed n w known (sym (same_there n other) ∙ at) some in
        elim (last_cases here.spans.items s listed.1 listed.0 (subst (λ (xs : List Span). slice_get xs listed.0 ≡ Some listed.1) items listed.2)) [
          | inl before ↦ (listed.0, listed.1, before, listed.3)
          | inr last ↦ absurd (other (sym listed.3 ∙ ap (λ (t : Span). t.number) last))
        ]
  ]

  pub taken_spans : AreSpans g (record d { here = here })
  taken_spans = record {
    marks_fit = spans.marks_fit;
    known_fit = spans.known_fit;
    free_fit = spans.free_fit;
    here_fit = ap length words ∙ (length-set d.here.words.items s.number 0 ∙ spans.here_fit);
    next_fit = spans.next_fit;
    free_only = spans.free_only;
    free_all = spans.free_all;
    looked = spans.looked;
    layered = spans.layered;
    here_listed = record {
      spans_are = λ j t at. spans.here_listed.spans_are j t (subst (λ (xs : List Span). slice_get xs j ≡ Some t) (sym items) (kept_before here.spans.items s t j at));
      listed = still_listed;
    };
    next_listed = spans.next_listed;
  }

  module _ (seeds : ℕ) (seeds_at : slice_get d.here.words.items s.number ≡ Some seeds) where
    leaves : (c : Cell) → Stands g d.known d.here.words.items c → Stands g d.known here.words.items c ⊎ Holds g s seeds c
    leaves c stands = elim (cases_eq stands.span.number s.number) [
      | inl same ↦
          let there = stands_there g d.known d.here.words.items s c is_span stands same in
          inr (subst (λ (w : ℕ). Holds g s w c) (same_Some stands.word seeds (sym there.1 ∙ seeds_at)) there.2)
      | inr other ↦ inl (stands_of g d.known here.words.items stands.span stands.word c stands.is stands.known_is (same_there stands.span.number other ∙ stands.at) stands.holds)
    ]

    comes_from : (c : Cell) → Stands g d.known here.words.items c ⊎ Holds g s seeds c → Stands g d.known d.here.words.items c
    comes_from c (inr held) = stands_of g d.known d.here.words.items s seeds c is_span is_known seeds_at held
    comes_from c (inl stands) = elim (cases_eq stands.span.number s.number) [
      | inl same ↦ absurd (held_word g stands.span stands.word c stands.holds (zero_here stands.word (subst (λ (m : ℕ). slice_get here.words.items m ≡ Some stands.word) same stands.at)))
      | inr other ↦ stands_of g d.known d.here.words.items stands.span stands.word c stands.is stands.known_is (sym (same_there stands.span.number other) ∙ stands.at) stands.holds
    ]

    pub taken_flood : IsFlood g (flood_of g d) → IsFlood g (flood_with g (record d { here = here }) s seeds)
    taken_flood flood = flood_same g (flood_of g d) (flood_with g (record d { here = here }) s seeds) flood refl refl refl refl leaves comes_from (λ c stands. stands) (λ c stands. stands)
