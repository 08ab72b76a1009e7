-- The marks of a word's cells are written one by one.
use Rattle.std.proofs.Common.{◌≡◌, ◌≢◌, ℕ, ◌+◌, ◌<◌, ◌↔◌, inl, inr, List, length, Some, refl, sym, ap, ◌∙◌, arith, set}
use Rattle.std.specs.Prelude.{slice_get}
use Rattle.std.proofs.lemmas.Bool.{cases_eq}
use Rattle.row_words.specs.Words.{IsSet}
use Rattle.row_words.proofs.WordLemmas.{more_is_greater}
use Rattle.static_distance.proofs.SpanLemmas.{set_here, set_there}

-- One of the cells that are left of a word is marked; those that are not left have their marks.
module _ (word rest one less place : ℕ) (left : (i : ℕ) → IsSet rest i → IsSet word i) (has : IsSet rest place)
    (one_is : (i : ℕ) → IsSet one i ↔ (i ≡ place)) (less_is : (i : ℕ) → IsSet less i ↔ (IsSet rest i × ¬ (IsSet one i))) where
  pub one_less : less < rest
  one_less = more_is_greater less rest place (λ i set. ((less_is i).0 set).0) has (λ set. ((less_is place).0 set).1 ((one_is place).1 refl))

  pub still_left : (i : ℕ) → IsSet less i → IsSet word i
  still_left i set = left i ((less_is i).0 set).0

  module _ (first value : ℕ) (mark : ℕ → ℕ) (old before new : List ℕ) (inside : first + place < length before) (value_is : value ≡ mark place)
      (new_is : new ≡ set before (first + place) value) where
    pub one_marked : ((i : ℕ) → IsSet word i → ¬ (IsSet rest i) → slice_get before (first + i) ≡ Some (mark i))
        → (i : ℕ) → IsSet word i → ¬ (IsSet less i) → slice_get new (first + i) ≡ Some (mark i)
    one_marked marked i held gone = ap (λ (xs : List ℕ). slice_get xs (first + i)) new_is ∙ elim (cases_eq i place) [
      | inl same ↦ ap (λ (k : ℕ). slice_get (set before (first + place) value) (first + k)) same ∙ set_here before (first + place) value inside ∙ (ap Some value_is ∙ ap (λ (k : ℕ). Some (mark k)) (sym same))
      | inr other ↦ set_there before (first + place) (first + i) value (omega arith) ∙ marked i held (λ still. gone ((less_is i).1 (still, λ e. other ((one_is i).0 e))))
    ]

    pub one_others : ((n : ℕ) → ((i : ℕ) → IsSet word i → n ≢ first + i) → slice_get before n ≡ slice_get old n)
        → (n : ℕ) → ((i : ℕ) → IsSet word i → n ≢ first + i) → slice_get new n ≡ slice_get old n
    one_others others n out =
        ap (λ (xs : List ℕ). slice_get xs n) new_is ∙ (set_there before (first + place) n value (out place (left place has)) ∙ others n out)
