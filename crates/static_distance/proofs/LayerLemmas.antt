-- The layers of a span: what they tell of a place, and what one word more changes of it.
use Rattle.std.proofs.Common.{◌≡◌, ◌≢◌, ℕ, zero, suc, ◌+◌, ◌<◌, ◌≤◌, inl, inr, List, [], ◌∷◌, ◌++◌, length, get_or, refl, sym, ap, subst, ◌∙◌, arith, set}
use Rattle.std.specs.Int.{bit_at}
use Rattle.std.proofs.lemmas.Bool.{cases_eq, cases_lt}
use Rattle.std.proofs.lemmas.List.{get_or_append_left, get_or_push, get_or_past, get_or-set_same, get_or-set_other, length-append, length-set}
use Rattle.std.proofs.lemmas.Nat.Bits.{bit_at-lt}
use Rattle.row_words.specs.Words.{IsSet}
use Rattle.row_words.proofs.WordLemmas.{is_empty}
use Rattle.static_distance.specs.declared.layers.Layer.{Layer}
use Rattle.static_distance.specs.declared.layers.Layers.{Layers}
use Rattle.static_distance.specs.Layers.{choose, or_else, no_layer, older_told, told_from, newest_of, told, AreFalling, IsLinked, HasLayer}

-- ---- what a layer tells

pub has_told : (layer : Layer) (place other : ℕ) → IsSet layer.word place → or_else layer place other ≡ suc layer.level
has_told layer place other set = ap (λ (bit : ℕ). choose bit (suc layer.level) other) set

pub lacks_told : (layer : Layer) (place other : ℕ) → ¬ (IsSet layer.word place) → or_else layer place other ≡ other
lacks_told layer place other clear =
    let low : bit_at layer.word place < 2 = bit_at-lt layer.word place in
    let zero_bit : bit_at layer.word place ≡ 0 = omega (arith, clear) in
    ap (λ (bit : ℕ). choose bit (suc layer.level) other) zero_bit

-- a span that is begun tells nothing
pub none_told : (older : List Layer) (place : ℕ) → told_from older no_layer place ≡ 0
none_told older place = lacks_told no_layer place 0 (is_empty 0 refl place)

-- ---- older layers

-- so many steps are enough, since each leads to an earlier layer
same_steps : (older : List Layer) → AreFalling older → (a b from place : ℕ) → from ≤ a → from ≤ b → older_told older a from place ≡ older_told older b from place
same_steps older falling zero zero from place enough enough' = refl
same_steps older falling zero (suc b) zero place enough enough' = refl
same_steps older falling zero (suc b) (suc before) place enough enough' = absurd (omega arith)
same_steps older falling (suc a) zero zero place enough enough' = refl
same_steps older falling (suc a) zero (suc before) place enough enough' = absurd (omega arith)
same_steps older falling (suc a) (suc b) zero place enough enough' = refl
same_steps older falling (suc a) (suc b) (suc before) place enough enough' =
    let next : ℕ = (get_or older before no_layer).older in
    let less : next ≤ before = falling before in
    ap (λ (m : ℕ). or_else (get_or older before no_layer) place m) (same_steps older falling a b next place (omega arith) (omega arith))

-- what is told from one layer on, by that layer
older_step : (older : List Layer) → AreFalling older → (from before place : ℕ) → from ≡ suc before
    → older_told older from from place ≡ told_from older (get_or older before no_layer) place
older_step older falling from before place is =
    let next : ℕ = (get_or older before no_layer).older in
    let less : next ≤ before = falling before in
    ap (λ (z : ℕ). older_told older z z place) is
    ∙ ap (λ (m : ℕ). or_else (get_or older before no_layer) place m) (same_steps older falling before next next place less (omega arith))

-- where a layer doesn't have the place that is counted, it leads to an older one, which tells the same
module _ (older : List Layer) (falling : AreFalling older) (layer : Layer) (place : ℕ) (clear : ¬ (IsSet layer.word place)) (counted : told_from older layer place ≢ 0) where
  pub leads_on : layer.older ≢ 0
  leads_on none = counted (lacks_told layer place (older_told older layer.older layer.older place) clear ∙ ap (λ (z : ℕ). older_told older z z place) none)

  pub older_passed : (before : ℕ) → layer.older ≡ suc before → told_from older (get_or older before no_layer) place ≡ told_from older layer place
  older_passed before is =
      sym (older_step older falling layer.older before place is) ∙ sym (lacks_told layer place (older_told older layer.older layer.older place) clear)

-- One layer more stands behind them.
module _ (older : List Layer) (o : Layer) (falling : AreFalling older) (leads : o.older ≤ length older) where
  pub falling_still : AreFalling (older ++ o ∷ [])
  falling_still place = elim (cases_lt place (length older)) [
    | inl before ↦ subst (λ (z : Layer). z.older ≤ place) (sym (get_or_append_left older (o ∷ []) no_layer place before)) (falling place)
    | inr after ↦ elim (cases_eq place (length older)) [
      | inl last ↦ subst (λ (z : Layer). z.older ≤ place) (sym (get_or_push older o no_layer place (sym last))) (omega arith)
      | inr past ↦
          let beyond : length (older ++ o ∷ []) ≤ place = omega (arith, length-append older (o ∷ [])) in
          subst (λ (z : Layer). z.older ≤ place) (sym (get_or_past (older ++ o ∷ []) place no_layer beyond)) (omega arith)
    ]
  ]

  steps_kept : (steps from place : ℕ) → from ≤ length older → older_told (older ++ o ∷ []) steps from place ≡ older_told older steps from place
  steps_kept zero from place inside = refl
  steps_kept (suc steps) zero place inside = refl
  steps_kept (suc steps) (suc before) place inside =
      let same : get_or (older ++ o ∷ []) before no_layer ≡ get_or older before no_layer = get_or_append_left older (o ∷ []) no_layer before (omega arith) in
      let less : (get_or older before no_layer).older ≤ before = falling before in
      ap (λ (z : Layer). or_else z place (older_told (older ++ o ∷ []) steps z.older place)) same
      ∙ ap (λ (m : ℕ). or_else (get_or older before no_layer) place m) (steps_kept steps (get_or older before no_layer).older place (omega arith))

  -- what was told from a layer on is told still
  pub told_still : (layer : Layer) (place : ℕ) → layer.older ≤ length older → told_from (older ++ o ∷ []) layer place ≡ told_from older layer place
  told_still layer place inside = ap (λ (m : ℕ). or_else layer place m) (steps_kept layer.older layer.older place inside)

  -- a layer that leads to it, and has no other cells than the word's
  pub new_others : (word level from place : ℕ) → from ≡ suc (length older) → ¬ (IsSet word place)
      → told_from (older ++ o ∷ []) (record { word = word; level = level; older = from }) place ≡ told_from older o place
  new_others word level from place is out =
      let all : List Layer = older ++ o ∷ [] in
      let here : get_or all (length older) no_layer ≡ o = get_or_push older o no_layer (length older) refl in
      lacks_told (record { word = word; level = level; older = from }) place (older_told all from from place) out
      ∙ (older_step all falling_still from (length older) place is
      ∙ (ap (λ (z : Layer). told_from all z place) here ∙ told_still o place leads))

-- ---- one word more

-- the newest layer of a span is another one, and the older ones tell what they told
module _ (old new : Layers) (number : ℕ) (layer : Layer) (inside : number < length old.newest.items) (newest_is : new.newest.items ≡ set old.newest.items number layer) where
  pub newest_here : newest_of new number ≡ layer
  newest_here = ap (λ (xs : List Layer). get_or xs number no_layer) newest_is ∙ get_or-set_same old.newest.items number layer no_layer inside

  pub newest_there : (n : ℕ) → n ≢ number → newest_of new n ≡ newest_of old n
  newest_there n other = ap (λ (xs : List Layer). get_or xs n no_layer) newest_is ∙ get_or-set_other old.newest.items number n layer no_layer other

  pub newest_count : length new.newest.items ≡ length old.newest.items
  newest_count = ap length newest_is ∙ length-set old.newest.items number layer

  told_here : (place : ℕ) → told new number place ≡ told_from new.older.items layer place
  told_here place = ap (λ (z : Layer). told_from new.older.items z place) newest_here

  module _ (linked : IsLinked old number) (more : length old.older.items ≤ length new.older.items) (leads : layer.older ≤ length new.older.items) where
    linked_still : (n : ℕ) → IsLinked old n → IsLinked new n
    linked_still n was = elim (cases_eq n number) [
      | inl same ↦ subst (λ (z : Layer). z.older ≤ length new.older.items) (sym (ap (newest_of new) same ∙ newest_here)) leads
      | inr other ↦ subst (λ (z : Layer). z.older ≤ length new.older.items) (sym (newest_there n other)) (omega arith)
    ]

  -- it goes to the older ones, and the word's layer leads to it
  pub adds_layer : (word level from : ℕ) → IsLinked old number → AreFalling old.older.items → new.older.items ≡ old.older.items ++ newest_of old number ∷ []
      → from ≡ suc (length old.older.items) → layer ≡ record { word = word; level = level; older = from } → HasLayer number word level old new
  adds_layer word level from linked falling items from_is layer_is =
      let before : Layer = newest_of old number in
      let now : Layer = record { word = word; level = level; older = from } in
      let all : List Layer = old.older.items ++ before ∷ [] in
      let here : (place : ℕ) → told new number place ≡ told_from all now place = λ place.
      told_here place ∙ (ap (λ (z : Layer). told_from new.older.items z place) layer_is ∙ ap (λ (xs : List Layer). told_from xs now place) items) in
      let count : length new.older.items ≡ length old.older.items + 1 = ap length items ∙ length-append old.older.items (before ∷ []) in
      let leads : layer.older ≤ length new.older.items = subst (λ (z : Layer). z.older ≤ length new.older.items) (sym layer_is) (omega (arith, count)) in
      record {
        mine = λ place set. here place ∙ has_told now place (older_told all from from place) set;
        others = λ place out. here place ∙ new_others old.older.items before falling linked word level from place from_is out;
        elsewhere = λ n place other was. ap (λ (z : Layer). told_from new.older.items z place) (newest_there n other)
            ∙ (ap (λ (xs : List Layer). told_from xs (newest_of old n) place) items ∙ told_still old.older.items before falling linked (newest_of old n) place was);
        linked = linked_still linked (omega (arith, count)) leads;
        falling = subst AreFalling (sym items) (falling_still old.older.items before falling linked);
        count = newest_count;
        few = omega (arith, count);
      }
