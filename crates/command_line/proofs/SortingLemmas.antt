-- Reading the words of a command line one by one.
use Rattle.std.proofs.Common.{◌≡◌, Bool, true, false, List, [], ◌∷◌, ◌++◌, Option, Some, None, refl, sym, ap, ◌∙◌, append_assoc}
use Rattle.std.proofs.lemmas.List.{append-nil}
use Rattle.command_line.specs.declared.sorting.WordKind.TheVariants.{Ends, Gives, Takes, Wrong, Plain}
use Rattle.command_line.specs.Sorting.{Word, Sorted, sorted_from, kind_of, begins_with_dash, and_plain, and_option}
use Rattle.command_line.specs.SortingView.{in_front, still}

option_first : (p : List Word) (o : List (Word × Word)) (n v : Word) (r : Option Sorted) → in_front p o (and_option n v r) ≡ in_front p (o ++ (n, v) ∷ []) r
option_first p o n v None = refl
option_first p o n v (Some s) = ap (λ (os : List (Word × Word)). Some (record { plain = p ++ s.plain; options = os })) (sym (append_assoc o ((n, v) ∷ []) s.options))

plain_first : (p : List Word) (o : List (Word × Word)) (w : Word) (r : Option Sorted) → in_front p o (and_plain w r) ≡ in_front (p ++ w ∷ []) o r
plain_first p o w None = refl
plain_first p o w (Some s) = ap (λ (ps : List Word). Some (record { plain = ps; options = o ++ s.options })) (sym (append_assoc p (w ∷ []) s.plain))

abbrev sorted_as : List Word → List (Word × Word) → Option Sorted
sorted_as p o = Some (record { plain = p; options = o })

same_sorted : (p q : List Word) (o r : List (Word × Word)) → p ≡ q → o ≡ r → sorted_as p o ≡ sorted_as q r
same_sorted p q o r e f = rw (e, f) refl

-- the same, as equations on what was before and what is now
module _ (p q : List Word) (o r : List (Word × Word)) (ended : Bool) (waiting : Option Word) (w : Word) (ws : List Word) where
  pub no_value : (n : Word) → ended ≡ false → waiting ≡ Some n → begins_with_dash w ≡ true → in_front p o (still ended waiting (w ∷ ws)) ≡ None
  unfolding sorted_from
  no_value n e f g = rw (e, f, g) refl

  pub value : (n : Word) → ended ≡ false → waiting ≡ Some n → begins_with_dash w ≡ false → q ≡ p → r ≡ o ++ (n, w) ∷ [] → in_front p o (still ended waiting (w ∷ ws)) ≡ in_front q r (still ended None ws)
  unfolding sorted_from
  value n e f g h k = rw (e, f, g, h, k) (option_first p o n w (sorted_from ws None))

  pub wrong : ended ≡ false → waiting ≡ None → kind_of w ≡ Wrong → in_front p o (still ended waiting (w ∷ ws)) ≡ None
  unfolding sorted_from
  wrong e f g = rw (e, f, g) refl

  pub ends : ended ≡ false → waiting ≡ None → kind_of w ≡ Ends → in_front p o (still ended waiting (w ∷ ws)) ≡ in_front p o (still true waiting ws)
  unfolding sorted_from
  ends e f g = rw (e, f, g) refl

  pub gives : (n v : Word) → ended ≡ false → waiting ≡ None → kind_of w ≡ Gives n v → r ≡ o ++ (n, v) ∷ [] → in_front p o (still ended waiting (w ∷ ws)) ≡ in_front p r (still ended waiting ws)
  unfolding sorted_from
  gives n v e f g k = rw (e, f, g, k) (option_first p o n v (sorted_from ws None))

  pub takes : (n : Word) → ended ≡ false → waiting ≡ None → kind_of w ≡ Takes n → in_front p o (still ended waiting (w ∷ ws)) ≡ in_front p o (still ended (Some n) ws)
  unfolding sorted_from
  takes n e f g = rw (e, f, g) refl

  pub plain : ended ≡ false → waiting ≡ None → kind_of w ≡ Plain → q ≡ p ++ w ∷ [] → in_front p o (still ended waiting (w ∷ ws)) ≡ in_front q o (still ended waiting ws)
  unfolding sorted_from
  plain e f g h = rw (e, f, g, h) (plain_first p o w (sorted_from ws None))

module _ (p : List Word) (o : List (Word × Word)) (ended : Bool) (waiting : Option Word) (ws : List Word) (whole : Option Sorted) where
  pub unfinished : (n : Word) → ws ≡ [] → waiting ≡ Some n → in_front p o (still ended waiting ws) ≡ whole → None ≡ whole
  unfolding sorted_from
  unfinished n e f so_far = sym (by_end ended) ∙ so_far
    where
      by_end : (b : Bool) → in_front p o (still b waiting ws) ≡ None
      by_end true = rw f refl
      by_end false = rw (e, f) refl

  pub finished : ws ≡ [] → waiting ≡ None → in_front p o (still ended waiting ws) ≡ whole → Some (record { plain = p; options = o }) ≡ whole
  unfolding sorted_from
  finished e f so_far = sym (by_end ended) ∙ so_far
    where
      by_end : (b : Bool) → in_front p o (still b waiting ws) ≡ Some (record { plain = p; options = o })
      by_end true = rw (f, e) (same_sorted (p ++ []) p (o ++ []) o (append-nil p) (append-nil o))
      by_end false = rw (e, f) (same_sorted (p ++ []) p (o ++ []) o (append-nil p) (append-nil o))
