use Rattle.std.proofs.Common.{◌≡◌, ◌≢◌, ℕ, suc, ◌+◌, ◌-◌, Some, length}
use Rattle.std.specs.Prelude.{slice_get}
use Rattle.row_words.specs.Words.{IsSet}
use Rattle.static_distance.specs.Levels.{gap}
use Rattle.static_distance.proofs.marking.mark_each.Given as goal

abbrev pub invariant-loop-place : goal.invariant-loop-place
invariant-loop-place l = record {
  count : length l.marks ≡ length l.fn.marks;
  left : (i : ℕ) → IsSet l.rest i → IsSet l.word i;
  marked : (i : ℕ) → IsSet l.word i → ¬ (IsSet l.rest i) → slice_get l.marks (l.first + i) ≡ Some (suc (l.reach - gap (l.column + i) l.toward));
  others : (n : ℕ) → ((i : ℕ) → IsSet l.word i → n ≢ l.first + i) → slice_get l.marks n ≡ slice_get l.fn.marks n;
}

abbrev pub decreases-loop-place : goal.decreases-loop-place
decreases-loop-place l = l.rest
