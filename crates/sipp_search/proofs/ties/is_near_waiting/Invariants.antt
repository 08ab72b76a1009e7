use Rattle.std.proofs.Common.{◌≡◌, ℕ, ◌<◌, Some, slice_get}
use Rattle.sipp_search.specs.declared.ties.Waiting.{Waiting}
use Rattle.sipp_search.specs.Ties.{IsNear}
use Rattle.sipp_search.proofs.ties.is_near_waiting.Given as goal

abbrev pub invariant-loop-one : goal.invariant-loop-one
invariant-loop-one l = (j : ℕ) (one : Waiting) → j < l.one-index → slice_get l.ties.waiting.items j ≡ Some one → IsNear one l.place l.time → ⊥
