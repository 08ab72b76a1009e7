use Rattle.std.proofs.Common.{ℕ, ◌<◌, ◌≤◌}
use Rattle.bucket_queue.specs.Held.{HasNone}
use Rattle.bucket_queue.proofs.buckets.Buckets.first_spot.Given as goal

abbrev pub invariant-loop-key : goal.invariant-loop-key
invariant-loop-key l = (k : ℕ) → l.from ≤ k → k < l.key → HasNone l.self.keys.items k
