use Rattle.std.proofs.Common.{ℕ, ◌-◌, ◌≤◌}
use Rattle.bucket_queue.specs.Queue.{HasKey}
use Rattle.bucket_queue.specs.Held.{Stands}
use Rattle.bucket_queue.proofs.buckets.Buckets.last_place.Given as goal

abbrev pub invariant-loop-back : goal.invariant-loop-back
invariant-loop-back l = (p other : ℕ) → l.count - l.back ≤ p → Stands l.self.by_key.items l.key p other → ¬ (HasKey l.self.keys.items other l.key)
