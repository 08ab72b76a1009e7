use Rattle.std.proofs.Common.{◌≡◌, length}
use Rattle.bucket_queue.proofs.buckets.Buckets.clear.Given as goal

abbrev pub invariant-loop-key : goal.invariant-loop-key
invariant-loop-key l = length l.self.by_key.items ≡ length l.initial.self.by_key.items
