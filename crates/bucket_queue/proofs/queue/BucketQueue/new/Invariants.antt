use Rattle.std.proofs.Common.{◌≡◌, length}
use Rattle.bucket_queue.proofs.queue.BucketQueue.new.Given as goal

abbrev pub invariant-loop : goal.invariant-loop
invariant-loop l = length l.by_key.items ≡ l.counter
