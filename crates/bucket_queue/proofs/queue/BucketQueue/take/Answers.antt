use Rattle.std.proofs.Common.{arith}
use Rattle.bucket_queue.proofs.QueueLemmas.{takes_least}
use Rattle.bucket_queue.proofs.queue.BucketQueue.take.Goals as goal

pub returns-clause-some : goal.returns-clause-some
returns-clause-some c =
    rw (← c.self.view_is)
    (takes_least c.self.inside.buckets c.take_out-id.new.self c.self.inside.floor c.self.inside.end c.min-end.result c.args.limit c.take_out-id.result c.in_ok-spot.spot c.self.invariant
    c.in_ok-spot.ensures.some (omega (arith, c.in_ok-spot.ensures.some.before)) c.take_out-id.ensures.count c.take_out-id.ensures.keys c.take_out-id.ensures.queued)
