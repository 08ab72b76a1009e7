use Rattle.std.proofs.Common.{rules, arith}
use Rattle.std.specs.Prelude.{nat_le}
use Rattle.std.proofs.lemmas.List.Sorted.{IsPartitionPoint-from_clause}
use Rattle.safe_intervals.proofs.ListLemmas.{begun_first, none_begun, found_in_last, none_holds}
use Rattle.safe_intervals.proofs.interval.interval_at.Goals as goal

pub returns-in_err-place : goal.returns-in_err-place
returns-in_err-place c =
    rw c.from_residual.ensures (none_begun c.args.list.now c.args.time c.requires c.partition_point-begun.result (IsPartitionPoint-from_clause (λ i. nat_le i.from c.args.time) c.args.list.now _ c.partition_point-begun.ensures.partitioned
    (begun_first c.args.list.now c.args.time c.requires) (λ a r f' k. search rules)) (omega (arith, c.in_err-place.ensures)))

pub returns-then-time-list : goal.returns-then-time-list
returns-then-time-list c =
    rw c.in_ok-place.ensures.1 (found_in_last c.args.list.now c.args.time c.requires c.partition_point-begun.result _ (IsPartitionPoint-from_clause (λ i. nat_le i.from c.args.time) c.args.list.now _ c.partition_point-begun.ensures.partitioned
    (begun_first c.args.list.now c.args.time c.requires) (λ a r f' k. search rules)) c.partition_point-begun.ensures.bound
    c.in_ok-place.ensures.0 (rw c.in_ok-place.ensures.1 at c.if-time-list.true))

pub returns-else-time-list : goal.returns-else-time-list
returns-else-time-list c =
    none_holds c.args.list.now c.args.time c.requires c.partition_point-begun.result _ (IsPartitionPoint-from_clause (λ i. nat_le i.from c.args.time) c.args.list.now _ c.partition_point-begun.ensures.partitioned
    (begun_first c.args.list.now c.args.time c.requires) (λ a r f' k. search rules)) c.partition_point-begun.ensures.bound
    c.in_ok-place.ensures.0 (rw c.in_ok-place.ensures.1 at c.if-time-list.false)
