use Rattle.std.proofs.Common.{rules, []}
use Rattle.std.specs.Prelude.{nat_le}
use Rattle.std.proofs.lemmas.List.Sorted.{IsPartitionPoint-from_clause}
use Rattle.lane_runs.proofs.NumberLemmas.{partitioned, some_before, lane_at}
use Rattle.lane_runs.proofs.numbers.lane_with.Goals as goal

pub overflow_sub-result : goal.overflow_sub-result
overflow_sub-result c =
    some_before c.args.lanes.now c.args.number _ (record { first = 0; orders = [] }) c.requires.numbered c.requires.within c.partition_point-place.ensures.bound
    (IsPartitionPoint-from_clause (λ l. nat_le l.first c.args.number) c.args.lanes.now _ c.partition_point-place.ensures.partitioned
    (partitioned c.args.lanes.now c.args.number c.requires.numbered) (λ a r f' k. search rules))

pub returns : goal.returns
returns c =
    lane_at c.args.lanes.now c.args.number _ _ c.index-lanes-place.result c.requires.numbered c.requires.within c.partition_point-place.ensures.bound
    (IsPartitionPoint-from_clause (λ l. nat_le l.first c.args.number) c.args.lanes.now _ c.partition_point-place.ensures.partitioned
    (partitioned c.args.lanes.now c.args.number c.requires.numbered) (λ a r f' k. search rules)) c.index-lanes-place.is
