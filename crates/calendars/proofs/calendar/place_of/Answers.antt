use Rattle.std.proofs.Common.{rules}
use Rattle.std.specs.Prelude.{nat_le}
use Rattle.std.proofs.lemmas.List.Sorted.{IsPartitionPoint-from_clause}
use Rattle.calendars.proofs.PlaceLemmas.{place_found, partitioned}
use Rattle.calendars.proofs.calendar.place_of.Goals as goal

pub returns-clause-place : goal.returns-clause-place
returns-clause-place c =
    place_found c.args.records.now c.args.time _ c.partition_point.ensures.bound
    (IsPartitionPoint-from_clause (λ r. nat_le r.from c.args.time) c.args.records.now _ c.partition_point.ensures.partitioned
    (partitioned c.args.records.now c.args.time c.requires) (λ a r f' k. search rules))
