-- What taking from a queue gives.
use Rattle.std.proofs.Common.{◌≡◌, ℕ, ◌-◌, ◌<◌, ◌≤◌, inl, inr, None, length, set, refl, arith}
use Rattle.std.proofs.lemmas.Bool.{cases_lt}
use Rattle.std.proofs.lemmas.Option.{slice_get_within}
use Rattle.bucket_queue.specs.declared.buckets.Buckets.{Buckets}
use Rattle.bucket_queue.specs.declared.buckets.Spot.{Spot}
use Rattle.bucket_queue.specs.Queue.{Queue, HasKey, TakesLeast}
use Rattle.bucket_queue.specs.Held.{IsFirst, IsQueue}

-- no key is below the first one that an id has
least_key : (b : Buckets) (floor above end : ℕ) (spot : Spot) → IsQueue b floor above → IsFirst b floor end spot → (id k : ℕ) → HasKey b.keys.items id k → spot.key ≤ k
least_key b floor above end spot is first id k has = elim (cases_lt k spot.key) [
  | inl before ↦ absurd (first.first k (is.low id k has) before id has)
  | inr after ↦ after
]

-- what a queue of these parts is seen as
abbrev pub seen : Buckets → ℕ → Queue
seen b floor = record { keys = b.keys.items; floor = floor; bound = length b.by_key.items - 1 }

pub takes_least : (b next : Buckets) (floor above end limit id : ℕ) (spot : Spot) → IsQueue b floor above → IsFirst b floor end spot → spot.key ≤ limit
    → length next.by_key.items ≡ length b.by_key.items → next.keys.items ≡ set b.keys.items id None → HasKey b.keys.items id spot.key
    → TakesLeast (seen b floor) (seen next spot.key) limit id
takes_least b next floor above end limit id spot is first low count keys has = record {
  key = spot.key;
  queued = has;
  in_limit = low;
  least = least_key b floor above end spot is first;
  rises = first.since;
  in_bound = (let lt : spot.key < length b.by_key.items = slice_get_within _ _ _ first.last.stands.at_key in omega arith);
  taken = rw (keys, count) refl;
}
