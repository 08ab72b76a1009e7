-- Buckets of ids, and the key of each queued id.
use Rattle.std.specs.Prelude.{◌≡◌, ℕ, ◌<◌, ◌≤◌, List, length, Option, Some, slice_get, Vec}
use Rattle.std.specs.Global.{Global}
use Rattle.bucket_queue.specs.declared.buckets.Buckets.{Buckets}
use Rattle.bucket_queue.specs.declared.buckets.Spot.{Spot}
use Rattle.bucket_queue.specs.Queue.{HasKey}

-- the bucket of that number has the id at that place
pub record Stands (buckets : List (Vec ℕ Global)) (key place id : ℕ) : Type 0 where
  pub bucket : Vec ℕ Global
  pub at_key : slice_get buckets key ≡ Some bucket
  pub at_place : slice_get bucket.items place ≡ Some id

-- each queued id stands in the bucket of its key
abbrev pub AreThere : List (Vec ℕ Global) → List (Option ℕ) → Type 0
AreThere buckets keys = (id key : ℕ) → HasKey keys id key → (place : ℕ) × Stands buckets key place id

-- and the ids fit into 32 bits
pub record IsHeld (b : Buckets) : Type 0 where
  pub there : AreThere b.by_key.items b.keys.items
  pub few : length b.keys.items ≤ 4294967295

-- no id has that key
abbrev pub HasNone : List (Option ℕ) → ℕ → Type 0
HasNone keys key = (id : ℕ) → ¬ (HasKey keys id key)

-- the bucket has at that place an id that has its key, and none later
pub record IsLast (b : Buckets) (key place : ℕ) : Type 0 where
  pub id : ℕ
  pub stands : Stands b.by_key.items key place id
  pub has : HasKey b.keys.items id key
  pub last : (p other : ℕ) → place < p → Stands b.by_key.items key p other → ¬ (HasKey b.keys.items other key)

-- of the keys from `from` up to `end` that of the spot is the first that an id has
pub record IsFirst (b : Buckets) (from end : ℕ) (spot : Spot) : Type 0 where
  pub since : from ≤ spot.key
  pub before : spot.key < end
  pub last : IsLast b spot.key spot.place
  pub first : (k : ℕ) → from ≤ k → k < spot.key → HasNone b.keys.items k

-- the buckets and the keys of a queue: no key is below the floor, or at the end or above it; the floor is a bucket, and
-- there are buckets up to the end
pub record IsQueue (b : Buckets) (floor end : ℕ) : Type 0 where
  pub held : IsHeld b
  pub low : (id key : ℕ) → HasKey b.keys.items id key → floor ≤ key
  pub high : (id key : ℕ) → HasKey b.keys.items id key → key < end
  pub within : floor < length b.by_key.items
  pub used : end ≤ length b.by_key.items
