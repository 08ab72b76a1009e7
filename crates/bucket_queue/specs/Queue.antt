-- What a queue is seen as, and what it gives.
use Rattle.std.specs.Prelude.{◌≡◌, ℕ, ◌<◌, ◌≤◌, List, Option, Some, None, slice_get, slice_set}

-- the key of each id, where it is queued; no queued key is below the floor or above the bound
pub record Queue : Type 0 where
  pub keys : List (Option ℕ)
  pub floor : ℕ
  pub bound : ℕ

-- the id has that key
abbrev pub HasKey : List (Option ℕ) → ℕ → ℕ → Type 0
HasKey keys id key = slice_get keys id ≡ Some (Some key)

-- the id had a least key, which is at most the limit; it is taken, and its key is the new floor
pub record TakesLeast (q next : Queue) (limit id : ℕ) : Type 0 where
  pub key : ℕ
  pub queued : HasKey q.keys id key
  pub in_limit : key ≤ limit
  pub least : (other k : ℕ) → HasKey q.keys other k → key ≤ k
  pub rises : q.floor ≤ key
  pub in_bound : key ≤ q.bound
  pub taken : next ≡ record { keys = slice_set q.keys id None; floor = key; bound = q.bound }

-- nothing is taken, since each queued key is above the limit
pub record TakesNone (q next : Queue) (limit : ℕ) : Type 0 where
  pub above : (id k : ℕ) → HasKey q.keys id k → limit < k
  pub unchanged : next ≡ q
