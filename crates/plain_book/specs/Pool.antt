-- Calendars that stand in a pool: each cell has a place there.
use Rattle.std.specs.Prelude.{◌≡◌, ℕ, suc, ◌<◌, Bool, true, List, [], length, map, All, slice_index_or, slice_set}
use Rattle.fleet_base.specs.declared.request.Record.{Record}
use Rattle.plain_book.specs.Kept.{records_at}

-- the calendar of each cell, by its place
abbrev pub calendars_in : List (List Record) → List ℕ → List (List Record)
calendars_in pool places = map (records_at pool) places

-- the place of the cell of that number
abbrev pub place_of : List ℕ → ℕ → ℕ
place_of places c = slice_index_or places c 0

-- each cell has a place; the first place has an empty calendar, and no two cells share another one
pub record IsPool (places : List ℕ) (pool : List (List Record)) : Type 0 where
  pub within : All (λ n. n < length pool) places
  pub some : 0 < length pool
  pub empty : records_at pool 0 ≡ []
  pub apart : (c d : ℕ) → 0 < place_of places c → place_of places c ≡ place_of places d → c ≡ d

-- with few cells each has a place of its own, in the order of the cells
abbrev pub AreInOrder : Bool → List ℕ → Type 0
AreInOrder few places = few ≡ true → (c : ℕ) → c < length places → place_of places c ≡ suc c

-- the cell has the next place of the pool, and all others what they had
pub record GetsNext (c : ℕ) (old : List ℕ) (old_pool : List (List Record)) (new : List ℕ) (new_pool : List (List Record)) : Type 0 where
  pub places : new ≡ slice_set old c (length old_pool)
  pub more : length new_pool ≡ suc (length old_pool)
