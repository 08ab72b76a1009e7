-- The gaps between the records of a cell.
use Rattle.std.specs.Prelude.{◌≡◌, ℕ, ◌+◌, ◌-◌, ◌<◌, List, Some, slice_get}
use Rattle.fleet_base.specs.declared.request.Record.{Record}

-- the gap after so many records begins then: just after the last of them, or at 0 where there are none
pub record BeginsAfter (records : List Record) (place begin : ℕ) : Type 0 where
  pub none : place ≡ 0 → begin ≡ 0
  pub last : (r : Record) → 0 < place → slice_get records (place - 1) ≡ Some r → begin ≡ r.to + 1
