-- An assignment gives each cell, by its number, a calendar. It is a source of traffic, as a book of routes is.
use Rattle.std.specs.Prelude.{◌≡◌, ℕ, List, Option, Some}
use Rattle.fleet_base.specs.declared.request.Record.{Record}
use Rattle.fleet_base.specs.Traffic.{Traffic}
use Rattle.calendars.specs.Records.{covers, is_exchange}

abbrev pub Assignment : Type 0
Assignment = ℕ → List Record

-- the traffic that the calendars make
abbrev pub traffic_by : Assignment → Traffic
traffic_by a = record {
  is_taken = λ c t. covers (a c.0) t;
  is_barred = λ c d t. is_exchange (a c.0) (a d.0) t;
}

-- the assignment has the calendars that are known
abbrev pub Agrees : Assignment → (ℕ → Option (List Record)) → Type 0
Agrees a known = (c : ℕ) (records : List Record) → known c ≡ Some records → a c ≡ records
