-- What stands in the way of a walk, at each time: so much of the others a search has to know.
-- A book of live routes is a source of traffic, and so are the calendars of the cells.
use Rattle.std.specs.Prelude.{◌≡◌, ◌≢◌, ℕ, ◌+◌, ◌==◌, ◌&&◌, Bool, false, List, Option, Some, None}
use Rattle.std.specs.List.{list_any}
use Rattle.fleet_base.specs.declared.grid.Cell.{Cell}
use Rattle.fleet_base.specs.declared.request.Live.{Live}
use Rattle.fleet_base.specs.TimedWalk.{TimedWalk, position}

-- whether somebody is in the cell at the time, and whether somebody goes from the second cell to the first
-- in the step that begins at the time, so that a move from the first to the second is an exchange
pub record Traffic : Type 0 where
  pub is_taken : Cell → ℕ → Bool
  pub is_barred : Cell → Cell → ℕ → Bool

-- nobody is in the walk's cell at any time, and none of its moves is an exchange
pub record IsFreeIn (traffic : Traffic) (w : TimedWalk) : Type 0 where
  pub untaken : (t : ℕ) (c : Cell) → position w t ≡ Some c → traffic.is_taken c t ≡ false
  pub unbarred : (t : ℕ) (c d : Cell) → c ≢ d → position w t ≡ Some c → position w (t + 1) ≡ Some d → traffic.is_barred c d t ≡ false

abbrev pub is_on : Cell → Option Cell → Bool
is_on c None = false
is_on c (Some d) = d.0 == c.0

-- the traffic that the routes of a book make
abbrev pub traffic_of : List Live → Traffic
traffic_of book = record {
  is_taken = λ c t. list_any (λ r. is_on c (position r.walk t)) book;
  is_barred = λ c d t. list_any (λ r. is_on d (position r.walk t) && is_on c (position r.walk (t + 1))) book;
}
