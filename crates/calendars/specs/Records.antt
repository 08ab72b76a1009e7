-- The records of one cell: in rising order, without overlap; which times they cover, and which moves are exchanges.
use Rattle.std.specs.Prelude.{◌≡◌, ℕ, ◌+◌, ◌≤◌, ◌==◌, ◌&&◌, ◌||◌, not, nat_lt, nat_le, Bool, true, false, List, [], ◌∷◌, if◌then◌else◌, filter}
use Rattle.std.specs.List.{list_any}
use Rattle.fleet_base.specs.declared.request.Record.{Record}
use Rattle.fleet_base.specs.declared.request.RouteId.{RouteId}
use Rattle.fleet_base.specs.declared.request.TheConstants.{FOREVER}
use Rattle.fleet_base.specs.History.{same_id}

-- the record holds the time: one that ends at `FOREVER` never ends
abbrev pub holds_time : ℕ → Record → Bool
holds_time t r = nat_le r.from t && (nat_le t r.to || (r.to == FOREVER))

-- some record of the calendar holds the time
abbrev pub covers : List Record → ℕ → Bool
covers records t = list_any (holds_time t) records

-- records that begin at `low` or later, in rising order, each over before the next one begins
abbrev pub InOrderFrom : ℕ → List Record → Type 0
InOrderFrom low [] = Unit {0}
InOrderFrom low (r ∷ rs) = (low ≤ r.from) × (r.from ≤ r.to) × (r.to ≡ FOREVER → rs ≡ []) × InOrderFrom (r.to + 1) rs

-- what a calendar is
abbrev pub InOrder : List Record → Type 0
InOrder records = InOrderFrom 0 records

-- the list with the record put in before the first one that begins later
abbrev pub with_record : Record → List Record → List Record
with_record a [] = a ∷ []
with_record a (r ∷ rs) = if nat_lt a.from r.from then a ∷ r ∷ rs else r ∷ with_record a rs

-- the records of other ids
abbrev pub without_id : RouteId → List Record → List Record
without_id id records = filter (λ r. not (same_id r.id id)) records

-- no record of the list covers a time that this record holds
abbrev pub IsApart : Record → List Record → Type 0
IsApart a records = (t : ℕ) → holds_time t a ≡ true → covers records t ≡ false

-- a record of that id begins at the time
abbrev pub begins_as : ℕ → RouteId → Record → Bool
begins_as t id r = (r.from == t) && same_id r.id id

-- a record ends at the time, and one of the same id begins in the other list just after
abbrev pub ends_into : List Record → ℕ → Record → Bool
ends_into others t r = (r.to == t) && list_any (begins_as (t + 1) r.id) others

-- a move in the step that begins at t, from the cell of the first list to that of the second, would be an exchange:
-- some route is in the second cell until t, and in the first one from t + 1 on
abbrev pub is_exchange : List Record → List Record → ℕ → Bool
is_exchange from to t = list_any (ends_into from t) to
