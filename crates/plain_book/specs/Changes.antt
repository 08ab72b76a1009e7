-- What changes in the calendars when records are put in, and when those of one id are taken out.
use Rattle.std.specs.Prelude.{◌≡◌, ◌≢◌, ℕ, ◌<◌, ◌≤◌, ◌⊎◌, true, false, List, length, All, AllPairs}
use Rattle.fleet_base.specs.declared.grid.Cell.{Cell}
use Rattle.fleet_base.specs.declared.request.RouteId.{RouteId}
use Rattle.fleet_base.specs.declared.request.Record.{Record}
use Rattle.fleet_base.specs.declared.request.Stay.{Stay}
use Rattle.fleet_base.specs.declared.request.Live.{Live}
use Rattle.fleet_base.specs.Stays.{IsStay}
use Rattle.fleet_base.specs.Order.{IsAmong}
use Rattle.calendars.specs.Records.{IsApart, holds_time}
use Rattle.plain_book.specs.Kept.{records_at, stay_in, IsPlaced}

-- the stays are in different cells or share no time
abbrev pub ShareNoTime : Stay → Stay → Type 0
ShareNoTime a b = a.cell ≡ b.cell → (t : ℕ) → holds_time t b.span ≡ true → holds_time t a.span ≡ false

-- each stay can be put in beside what is there, and beside the others
pub record FitIn (calendars : List (List Record)) (stays : List Stay) : Type 0 where
  pub inside : All (λ s. s.cell.0 < length calendars) stays
  pub proper : All (λ s. s.span.from ≤ s.span.to) stays
  pub free : All (λ s. IsApart s.span (records_at calendars s.cell.0)) stays
  pub apart : AllPairs ShareNoTime stays

-- nothing is lost, and what is new are records of these stays
pub record HasSome (old new : List (List Record)) (stays : List Stay) : Type 0 where
  pub kept : (c : ℕ) (r : Record) → IsAmong r (records_at old c) → IsAmong r (records_at new c)
  pub only : (c : ℕ) (r : Record) → IsAmong r (records_at new c) → IsAmong r (records_at old c) ⊎ IsAmong (stay_in c r) stays

-- and each of these stays has its record
pub record HasAll (old new : List (List Record)) (stays : List Stay) : Type 0 where
  pub rest : HasSome old new stays
  pub put : (s : Stay) → IsAmong s stays → IsAmong s.span (records_at new s.cell.0)

-- nothing is lost, and what is new are records of the route's stays
pub record HasSomeOf (route : Live) (old new : List (List Record)) : Type 0 where
  pub kept : (c : ℕ) (r : Record) → IsAmong r (records_at old c) → IsAmong r (records_at new c)
  pub only : (c : ℕ) (r : Record) → IsAmong r (records_at new c) → IsAmong r (records_at old c) ⊎ IsStay route.walk route.id (stay_in c r)

-- and the route has all its records
pub record HasAllOf (route : Live) (old new : List (List Record)) : Type 0 where
  pub rest : HasSomeOf route old new
  pub placed : IsPlaced new route

-- records of one id alone are gone, and in these cells all of them
pub record LacksId (id : RouteId) (cells : List Cell) (old new : List (List Record)) : Type 0 where
  pub kept : (c : ℕ) (r : Record) → IsAmong r (records_at old c) → r.id ≢ id → IsAmong r (records_at new c)
  pub only : (c : ℕ) (r : Record) → IsAmong r (records_at new c) → IsAmong r (records_at old c)
  pub gone : (c : Cell) (r : Record) → IsAmong c cells → IsAmong r (records_at new c.0) → r.id ≢ id
