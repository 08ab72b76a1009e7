-- The journal of a history: its entries by era, then stamp, then caller, with a cancel last in its era.
use Rattle.std.specs.Prelude.{◌≡◌, ℕ, ◌<◌, ◌≤◌, ◌⊎◌, ◌==◌, List, Option, Some, None, AllPairs, IsPermutation, filter}
use Rattle.fleet_base.specs.declared.request.RouteId.{RouteId}
use Rattle.fleet_base.specs.declared.request.Entry.{Entry}
use Rattle.fleet_base.specs.Terrain.{Terrain}
use Rattle.fleet_base.specs.History.{reply_of, caller_of, era_of, book_after, IsStrong, IsLegal}

-- by stamp, then caller; a cancel stands last
abbrev pub ComesFirst : Option RouteId → Option RouteId → Type 0
ComesFirst (Some a) (Some b) = (a.stamp < b.stamp) ⊎ ((a.stamp ≡ b.stamp) × (a.caller ≤ b.caller))
ComesFirst None (Some b) = ⊥
ComesFirst a None = Unit {0}

abbrev pub Precedes : Entry → Entry → Type 0
Precedes x y = (era_of x < era_of y) ⊎ ((era_of x ≡ era_of y) × ComesFirst (reply_of x) (reply_of y))

abbrev pub IsInOrder : List Entry → Type 0
IsInOrder entries = AllPairs Precedes entries

pub record IsJournal (entries journal : List Entry) : Type 0 where
  pub same : IsPermutation entries journal
  pub in_order : IsInOrder journal

-- what holds of the journal of a strong list
pub record KeepsTheHistory (g : Terrain) (horizon : ℕ) (entries journal : List Entry) : Type 0 where
  pub legal : IsLegal g horizon journal
  pub strong : IsStrong g horizon journal
  pub callers : (c : ℕ) → filter (λ e. caller_of e == c) journal ≡ filter (λ e. caller_of e == c) entries
  pub routes : IsPermutation (book_after entries) (book_after journal)
