-- A state is added, or offered an arrival: the arena stays sound.
use Rattle.std.proofs.Common.{arith, subst, sym, ap, ◌∙◌}
use Rattle.std.proofs.lemmas.Option.{same_Some, slice_get_within, get_or_from_slice_get}
use Rattle.std.specs.Prelude.{◌≡◌, ◌≢◌, ℕ, ◌+◌, ◌-◌, ◌<◌, ◌≤◌, false, List, Option, Some, None, IfSome, IfNone, length, slice_get, get_or}
use Rattle.fleet_base.specs.declared.grid.Cell.{Cell}
use Rattle.fleet_base.specs.declared.request.Record.{Record}
use Rattle.fleet_base.specs.Terrain.{Terrain}
use Rattle.calendars.specs.Places.{place_in}
use Rattle.calendars.specs.Records.{covers, InOrder}
use Rattle.safe_intervals.specs.declared.interval.Interval.{Interval}
use Rattle.safe_intervals.specs.Safe.{IsIn, IsGapAt}
use Rattle.static_distance.specs.Distance.{IsDistance}
use Rattle.sipp_search.specs.declared.states.Spot.{Spot}
use Rattle.sipp_search.specs.declared.states.State.{State}
use Rattle.sipp_search.specs.Marks.{spots_of}
use Rattle.sipp_search.specs.Arena.{IsOfArena, IsArena}
use Rattle.sipp_search.specs.Progress.{IsBound}
use Rattle.sipp_search.proofs.Lists.{stands_map, map_stands}
use Rattle.sipp_search.proofs.Chains.{newest_state}
use Rattle.sipp_search.proofs.Entering.{IsStateOf}
use Rattle.sipp_search.proofs.Counted.{place_bounded}
use Rattle.sipp_search.proofs.Places.{same_gap}

-- no state is there for the spot
abbrev pub IsNew : List State → Spot → Type 0
IsNew states to = (i : ℕ) (p : Spot) → slice_get (spots_of states) i ≡ Some p → p.cell ≡ to.cell → p.interval ≢ to.interval

-- What the calendar of a spot's cell tells.
module _ (g : Terrain) (goal : Cell) (horizon : ℕ) (known : ℕ → Option (List Record)) (p : Spot) (of : IsOfArena g goal horizon known p) (records : List Record)
    (is : known p.cell.0 ≡ Some records) where
  pub same_records : of.records ≡ records
  same_records = same_Some of.records records (sym of.known_is ∙ is)

  -- its interval comes after so many of them
  pub gap_by : IsGapAt records horizon p.place p.interval
  gap_by = subst (λ (rs : List Record). IsGapAt rs horizon p.place p.interval) same_records (record { safe = of.safe; place_is = of.place_is })

  pub free_by : (t : ℕ) → IsIn t p.interval → (covers records t ≡ false) × (place_in t records ≡ p.place)
  free_by t inside = (gap_by.safe.free t inside, gap_by.place_is t inside)

-- a state has the way left that its cell has
pub same_left : (g : Terrain) (goal : Cell) (horizon : ℕ) (known : ℕ → Option (List Record)) (states : List State) (newest : List ℕ) (to : Spot) (id : ℕ) (s : State)
    → IsBound g goal → IsArena g goal horizon known (spots_of states) newest → IsDistance g goal to.cell to.left → IsStateOf states to id → slice_get states id ≡ Some s
    → s.spot.left ≡ to.left
same_left g goal horizon known states newest to id s bound arena distance there at =
    let same : there.0 ≡ s = same_Some there.0 s (sym there.1 ∙ at) in
    let cell : s.spot.cell ≡ to.cell = ap (λ (z : State). z.spot.cell) (sym same) ∙ there.2 in
    let mine : IsDistance g goal to.cell s.spot.left =
    subst (λ (z : Cell). IsDistance g goal z s.spot.left) cell (arena.each id s.spot (stands_map (λ (z : State). z.spot) states id s at)).distance in
    bound.once to.cell s.spot.left to.left mine distance

-- the state at the place of a cell, among those after so many records, is that of the interval
module _ (g : Terrain) (goal : Cell) (horizon : ℕ) (known : ℕ → Option (List Record)) (states : List State) (newest : List ℕ) (arena : IsArena g goal horizon known (spots_of states) newest)
    (to : Spot) (of : IsOfArena g goal horizon known to) (order : InOrder of.records) where
  same_in : (i : ℕ) (p : Spot) → slice_get (spots_of states) i ≡ Some p → p.cell ≡ to.cell → IsGapAt of.records horizon p.place p.interval
  same_in i p at cell =
      let is : known p.cell.0 ≡ Some of.records = subst (λ (z : Cell). known z.0 ≡ Some of.records) (sym cell) of.known_is in
      gap_by g goal horizon known p (arena.each i p at) of.records is

  mine : IsGapAt of.records horizon to.place to.interval
  mine = record { safe = of.safe; place_is = of.place_is }

  -- those of the same place are of the same interval
  pub known_there : (o : Option ℕ) → IfSome o (λ j. (s : State) × (slice_get states j ≡ Some s) × (s.spot.cell ≡ to.cell) × (s.spot.place ≡ to.place)) → IfSome o (IsStateOf states to)
  known_there None at = tt
  known_there (Some j) at =
      let gap = same_in j at.0.spot (stands_map (λ (z : State). z.spot) states j at.0 at.1) at.2 in
      let gap' : IsGapAt of.records horizon to.place at.0.spot.interval = subst (λ (n : ℕ). IsGapAt of.records horizon n at.0.spot.interval) at.3 gap in
      (at.0, at.1, at.2, same_gap of.records horizon to.place at.0.spot.interval to.interval order gap' mine)

  -- and none is new whose place is
  pub new_there : (o : Option ℕ) → IfNone o ((i : ℕ) (s : State) → slice_get states i ≡ Some s → s.spot.cell ≡ to.cell → s.spot.place ≢ to.place) → IfNone o (IsNew states to)
  new_there (Some j) none = tt
  new_there None none = λ i p at cell interval.
      (let there = map_stands (λ (z : State). z.spot) states i p at in
      let spot : there.0.spot ≡ p = there.2 in
      let begin : IsIn to.interval.from to.interval = (omega arith, of.safe.some) in
      let inside : IsIn to.interval.from p.interval = subst (λ (z : Interval). IsIn to.interval.from z) (sym interval) begin in
      let place : p.place ≡ to.place = sym ((same_in i p at cell).place_is to.interval.from inside) ∙ of.place_is to.interval.from begin in
      none i there.0 there.1 (ap (λ (z : Spot). z.cell) spot ∙ cell) (ap (λ (z : Spot). z.place) spot ∙ place))

-- the state is one of the cell, and its interval holds the time
abbrev pub IsHolder : List State → Cell → ℕ → ℕ → State → Type 0
IsHolder states c t id s = (slice_get states id ≡ Some s) × (s.spot.cell ≡ c) × IsIn t s.spot.interval

pub holder_read : (states : List State) (c : Cell) (t id : ℕ) (read : State) → (s : State) × (slice_get states id ≡ Some s) × (s.spot.cell ≡ c) × IsIn t s.spot.interval
    → read ≡ get_or states id read → IsHolder states c t id read
holder_read states c t id read there is =
    let mine : read ≡ there.0 = is ∙ get_or_from_slice_get states id there.0 read there.1 in
    subst (λ (z : State). IsHolder states c t id z) (sym mine) (there.1, there.2, there.3)

-- What is known of it.
module _ (g : Terrain) (goal : Cell) (horizon : ℕ) (known : ℕ → Option (List Record)) (states : List State) (newest : List ℕ) (arena : IsArena g goal horizon known (spots_of states) newest)
    (c : Cell) (t id : ℕ) (s : State) (holder : IsHolder states c t id s) where
  pub holder_of : IsOfArena g goal horizon known s.spot
  holder_of = arena.each id s.spot (stands_map (λ (z : State). z.spot) states id s holder.0)

  pub holder_left : (left : ℕ) → IsBound g goal → IsDistance g goal c left → s.spot.left ≡ left
  holder_left left bound distance =
      let mine : IsDistance g goal c s.spot.left = subst (λ (z : Cell). IsDistance g goal z s.spot.left) holder.1 holder_of.distance in
      bound.once c s.spot.left left mine distance

  module _ (records : List Record) (is : known c.0 ≡ Some records) where
    pub holder_gap : IsGapAt records horizon s.spot.place s.spot.interval
    holder_gap = gap_by g goal horizon known s.spot holder_of records (subst (λ (z : Cell). known z.0 ≡ Some records) (sym holder.1) is)

    -- no more records come before it than times
    pub holder_low : InOrder records → s.spot.place ≤ t + 1
    holder_low order = omega (arith, place_bounded records 0 t order, holder_gap.place_is t holder.2)

-- What the newest state of a cell tells.
module _ (g : Terrain) (goal : Cell) (horizon : ℕ) (known : ℕ → Option (List Record)) (states : List State) (newest : List ℕ) (arena : IsArena g goal horizon known (spots_of states) newest)
    (c : Cell) (n : ℕ) (at : slice_get newest c.0 ≡ Some n) (some : 0 < n) where
  pub newest_within : n - 1 < length states
  newest_within = (let state = newest_state states newest c arena.chained n at some in slice_get_within states (n - 1) state.0 state.1)

  pub newest_left : (read : State) → read ≡ get_or states (n - 1) read → IsDistance g goal c read.spot.left
  newest_left read is =
      let state = newest_state states newest c arena.chained n at some in
      let mine : read ≡ state.0 = is ∙ get_or_from_slice_get states (n - 1) state.0 read state.1 in
      let of = arena.each (n - 1) state.0.spot (stands_map (λ (z : State). z.spot) states (n - 1) state.0 state.1) in
      let here : IsDistance g goal c state.0.spot.left = subst (λ (z : Cell). IsDistance g goal z state.0.spot.left) state.2 of.distance in
      subst (λ (z : State). IsDistance g goal c z.spot.left) (sym mine) here
