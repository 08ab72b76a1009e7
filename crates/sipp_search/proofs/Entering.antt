-- The moves out of a spot into a cell beside it: into one interval, into all that come after so many records, and into all.
use Rattle.std.proofs.Common.{arith, subst, sym, ap, ◌∙◌, refl, inl, inr, set}
use Rattle.std.proofs.lemmas.Bool.{cases_lt, false≢true}
use Rattle.std.specs.Prelude.{◌≡◌, ℕ, ◌+◌, ◌-◌, ◌<◌, ◌≤◌, false, List, Some, length, slice_get, min, max}
use Rattle.fleet_base.specs.declared.grid.Cell.{Cell}
use Rattle.fleet_base.specs.declared.request.Record.{Record}
use Rattle.fleet_base.specs.declared.request.Request.{Request}
use Rattle.fleet_base.specs.Terrain.{Terrain}
use Rattle.calendars.specs.Places.{place_in}
use Rattle.calendars.specs.Records.{covers, InOrder}
use Rattle.calendars.specs.Assignments.{Assignment}
use Rattle.calendars.proofs.PlaceLemmas.{place_within}
use Rattle.safe_intervals.specs.declared.interval.Interval.{Interval}
use Rattle.safe_intervals.specs.Safe.{IsIn, IsSafeInterval, IsGapAt, NoneSafeAt}
use Rattle.safe_intervals.proofs.Counting.{more_begun}
use Rattle.static_distance.specs.Distance.{IsDistance}
use Rattle.sipp_search.specs.declared.states.Spot.{Spot}
use Rattle.sipp_search.specs.declared.states.State.{State}
use Rattle.sipp_search.specs.Marks.{spots_of, offered, offered_mark}
use Rattle.sipp_search.specs.Entry.{CanEnter, IsEntry}
use Rattle.sipp_search.specs.Progress.{IsBound, IsWithin, MayMove, AreSpots, IsUnderWay, HasSeen, Improves}
use Rattle.sipp_search.specs.Visiting.{IsSource, HasLed, HasLedPast, HasLedInto}
use Rattle.sipp_search.proofs.Lists.{stands_map}
use Rattle.sipp_search.proofs.Exchanges.{earliest_least}
use Rattle.sipp_search.proofs.Visits.{visited_none, visited_late, visited_known, visited_offered, entered_into, led_same}
use Rattle.sipp_search.proofs.Counted.{begun_covers}
use Rattle.sipp_search.proofs.Places.{more_later}

-- the state at that place is one of the spot's cell and interval
abbrev pub IsStateOf : List State → Spot → ℕ → Type 0
IsStateOf states to id = (s : State) × (slice_get states id ≡ Some s) × (s.spot.cell ≡ to.cell) × (s.spot.interval ≡ to.interval)

-- One move: the search goes on, and each move into the interval was seen.
module _ (g : Terrain) (q : Request) (horizon : ℕ) (a : Assignment) (cursor x : ℕ) (states : List State) (from : Spot) (r : ℕ) (to : Spot)
    (distance : IsDistance g q.goal to.cell to.left) (way : IsUnderWay g q horizon a states cursor x) where
  abbrev pub IsEntered : List State → Type 0
  IsEntered new = IsUnderWay g q horizon a new cursor x × HasLedInto g q horizon a new from r to.cell to.interval

  pub entered_never : ((t : ℕ) → ¬ (CanEnter (a from.cell.0) (a to.cell.0) from.interval to.interval r t)) → IsEntered states
  entered_never never =
      let visited = visited_none g q horizon a cursor x states from r (a from.cell.0) (a to.cell.0) to way never in
      (visited.0, entered_into g q horizon a states from r to (a from.cell.0) (a to.cell.0) refl refl distance visited.1)

  module _ (e : ℕ) (is : e ≡ max to.interval.from (r + 1)) where
    least : (t : ℕ) → CanEnter (a from.cell.0) (a to.cell.0) from.interval to.interval r t → e ≤ t + 1
    least = earliest_least (a from.cell.0) (a to.cell.0) from.interval to.interval r e is

    pub entered_late : horizon < e + to.left → IsEntered states
    entered_late late =
        let visited = visited_late g q horizon a cursor x states from r (a from.cell.0) (a to.cell.0) to e way least late in
        (visited.0, entered_into g q horizon a states from r to (a from.cell.0) (a to.cell.0) refl refl distance visited.1)

    module _ (source : IsSource g q horizon a from r to.cell) (spots : AreSpots g q horizon a (spots_of states)) where
      module _ (id : ℕ) (there : IsStateOf states to id) where
        source' : IsSource g q horizon a from r there.0.spot.cell
        source' = subst (λ (z : Cell). IsSource g q horizon a from r z) (sym there.2) source

        distance' : IsDistance g q.goal there.0.spot.cell there.0.spot.left
        distance' = spots.distance id there.0.spot (stands_map (λ (z : State). z.spot) states id there.0 there.1)

        same_cell : a there.0.spot.cell.0 ≡ a to.cell.0
        same_cell = ap (λ (z : Cell). a z.0) there.2

        -- the state has the arrival already
        pub entered_before : offered_mark there.0.mark e ≡ there.0.mark → IsEntered states
        entered_before kept =
            let least' : (t : ℕ) → CanEnter (a from.cell.0) (a to.cell.0) from.interval there.0.spot.interval r t → e ≤ t + 1 =
            subst (λ (z : Interval). (t : ℕ) → CanEnter (a from.cell.0) (a to.cell.0) from.interval z r t → e ≤ t + 1) (sym there.3) least in
            let visited = visited_known g q horizon a cursor x states from r (a from.cell.0) (a to.cell.0) id there.0 there.1 refl same_cell source' spots e kept least' way in (
              visited.0,
              led_same g q horizon a states from r there.0.spot.cell to.cell there.0.spot.interval to.interval there.2 there.3
                  (entered_into g q horizon a states from r there.0.spot (a from.cell.0) (a to.cell.0) refl same_cell distance' visited.1),
            )

        -- it is offered the arrival
        pub entered_first : IsEntry (a from.cell.0) (a to.cell.0) from.interval to.interval r e → IsBound g q.goal → cursor ≤ e + to.left → e + to.left ≤ horizon
            → IsEntered (set states id (offered there.0 e))
        entered_first entry bound after in_time =
            let mine : IsDistance g q.goal to.cell there.0.spot.left = subst (λ (z : Cell). IsDistance g q.goal z there.0.spot.left) there.2 distance' in
            let left : there.0.spot.left ≡ to.left = bound.once to.cell there.0.spot.left to.left mine distance in
            let entry' : IsEntry (a from.cell.0) (a to.cell.0) from.interval there.0.spot.interval r e =
            subst (λ (z : Interval). IsEntry (a from.cell.0) (a to.cell.0) from.interval z r e) (sym there.3) entry in
            let visited = visited_offered g q horizon a cursor x states from r (a from.cell.0) (a to.cell.0) id e there.0 there.1 refl same_cell source' spots entry' way
            (omega arith) (omega arith) in (
              visited.0,
              led_same g q horizon a (set states id (offered there.0 e)) from r there.0.spot.cell to.cell there.0.spot.interval to.interval there.2 there.3
                  (entered_into g q horizon a (set states id (offered there.0 e)) from r there.0.spot (a from.cell.0) (a to.cell.0) refl same_cell distance' visited.1),
            )

-- The moves that arrive after so many records or more, but before so many others.
abbrev pub HasLedBetween : Terrain → Request → ℕ → Assignment → List State → Spot → ℕ → Cell → ℕ → ℕ → Type 0
HasLedBetween g q horizon a states from r c first last = (t k : ℕ) → r ≤ t → t ≤ from.interval.to → first ≤ place_in (t + 1) (a c.0) → place_in (t + 1) (a c.0) < last
    → MayMove g a from.cell c t → IsWithin g q.goal c k → t + 1 + k ≤ horizon → HasSeen states c (t + 1)

-- no move out of the spot that is of use arrives later
abbrev pub IsLastArrival : Terrain → Request → ℕ → Spot → Cell → ℕ → Type 0
IsLastArrival g q horizon from c last = (t k : ℕ) → t ≤ from.interval.to → IsWithin g q.goal c k → t + 1 + k ≤ horizon → t + 1 ≤ last

-- who leaves has left by then, and the way that is left ends by the horizon
pub last_arrival : (g : Terrain) (q : Request) (horizon : ℕ) (from : Spot) (c : Cell) (left room last : ℕ) → IsDistance g q.goal c left → horizon ≤ room + left
    → last ≡ min room (from.interval.to + 1) → IsLastArrival g q horizon from c last
last_arrival g q horizon from c left room last distance rest is t k until near in_time = omega (arith, distance.least near.left near.way, near.below)

module _ (g : Terrain) (q : Request) (horizon : ℕ) (a : Assignment) (from : Spot) (r : ℕ) (c : Cell) where
  pub none_between : (states : List State) (first : ℕ) → HasLedBetween g q horizon a states from r c first first
  none_between states first t k since until low high move near in_time = absurd (omega arith)

  module _ (records : List Record) (is : a c.0 ≡ records) where
    -- the moves into the interval that comes next were seen
    pub between_more : (old new : List State) (first place : ℕ) (i : Interval) → Improves old new → HasLedBetween g q horizon a old from r c first place
        → HasLedInto g q horizon a new from r c i → ((t : ℕ) → t ≤ horizon → covers records t ≡ false → place_in t records ≡ place → IsIn t i)
        → HasLedBetween g q horizon a new from r c first (place + 1)
    between_more old new first place i better before led lands t k since until low high move near in_time = elim (cases_lt (place_in (t + 1) (a c.0)) place) [
      | inl less ↦ better.seen c (t + 1) (before t k since until low less move near in_time)
      | inr next ↦
          let free : covers records (t + 1) ≡ false = rw is at move.untaken in
          let at : place_in (t + 1) records ≡ place_in (t + 1) (a c.0) = ap (λ (rs : List Record). place_in (t + 1) rs) (sym is) in
          led t k since until (lands (t + 1) (omega arith) free (omega arith)) move near in_time
    ]

    -- no interval comes next
    pub between_none : (states : List State) (first place : ℕ) → HasLedBetween g q horizon a states from r c first place → NoneSafeAt records horizon place
        → HasLedBetween g q horizon a states from r c first (place + 1)
    between_none states first place before none t k since until low high move near in_time = elim (cases_lt (place_in (t + 1) (a c.0)) place) [
      | inl less ↦ before t k since until low less move near in_time
      | inr next ↦
          let free : covers records (t + 1) ≡ false = rw is at move.untaken in
          let at : place_in (t + 1) records ≡ place_in (t + 1) (a c.0) = ap (λ (rs : List Record). place_in (t + 1) rs) (sym is) in
          absurd (none (t + 1) (omega arith) free (omega arith))
    ]

    -- the interval that comes next is over before a move could end in it
    pub between_over : (states : List State) (first place : ℕ) (i : Interval) → HasLedBetween g q horizon a states from r c first place → i.to < max i.from (r + 1)
        → ((t : ℕ) → t ≤ horizon → covers records t ≡ false → place_in t records ≡ place → IsIn t i) → HasLedBetween g q horizon a states from r c first (place + 1)
    between_over states first place i before over lands t k since until low high move near in_time = elim (cases_lt (place_in (t + 1) (a c.0)) place) [
      | inl less ↦ before t k since until low less move near in_time
      | inr next ↦
          let free : covers records (t + 1) ≡ false = rw is at move.untaken in
          let at : place_in (t + 1) records ≡ place_in (t + 1) (a c.0) = ap (λ (rs : List Record). place_in (t + 1) rs) (sym is) in
          let inside = lands (t + 1) (omega arith) free (omega arith) in
          absurd (omega (arith, inside.0, inside.1))
    ]

    -- all were seen that arrive at any time
    pub past_all : (states : List State) (first last : ℕ) → HasLedBetween g q horizon a states from r c first last → length records < last
        → HasLedPast g q horizon a states from r c first
    past_all states first last led over t k since until low move near in_time =
        let at : place_in (t + 1) records ≡ place_in (t + 1) (a c.0) = ap (λ (rs : List Record). place_in (t + 1) rs) (sym is) in
        led t k since until low (omega (arith, place_within (t + 1) records)) move near in_time

    -- a record is there until the last arrival that is of use
    pub past_last : (states : List State) (first place last : ℕ) (b : Record) → HasLedBetween g q horizon a states from r c first place → 0 < place
        → slice_get records (place - 1) ≡ Some b → last ≤ b.to → IsLastArrival g q horizon from c last → HasLedPast g q horizon a states from r c first
    past_last states first place last b led some stands stays latest t k since until low move near in_time = elim (cases_lt (place_in (t + 1) (a c.0)) place) [
      | inl less ↦ led t k since until low less move near in_time
      | inr next ↦
          let free : covers records (t + 1) ≡ false = rw is at move.untaken in
          let at : place_in (t + 1) records ≡ place_in (t + 1) (a c.0) = ap (λ (rs : List Record). place_in (t + 1) rs) (sym is) in
          absurd (false≢true (sym free ∙ begun_covers records (place - 1) (t + 1) b (omega arith) stands (omega (arith, latest t k until near in_time))))
    ]

    -- no move arrives before those that were seen
    pub led_from : (states : List State) (first : ℕ) → HasLedPast g q horizon a states from r c first → first ≡ place_in (r + 1) records → HasLed g q horizon a states from r c
    led_from states first led first_is t k since until move near in_time =
        let at : place_in (t + 1) records ≡ place_in (t + 1) (a c.0) = ap (λ (rs : List Record). place_in (t + 1) rs) (sym is) in
        led t k since until (omega (arith, more_begun records (r + 1) (t + 1) (omega arith))) move near in_time

    module _ (i : Interval) (begun : IsIn (r + 1) i) where
      -- none arrives after the interval
      pub led_within : (states : List State) → IsSafeInterval records horizon i → from.interval.to ≤ i.to → HasLedInto g q horizon a states from r c i → HasLed g q horizon a states from r c
      led_within states safe until' led t k since until move near in_time = elim (cases_lt i.to (t + 1)) [
        | inr inside ↦ led t k since until (omega arith, inside) move near in_time
        | inl later ↦ elim safe.ends [
          | inl last ↦ absurd (omega arith)
          | inr taken ↦
              let e : t + 1 ≡ i.to + 1 = omega arith in
              let free : covers records (t + 1) ≡ false = rw is at move.untaken in
              absurd (false≢true (sym (rw e at free) ∙ taken))
        ]
      ]

      -- the others arrive after more records
      pub led_on : (mid new : List State) (place : ℕ) → InOrder records → IsGapAt records horizon place i → Improves mid new → HasLedInto g q horizon a mid from r c i
          → HasLedPast g q horizon a new from r c (place + 1) → HasLed g q horizon a new from r c
      led_on mid new place order gap better led past t k since until move near in_time = elim (cases_lt i.to (t + 1)) [
        | inr inside ↦ better.seen c (t + 1) (led t k since until (omega arith, inside) move near in_time)
        | inl later ↦
            let at : place_in (t + 1) records ≡ place_in (t + 1) (a c.0) = ap (λ (rs : List Record). place_in (t + 1) rs) (sym is) in
            past t k since until (omega (arith, more_later records horizon place i order gap (t + 1) later (omega arith))) move near in_time
      ]
