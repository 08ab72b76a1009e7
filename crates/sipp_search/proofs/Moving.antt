-- The moves out of one state into the cells beside it.
use Rattle.std.proofs.Common.{arith, subst, sym, ap, ◌∙◌, refl, inl, inr}
use Rattle.std.proofs.lemmas.List.{map-append}
use Rattle.std.proofs.lemmas.Bool.{cases_lt}
use Rattle.std.specs.Prelude.{◌≡◌, ℕ, zero, suc, ◌+◌, ◌<◌, ◌≤◌, ◌++◌, List, Option, Some, IsSome, slice_get}
use Rattle.fleet_base.specs.declared.grid.Cell.{Cell}
use Rattle.fleet_base.specs.declared.grid.Side.{Side}
use Rattle.fleet_base.specs.declared.grid.Side.TheVariants.{Up, Left, Right, Down}
use Rattle.fleet_base.specs.declared.request.Record.{Record}
use Rattle.fleet_base.specs.declared.request.Request.{Request}
use Rattle.fleet_base.specs.Terrain.{Terrain, IsBeside}
use Rattle.fleet_base.specs.Canonical.{rank_of}
use Rattle.fleet_base.proofs.CanonicalLemmas.{beside_once}
use Rattle.calendars.specs.Assignments.{Assignment, Agrees}
use Rattle.safe_intervals.specs.Safe.{IsSafeInterval}
use Rattle.static_distance.specs.Distance.{IsWay, IsDistance}
use Rattle.sipp_search.specs.declared.states.Spot.{Spot}
use Rattle.sipp_search.specs.declared.states.State.{State}
use Rattle.sipp_search.specs.Arena.{IsOfArena}
use Rattle.sipp_search.specs.Marks.{spots_of, final}
use Rattle.sipp_search.specs.Progress.{IsBound, IsWithin, IsArrived, IsUnderWay, Improves}
use Rattle.sipp_search.specs.Arena.{IsOfArena}
use Rattle.sipp_search.specs.Visiting.{IsSource, HasLed}
use Rattle.sipp_search.specs.Running.{HasGrown, KeepsSpots, KeepsKnown, LoadsBeside, LoadsAround}
use Rattle.sipp_search.proofs.Lists.{stands_left}
use Rattle.sipp_search.proofs.Marking.{added_improves, added_well, improved_way, leading_way, improves-refl, improves-trans}
use Rattle.sipp_search.proofs.Visits.{led_kept}

pub grown_improves : (old new : List State) → HasGrown old new → Improves old new
grown_improves old new grows = subst (λ (xs : List State). Improves old xs) (sym grows.grown) (added_improves old grows.fresh grows.unseen)

pub grown_spots : (old new : List State) → HasGrown old new → KeepsSpots old new
grown_spots old new grows i p at =
    let e : spots_of new ≡ spots_of old ++ spots_of grows.fresh = ap spots_of grows.grown ∙ map-append (λ (z : State). z.spot) old grows.fresh in
    rw e (stands_left (spots_of old) (spots_of grows.fresh) i p at)

pub grown_way : (g : Terrain) (q : Request) (horizon : ℕ) (a : Assignment) (old new : List State) (cursor x : ℕ) → HasGrown old new
    → IsUnderWay g q horizon a old cursor x → IsUnderWay g q horizon a new cursor x
grown_way g q horizon a old new cursor x grows way =
    let well = added_well g q horizon a old grows.fresh cursor grows.unseen way.queued_well in
    subst (λ (xs : List State). IsUnderWay g q horizon a xs cursor x) (sym grows.grown)
    (improved_way g q horizon a old (old ++ grows.fresh) cursor x way (added_improves old grows.fresh grows.unseen) well)

-- a move lowers the way that is left by 1 at most
pub low_key : (g : Terrain) (goal : Cell) → IsBound g goal → (side : Side) (b c : Cell) (j k : ℕ) → IsBeside g side b c → IsDistance g goal b j → IsDistance g goal c k → j ≤ k + 1
low_key g goal bound side b c j k beside here there =
    let within : IsWithin g goal b (k + 1) = bound.falls side b c k (bound.opens b j here) beside there in
    let low : j ≤ within.left = here.least within.left within.way in
    omega (arith, within.below)

pub source_of : (g : Terrain) (q : Request) (horizon : ℕ) (a : Assignment) (known : ℕ → Option (List Record)) (from : Spot) (r : ℕ) (side : Side) (to : Cell) (k : ℕ)
    → IsBound g q.goal → IsOfArena g q.goal horizon known from → Agrees a known → IsArrived g q a from r → IsBeside g side from.cell to → IsDistance g q.goal to k
    → IsSource g q horizon a from r to
source_of g q horizon a known from r side to k bound of agrees arrived beside distance = record {
  arrived = arrived;
  safe = subst (λ (rs : List Record). IsSafeInterval rs horizon from.interval) (sym (agrees from.cell.0 of.records of.known_is)) of.safe;
  side = side;
  beside = beside;
  opens = bound.opens to k distance;
}

-- each cell on that side of the spot was led into
abbrev pub HasLedOn : Terrain → Request → ℕ → Assignment → List State → Spot → ℕ → Side → Type 0
HasLedOn g q horizon a states from r side = (c : Cell) → IsBeside g side from.cell c → HasLed g q horizon a states from r c

module _ (g : Terrain) (q : Request) (horizon : ℕ) (a : Assignment) (states : List State) (from : Spot) (r : ℕ) (side : Side) where
  pub led_only : (to : Cell) → IsBeside g side from.cell to → HasLed g q horizon a states from r to → HasLedOn g q horizon a states from r side
  led_only to beside led c beside' = subst (λ (z : Cell). HasLed g q horizon a states from r z) (beside_once g side from.cell to c beside beside') led

  -- from the cell the goal can't be reached
  pub led_in_vain : (to : Cell) → IsBeside g side from.cell to → ((k : ℕ) → ¬ (IsWay g q.goal to k)) → HasLedOn g q horizon a states from r side
  led_in_vain to beside none = led_only to beside (λ t k since until move within in_time. absurd (none within.left within.way))

side_at : ℕ → Side
side_at zero = Up
side_at (suc zero) = Left
side_at (suc (suc zero)) = Right
side_at (suc (suc (suc n))) = Down

side_at-rank_of : (s : Side) → side_at (rank_of s) ≡ s
unfolding side_at
side_at-rank_of Up = refl
side_at-rank_of Left = refl
side_at-rank_of Right = refl
side_at-rank_of Down = refl

pub same_side : (s r : Side) → rank_of s ≡ rank_of r → s ≡ r
same_side s r e = sym (side_at-rank_of s) ∙ (ap side_at e ∙ side_at-rank_of r)

-- The last n sides were led into.
abbrev pub HasLedLast : Terrain → Request → ℕ → Assignment → List State → Spot → ℕ → ℕ → Type 0
HasLedLast g q horizon a states from r n = (s : Side) → 4 ≤ rank_of s + n → HasLedOn g q horizon a states from r s

pub led_more : (g : Terrain) (q : Request) (horizon : ℕ) (a : Assignment) (old new : List State) (from : Spot) (r n : ℕ) (side : Side) → Improves old new → rank_of side + n + 1 ≡ 4
    → HasLedLast g q horizon a old from r n → HasLedOn g q horizon a new from r side → HasLedLast g q horizon a new from r (n + 1)
led_more g q horizon a old new from r n side better rank before last s far = elim (cases_lt (rank_of s + n) 4) [
  | inr later ↦ λ c beside. led_kept g q horizon a old new from r c better (before s later c beside)
  | inl first ↦ subst (λ (z : Side). HasLedOn g q horizon a new from r z) (same_side side s (omega arith)) last
]

pub rank_low : (s : Side) → rank_of s < 4
rank_low Up = omega arith
rank_low Left = omega arith
rank_low Right = omega arith
rank_low Down = omega arith

-- once all four sides were led into, the state leads on
pub all_led : (g : Terrain) (q : Request) (horizon : ℕ) (a : Assignment) (states : List State) (cursor id y r : ℕ) (from : Spot)
    → IsUnderWay g q horizon a states cursor id → slice_get states id ≡ Some (final from r) → HasLedLast g q horizon a states from r 4 → IsUnderWay g q horizon a states cursor y
all_led g q horizon a states cursor id y r from way at led =
    leading_way g q horizon a states cursor id y r from way at (λ t k c since until move within in_time. led move.side (omega arith) c move.beside t k since until move within in_time)

-- What is known of a view, over two steps.
pub kept_twice : (old mid new : ℕ → Option (List Record)) → KeepsKnown old mid → KeepsKnown mid new → KeepsKnown old new
kept_twice old mid new one two c is = two c (rw (one c is) is) ∙ one c is

pub some_of : (o : Option (List Record)) (rs : List Record) → o ≡ Some rs → IsSome o
some_of o rs is = rw is refl

pub agrees_before : (a : Assignment) (old new : ℕ → Option (List Record)) → KeepsKnown old new → Agrees a new → Agrees a old
agrees_before a old new kept agrees c records is = agrees c records (kept c (some_of (old c) records is) ∙ is)

pub loads_more : (g : Terrain) (c : Cell) (side : Side) (old mid new : ℕ → Option (List Record)) → LoadsAround g c old mid → LoadsBeside g side c mid new → LoadsAround g c old new
loads_more g c side old mid new one two n is = elim (two n is) [
  | inl before ↦ one n before
  | inr beside ↦ inr (side, beside.0, beside.1, beside.2)
]

pub loads_first : (g : Terrain) (c : Cell) (side : Side) (old new : ℕ → Option (List Record)) → LoadsBeside g side c old new → LoadsAround g c old new
loads_first g c side old new one = loads_more g c side old old new (λ n is. inl is) one

-- What the moves out of a spot into the last n sides did, as far as it is known in the end.
pub record HasMade (g : Terrain) (q : Request) (horizon : ℕ) (from : Spot) (r n : ℕ) (known : ℕ → Option (List Record)) (old new : List State) (floor floor' : ℕ) : Type 0 where
  pub floor_is : floor' ≡ floor
  pub improves : Improves old new
  pub led : (a : Assignment) (x : ℕ) → Agrees a known → IsArrived g q a from r → IsUnderWay g q horizon a old floor x
      → IsUnderWay g q horizon a new floor x × HasLedLast g q horizon a new from r n

module _ (g : Terrain) (q : Request) (horizon : ℕ) (from : Spot) (r : ℕ) where
  none_led : (a : Assignment) (states : List State) → HasLedLast g q horizon a states from r 0
  none_led a states s far = absurd (omega (arith, rank_low s))

  pub made_none : (known : ℕ → Option (List Record)) (states : List State) (floor : ℕ) → HasMade g q horizon from r 0 known states states floor floor
  made_none known states floor = record {
    floor_is = refl;
    improves = improves-refl states;
    led = λ a x agrees arrived way. (way, none_led a states);
  }

  -- the next side
  pub made_more : (side : Side) (n : ℕ) (mid known : ℕ → Option (List Record)) (old between new : List State) (floor floor' floor'' : ℕ) → rank_of side + n + 1 ≡ 4
      → HasMade g q horizon from r n mid old between floor floor' → KeepsKnown mid known → floor'' ≡ floor' → Improves between new
      → ((a : Assignment) (x : ℕ) → Agrees a known → IsArrived g q a from r → IsUnderWay g q horizon a between floor' x
      → IsUnderWay g q horizon a new floor' x × HasLedOn g q horizon a new from r side)
      → HasMade g q horizon from r (n + 1) known old new floor floor''
  made_more side n mid known old between new floor floor' floor'' rank made kept floor_is better led = record {
    floor_is = floor_is ∙ made.floor_is;
    improves = improves-trans old between new made.improves better;
    led = λ a x agrees arrived way.
        (let before = made.led a x (agrees_before a mid known kept agrees) arrived way in
        let step = led a x agrees arrived (subst (λ (m : ℕ). IsUnderWay g q horizon a between m x) (sym made.floor_is) before.0) in (
          subst (λ (m : ℕ). IsUnderWay g q horizon a new m x) made.floor_is step.0,
          led_more g q horizon a between new from r n side better rank before.1 step.1,
        ));
  }

-- what all four moves of a state that has become final come to
pub made_all : (g : Terrain) (q : Request) (horizon : ℕ) (a : Assignment) (from : Spot) (r id x : ℕ) (known : ℕ → Option (List Record)) (old new : List State) (floor floor' : ℕ)
    → HasMade g q horizon from r 4 known old new floor floor' → slice_get old id ≡ Some (final from r) → Agrees a known → IsUnderWay g q horizon a old floor id
    → IsUnderWay g q horizon a new floor x
made_all g q horizon a from r id x known old new floor floor' made at agrees way =
    let both = made.led a id agrees (way.final_well id r from at).arrived way in
    all_led g q horizon a new floor id x r from both.0 (made.improves.no_less id r from at) both.1
