-- The distance of a cell beside one whose distance is known: one more or one less, and what the level says of which.
use Rattle.std.proofs.Common.{◌≡◌, ℕ, ◌+◌, ◌*◌, ◌/◌, ◌%◌, ◌<◌, ◌≤◌, ◌⊎◌, inl, inr, Bool, true, false, [], Some, refl, subst, arith}
use Rattle.std.specs.Prelude.{slice_get, min}
use Rattle.std.proofs.lemmas.Bool.{cases_lt}
use Rattle.std.proofs.lemmas.Option.{slice_get_within}
use Rattle.fleet_base.specs.declared.grid.Cell.{Cell}
use Rattle.fleet_base.specs.declared.grid.Side.{Side}
use Rattle.fleet_base.specs.declared.grid.Side.TheVariants.{Up, Left, Right, Down}
use Rattle.fleet_base.specs.Terrain.{Terrain, IsTerrain, IsOpen, IsBeside}
use Rattle.static_distance.specs.declared.place.Place.{Place}
use Rattle.static_distance.specs.declared.distances.Distances.{Distances}
use Rattle.static_distance.specs.Distance.{IsWay, there, move, IsDistance}
use Rattle.static_distance.specs.Levels.{IsPlaceOf, between, apart}
use Rattle.static_distance.specs.Marks.{marks_of}
use Rattle.static_distance.specs.Spreading.{Flood, IsFlood}
use Rattle.static_distance.specs.Spans.{IsStep, flood_of}
use Rattle.static_distance.specs.Aim.{IsAimed}
use Rattle.static_distance.proofs.Ways.{way_open}
use Rattle.static_distance.proofs.Places.{at_place, low_apart}
use Rattle.static_distance.proofs.SideLemmas.{nearer, step_to}
use Rattle.static_distance.proofs.SpreadLemmas.{way_on, flood_far, risen_flood}
use Rattle.static_distance.proofs.FloodLemmas.{none_stand}

-- ---- places

-- an open cell's place is within the limits of a grid
pub place_near : (g : Terrain) (c : Cell) (place : Place) → IsTerrain g → IsOpen g c → IsPlaceOf g c place → (place.column < 2048) × (place.row < 2048)
place_near g c place is opened of =
    let at = at_place g c place is (slice_get_within g.cells c.0 true opened) of in (omega (arith, at.0, is.wide), omega (arith, at.1, is.high))

pub between_apart : (g : Terrain) (toward place : Place) (c : Cell) → IsPlaceOf g c place → between place toward ≡ apart g toward c
between_apart g toward place c of = rw (of.0, of.1) refl

-- ---- moves by twos

-- a move leads closer to a place by one, or farther away
step_cases : (g : Terrain) (toward : Place) (c n : Cell) (closer : Bool) → IsStep g toward closer c n → (apart g toward n + 1 ≡ apart g toward c) ⊎ (apart g toward n ≡ apart g toward c + 1)
step_cases g toward c n true step = inl step
step_cases g toward c n false step = inr step

pub step_either : (g : Terrain) (toward : Place) (side : Side) (c n : Cell) → IsBeside g side c n → (apart g toward n + 1 ≡ apart g toward c) ⊎ (apart g toward n ≡ apart g toward c + 1)
step_either g toward Up c n (x, y, at, to) = step_cases g toward c n (nearer Up x (y + 1) toward) (step_to g toward c n x (y + 1) at Up (x, y, at, to))
step_either g toward Left c n (x, y, at, to) = step_cases g toward c n (nearer Left (x + 1) y toward) (step_to g toward c n (x + 1) y at Left (x, y, at, to))
step_either g toward Right c n (x, y, at, to) = step_cases g toward c n (nearer Right x y toward) (step_to g toward c n x y at Right (x, y, at, to))
step_either g toward Down c n (x, y, at, to) = step_cases g toward c n (nearer Down x y toward) (step_to g toward c n x y at Down (x, y, at, to))

-- a way has as many moves as if all cells were open, or an even number more
pub way_even : (g : Terrain) (place : Place) {goal c : Cell} {k : ℕ} → IsPlaceOf g goal place → IsWay g goal c k → (m : ℕ) × (k ≡ apart g place c + 2 * m)
way_even g place of (there opened) = (0, omega (arith, of.0, of.1))
way_even g place of (move {c} {d} side opened beside rest) =
    let more = way_even g place of rest in
    elim (step_either g place side c d beside) [
      | inl closer ↦ (more.0, omega (arith, more.1))
      | inr farther ↦ (more.0 + 1, omega (arith, more.1))
    ]

module _ (g : Terrain) (goal c n : Cell) (side : Side) (left : ℕ) (beside : IsBeside g side c n) (distance : IsDistance g goal c left) where
  abbrev goal_place : Place
  goal_place = record { column = goal.0 % g.width; row = goal.0 / g.width }

  -- no way from the cell beside has as many moves
  never_same : IsWay g goal n left → ⊥
  never_same way =
      let mine = way_even g goal_place (refl, refl) distance.way in
      let other = way_even g goal_place (refl, refl) way in
      elim (step_either g goal_place side c n beside) [
        | inl closer ↦ omega (arith, mine.1, other.1)
        | inr farther ↦ omega (arith, mine.1, other.1)
      ]

  -- where no way from the cell beside has a move less, its distance is one more
  pub one_more : IsOpen g n → ((k : ℕ) → IsWay g goal n k → k + 1 ≡ left → ⊥) → IsDistance g goal n (left + 1)
  one_more opened none_less = record {
    way = way_on g side distance.way beside opened;
    least = λ k way. (let low : left ≤ k + 1 = distance.least (k + 1) (move side (way_open g distance.way) beside way) in
        elim (cases_lt left k) [
          | inl more ↦ omega arith
          | inr most ↦ elim (cases_lt k left) [
            | inl less ↦ absurd (none_less k way (omega arith))
            | inr same ↦ absurd (never_same (subst (λ (j : ℕ). IsWay g goal n j) (omega arith) way))
          ]
        ]);
  }

-- ---- levels

-- the same flood on the level after the next
abbrev later : Flood → Flood
later f = record f { level = f.level + 2; here = f.next; next = λ (c : Cell). ⊥ }

-- where no cell of this level waits, a cell that isn't counted lies on a later one
pub flood_later : (g : Terrain) (f : Flood) → IsFlood g f → ((c : Cell) → f.here c → ⊥) → (c : Cell) → slice_get f.marks c.0 ≡ Some 0 → (k : ℕ) → IsWay g f.goal c k
    → f.level + 2 ≤ k + apart g f.toward c
flood_later g f is none c free k way =
    flood_far g (later f) (risen_flood g f (later f) is none refl refl refl refl (λ z waits. waits) (λ z waits. waits) (λ z waits. waits)) c free k way

-- all cells up to that level are counted
abbrev pub HasPassed : Distances → ℕ → Type 0
HasPassed d level = (level < d.level) ⊎ ((d.level ≡ level) × (d.here.spans.items ≡ []))

module _ (g : Terrain) (d : Distances) (level : ℕ) (aimed : IsAimed g d) (passed : HasPassed d level) where
  -- a cell that isn't counted lies on a later level
  passed_far : (c : Cell) → slice_get (marks_of g d) c.0 ≡ Some 0 → (k : ℕ) → IsWay g d.goal c k → level < k + apart g d.toward c
  passed_far c free k way = elim passed [
    | inl less ↦ (let far : d.level ≤ k + apart g d.toward c = flood_far g (flood_of g d) aimed.flood c free k way in omega arith)
    | inr (same, empty) ↦
        (let far : d.level + 2 ≤ k + apart g d.toward c =
        flood_later g (flood_of g d) aimed.flood (λ z stands. none_stand g d.known d.here.words.items d.here.spans.items z aimed.spans.here_listed empty stands) c free k way in
        omega arith)
  ]

  passed_low : level ≤ 16777216
  passed_low = elim passed [
    | inl less ↦ omega (arith, aimed.bounded)
    | inr (same, empty) ↦ omega (arith, aimed.bounded)
  ]

  -- the level of a cell whose distance is known was reached, so its sum was not cut off
  module _ (c : Cell) (left most : ℕ) (level_is : level ≡ min (left + apart g d.toward c) most) (great : 16777216 < most) where
    level_whole : left + apart g d.toward c ≡ level
    level_whole = omega (arith, passed_low)

    -- a cell beside it that isn't counted yet is one farther
    pub passed_beside : (n : Cell) (side : Side) → IsBeside g side c n → IsDistance g d.goal c left → IsOpen g n → slice_get (marks_of g d) n.0 ≡ Some 0 → IsDistance g d.goal n (left + 1)
    passed_beside n side beside distance opened free =
        one_more g d.goal c n side left beside distance opened
        (λ k way less. (let far : level < k + apart g d.toward n = passed_far n free k way in
        let near : apart g d.toward n ≤ apart g d.toward c + 1 = low_apart g d.toward side c n beside in
        omega (arith, level_whole)))
