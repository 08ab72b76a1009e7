-- How far cells beside each other are from a place.
use Rattle.std.proofs.Common.{length, ◌≡◌, ℕ, ◌+◌, ◌/◌, ◌%◌, ◌<◌, ◌≤◌, ap, ◌∙◌, arith}
use Rattle.std.proofs.lemmas.Nat.{mod-mul-add, div-mul-add}
use Rattle.fleet_base.specs.declared.grid.Cell.{Cell}
use Rattle.fleet_base.specs.declared.grid.Side.{Side}
use Rattle.fleet_base.specs.declared.grid.Side.TheVariants.{Up, Left, Right, Down}
use Rattle.fleet_base.specs.Terrain.{Terrain, IsTerrain, IsAt, IsBeside}
use Rattle.fleet_base.proofs.GridLemmas.{placed}
use Rattle.static_distance.specs.declared.place.Place.{Place}
use Rattle.static_distance.specs.Distance.{IsWay, there, move}
use Rattle.static_distance.specs.Levels.{IsPlaceOf, gap, apart}
use Rattle.static_distance.proofs.Ways.{beside_back}

pub column_at : (g : Terrain) (c : Cell) (x y : ℕ) → IsAt g c x y → c.0 % g.width ≡ x
column_at g c x y (inside, high, is) = rw is (mod-mul-add y g.width x inside)

pub row_at : (g : Terrain) (c : Cell) (x y : ℕ) → IsAt g c x y → c.0 / g.width ≡ y
row_at g c x y (inside, high, is) = rw is (div-mul-add y g.width x inside)

-- a cell is where its place says
pub at_place : (g : Terrain) (c : Cell) (place : Place) → IsTerrain g → c.0 < length g.cells → IsPlaceOf g c place → IsAt g c place.column place.row
at_place g c place is within of = rw (of.0, of.1) (placed g c is within)

-- nothing is on the right of the last column
pub none_right : (g : Terrain) (c d : Cell) (place : Place) → IsPlaceOf g c place → g.width ≤ place.column + 1 → ¬ (IsBeside g Right c d)
none_right g c d place of last (x, y, at, to) =
    let column : place.column ≡ x = of.0 ∙ column_at g c x y at in
    omega (arith, to.0)

-- the distance to a place from column x and row y
pub apart_at : (g : Terrain) (toward : Place) (c : Cell) (x y : ℕ) → IsAt g c x y → apart g toward c ≡ gap x toward.column + gap y toward.row
apart_at g toward c x y at =
    ap (λ (n : ℕ). gap n toward.column + gap (c.0 / g.width) toward.row) (column_at g c x y at) ∙ ap (λ (n : ℕ). gap x toward.column + gap n toward.row) (row_at g c x y at)

module _ (g : Terrain) (toward place : Place) (c n : Cell) (is : IsPlaceOf g c place) where
  pub closer_up : IsBeside g Up c n → toward.row < place.row → apart g toward n + 1 ≡ apart g toward c
  closer_up (x, y, at, to) less =
      let row : place.row ≡ y + 1 = is.1 ∙ row_at g c x (y + 1) at in
      omega (arith, apart_at g toward c x (y + 1) at, apart_at g toward n x y to)

  pub farther_up : IsBeside g Up c n → place.row ≤ toward.row → apart g toward n ≡ apart g toward c + 1
  farther_up (x, y, at, to) more =
      let row : place.row ≡ y + 1 = is.1 ∙ row_at g c x (y + 1) at in
      omega (arith, apart_at g toward c x (y + 1) at, apart_at g toward n x y to)

  pub closer_left : IsBeside g Left c n → toward.column < place.column → apart g toward n + 1 ≡ apart g toward c
  closer_left (x, y, at, to) less =
      let column : place.column ≡ x + 1 = is.0 ∙ column_at g c (x + 1) y at in
      omega (arith, apart_at g toward c (x + 1) y at, apart_at g toward n x y to)

  pub farther_left : IsBeside g Left c n → place.column ≤ toward.column → apart g toward n ≡ apart g toward c + 1
  farther_left (x, y, at, to) more =
      let column : place.column ≡ x + 1 = is.0 ∙ column_at g c (x + 1) y at in
      omega (arith, apart_at g toward c (x + 1) y at, apart_at g toward n x y to)

  pub closer_right : IsBeside g Right c n → place.column < toward.column → apart g toward n + 1 ≡ apart g toward c
  closer_right (x, y, at, to) less =
      let column : place.column ≡ x = is.0 ∙ column_at g c x y at in
      omega (arith, apart_at g toward c x y at, apart_at g toward n (x + 1) y to)

  pub farther_right : IsBeside g Right c n → toward.column ≤ place.column → apart g toward n ≡ apart g toward c + 1
  farther_right (x, y, at, to) more =
      let column : place.column ≡ x = is.0 ∙ column_at g c x y at in
      omega (arith, apart_at g toward c x y at, apart_at g toward n (x + 1) y to)

  pub closer_down : IsBeside g Down c n → place.row < toward.row → apart g toward n + 1 ≡ apart g toward c
  closer_down (x, y, at, to) less =
      let row : place.row ≡ y = is.1 ∙ row_at g c x y at in
      omega (arith, apart_at g toward c x y at, apart_at g toward n x (y + 1) to)

  pub farther_down : IsBeside g Down c n → toward.row ≤ place.row → apart g toward n ≡ apart g toward c + 1
  farther_down (x, y, at, to) more =
      let row : place.row ≡ y = is.1 ∙ row_at g c x y at in
      omega (arith, apart_at g toward c x y at, apart_at g toward n x (y + 1) to)

-- the place of the cell on one side
pub place_up : (g : Terrain) (place : Place) (c n : Cell) → IsPlaceOf g c place → IsBeside g Up c n → (place.column ≡ n.0 % g.width) × (place.row ≡ n.0 / g.width + 1)
place_up g place c n of (x, y, at, to) =
    (omega (arith, of.0, column_at g c x (y + 1) at, column_at g n x y to), omega (arith, of.1, row_at g c x (y + 1) at, row_at g n x y to))

pub place_left : (g : Terrain) (place : Place) (c n : Cell) → IsPlaceOf g c place → IsBeside g Left c n → (place.column ≡ n.0 % g.width + 1) × (place.row ≡ n.0 / g.width)
place_left g place c n of (x, y, at, to) =
    (omega (arith, of.0, column_at g c (x + 1) y at, column_at g n x y to), omega (arith, of.1, row_at g c (x + 1) y at, row_at g n x y to))

pub place_right : (g : Terrain) (place : Place) (c n : Cell) → IsPlaceOf g c place → IsBeside g Right c n → (place.column + 1 ≡ n.0 % g.width) × (place.row ≡ n.0 / g.width)
place_right g place c n of (x, y, at, to) =
    (omega (arith, of.0, column_at g c x y at, column_at g n (x + 1) y to), omega (arith, of.1, row_at g c x y at, row_at g n (x + 1) y to))

pub place_down : (g : Terrain) (place : Place) (c n : Cell) → IsPlaceOf g c place → IsBeside g Down c n → (place.column ≡ n.0 % g.width) × (place.row + 1 ≡ n.0 / g.width)
place_down g place c n of (x, y, at, to) =
    (omega (arith, of.0, column_at g c x y at, column_at g n x (y + 1) to), omega (arith, of.1, row_at g c x y at, row_at g n x (y + 1) to))

-- a move changes the distance to a place by one at most
pub low_apart : (g : Terrain) (toward : Place) (side : Side) (c n : Cell) → IsBeside g side c n → apart g toward n ≤ apart g toward c + 1
low_apart g toward Up c n (x, y, at, to) = omega (arith, apart_at g toward c x (y + 1) at, apart_at g toward n x y to)
low_apart g toward Left c n (x, y, at, to) = omega (arith, apart_at g toward c (x + 1) y at, apart_at g toward n x y to)
low_apart g toward Right c n (x, y, at, to) = omega (arith, apart_at g toward c x y at, apart_at g toward n (x + 1) y to)
low_apart g toward Down c n (x, y, at, to) = omega (arith, apart_at g toward c x y at, apart_at g toward n x (y + 1) to)

-- no way to the cell of a place has fewer moves than if all cells were open
pub way_long : (g : Terrain) (place : Place) {goal c : Cell} {k : ℕ} → IsPlaceOf g goal place → IsWay g goal c k → apart g place c ≤ k
way_long g place of (there opened) = omega (arith, of.0, of.1)
way_long g place of (move {c} {d} side opened beside rest) =
    let back = beside_back g side c d beside in omega (arith, low_apart g place back.0 d c back.1, way_long g place of rest)
