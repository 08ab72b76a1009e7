use Rattle.std.proofs.Common.{◌≡◌, ℕ, ◌+◌, ◌-◌, ◌%◌, ◌/◌, ◌<◌, ◌≤◌, ◌^◌, min, arith, ap, ◌∙◌}
use Rattle.std.proofs.Math.Nat.{mod-le, div-le_self}
use mir.Val.{bool_byte}
use denote.Enum.Bare.{sameb}
use Rattle.fleet_base.specs.contracts.grid.Side.{the_type}
use Rattle.fleet_base.specs.declared.grid.Side.{Side}
use Rattle.fleet_base.specs.declared.grid.Side.TheVariants.{Up, Left, Right, Down}
use Rattle.fleet_base.specs.declared.grid.Cell.{Cell as ACell}
use Rattle.fleet_base.specs.Terrain.{Terrain, IsBeside}
use Rattle.static_distance.specs.declared.place.Place.{Place}
use Rattle.static_distance.specs.Levels.{IsPlaceOf}
use Rattle.static_distance.proofs.Places.{place_up, place_left, place_right, place_down}
use Rattle.static_distance.proofs.place.beside.Goals as goal

-- 1 where the two sides are one, else 0
abbrev same : Side → Side → ℕ
same s t = bool_byte (sameb the_type s t)

-- a step to a side changes the column by that side's 1, and the row
there : (g : Terrain) (d n : ACell) (place : Place) (s : Side) → n.0 < 2 ^ 32 → IsPlaceOf g d place → IsBeside g s d n
    → (min ((place.column - same s Left) + same s Right) (2 ^ 32 - 1) ≡ n.0 % g.width) × (min ((place.row - same s Up) + same s Down) (2 ^ 32 - 1) ≡ n.0 / g.width)
there g d n place Up small of on_side =
    let at = place_up g place d n of on_side in
    let columns : n.0 % g.width ≤ n.0 = mod-le n.0 g.width in
    let rows : n.0 / g.width ≤ n.0 = div-le_self n.0 g.width in
    (omega (arith, at.0), omega (arith, at.1))
there g d n place Left small of on_side =
    let at = place_left g place d n of on_side in
    let columns : n.0 % g.width ≤ n.0 = mod-le n.0 g.width in
    let rows : n.0 / g.width ≤ n.0 = div-le_self n.0 g.width in
    (omega (arith, at.0), omega (arith, at.1))
there g d n place Right small of on_side =
    let at = place_right g place d n of on_side in
    let columns : n.0 % g.width ≤ n.0 = mod-le n.0 g.width in
    let rows : n.0 / g.width ≤ n.0 = div-le_self n.0 g.width in
    (omega (arith, at.0), omega (arith, at.1))
there g d n place Down small of on_side =
    let at = place_down g place d n of on_side in
    let columns : n.0 % g.width ≤ n.0 = mod-le n.0 g.width in
    let rows : n.0 / g.width ≤ n.0 = div-le_self n.0 g.width in
    (omega (arith, at.0), omega (arith, at.1))

pub returns : goal.returns
returns c = λ g d n small of on_side.
    let left = c.from.ensures ∙ ap bool_byte c.eq.ensures in
    let right = c.from-2.ensures ∙ ap bool_byte c.eq-2.ensures in
    let up = c.from-3.ensures ∙ ap bool_byte c.eq-3.ensures in
    let down = c.from-4.ensures ∙ ap bool_byte c.eq-4.ensures in
    let at = there g d n c.args.place c.args.side small of on_side in
    (omega (arith, at.0, left, right, c.saturating_sub.ensures, c.saturating_add.ensures), omega (arith, at.1, up, down, c.saturating_sub-2.ensures, c.saturating_add-2.ensures))
