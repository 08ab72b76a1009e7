use Rattle.std.proofs.Common.{arith, subst, ◌+◌, ◌≤◌}
use Rattle.fleet_base.specs.declared.grid.Side.{Side}
use Rattle.fleet_base.specs.Terrain.{IsBeside}
use Rattle.fleet_base.proofs.GridLemmas.{placed_up, placed_left, placed_right, placed_down}
use Rattle.static_distance.proofs.Places.{at_place, none_right}
use Rattle.static_distance.proofs.place.neighbour_at.Goals as goal

pub returns-in-Up-clause-beside : goal.returns-in-Up-clause-beside
returns-in-Up-clause-beside c =
    rw (c.in-Up.is, c.width.ensures) (placed_up c.args.grid.now c.args.cell _ _
    (at_place c.args.grid.now c.args.cell c.args.place c.cells-limits.ensures.limits c.requires.cell c.requires.place) c.if-place-gt0.true)

pub returns-in-Left-clause-beside : goal.returns-in-Left-clause-beside
returns-in-Left-clause-beside c =
    rw (c.in-Left.is) (placed_left c.args.grid.now c.args.cell _ _
    (at_place c.args.grid.now c.args.cell c.args.place c.cells-limits.ensures.limits c.requires.cell c.requires.place) c.if-place-gt0-2.true)

pub returns-in-Right-clause-beside : goal.returns-in-Right-clause-beside
returns-in-Right-clause-beside c =
    rw (c.in-Right.is) (placed_right c.args.grid.now c.args.cell _ _
    (at_place c.args.grid.now c.args.cell c.args.place c.cells-limits.ensures.limits c.requires.cell c.requires.place) (omega arith))

pub returns-in-Down-clause-beside : goal.returns-in-Down-clause-beside
returns-in-Down-clause-beside c =
    rw (c.in-Down.is, c.width-in-Down.ensures) (placed_down c.args.grid.now c.args.cell _ _
    (at_place c.args.grid.now c.args.cell c.args.place c.cells-limits.ensures.limits c.requires.cell c.requires.place) (omega (arith, c.if-place-height.true, c.height.ensures)))

pub returns-in_default-3-clause-none : goal.returns-in_default-3-clause-none
returns-in_default-3-clause-none c = λ d beside.
    (let last : c.args.grid.now.width ≤ c.args.place.column + 1 = omega arith in
    none_right c.args.grid.now c.args.cell d c.args.place c.requires.place last (subst (λ (z : Side). IsBeside c.args.grid.now z c.args.cell d) c.in-Right.is beside))
