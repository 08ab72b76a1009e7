use Rattle.std.proofs.Common.{refl, ◌∷◌, [], Option}
use Rattle.fleet_base.specs.declared.grid.Cell.{Cell}
use Rattle.fleet_base.specs.declared.grid.Side.{Side}
use Rattle.fleet_base.specs.declared.grid.Side.TheVariants.{Up, Left, Right, Down}
use Rattle.fleet_base.specs.Terrain.{Terrain}
use Rattle.sipp_search.specs.declared.around.Neighbour.{Neighbour}
use Rattle.sipp_search.specs.Around.{IsNeighbour, HasNeighbour}
use Rattle.sipp_search.proofs.around.around.Goals as goal

-- the four stand by the ranks of their sides
four : (g : Terrain) (c : Cell) (u l r d : Option Neighbour) → IsNeighbour g Up c u → IsNeighbour g Left c l → IsNeighbour g Right c r → IsNeighbour g Down c d
    → (side : Side) → HasNeighbour g side c (u ∷ l ∷ r ∷ d ∷ [])
four g c u l r d up left right down Up = (u, refl, up)
four g c u l r d up left right down Left = (l, refl, left)
four g c u l r d up left right down Right = (r, refl, right)
four g c u l r d up left right down Down = (d, refl, down)

pub returns : goal.returns
returns c = λ side.
    four c.args.grid.now c.args.cell c.neighbour_on.result c.neighbour_on-2.result c.neighbour_on-3.result c.neighbour_on-4.result
    c.neighbour_on.ensures c.neighbour_on-2.ensures c.neighbour_on-3.ensures c.neighbour_on-4.ensures side
