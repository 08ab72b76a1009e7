use Rattle.static_distance.specs.Spans.{flood_of}
use Rattle.static_distance.proofs.SpreadLemmas.{flood_distance}
use Rattle.static_distance.proofs.distances.Distances.to_goal_at.Goals as goal

pub returns-in-Some-clause-distance : goal.returns-in-Some-clause-distance
returns-in-Some-clause-distance c =
    let g = c.args.grid.now in
    flood_distance g (flood_of g c.args.self.now) c.requires.aimed.flood c.args.cell c.in-Some.moves c.in-Some.ensures.some
