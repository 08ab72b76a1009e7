use Rattle.std.proofs.Common.{refl}
use Rattle.static_distance.proofs.SpanLemmas.{has_looked}
use Rattle.static_distance.proofs.distances.Distances.look_first.Goals as goal

pub returns-clause-looked : goal.returns-clause-looked
returns-clause-looked c =
    has_looked c.args.grid.now c.args.self.now _ c.args.span c.cells_of.result.now c.open_places.result c.requires.span c.requires.spans
    c.requires.first
    c.cells_of.ensures.values c.cells_of.ensures.all c.open_places.ensures
    (record {
      goal = refl;
      toward = refl;
      level = refl;
      few = refl;
      by_cell = refl;
      known = c.set.ensures;
      free = refl;
      here = refl;
      next = refl;
      here_spans = refl;
      next_spans = refl;
      newest = c.begin.ensures.newest;
      older = c.begin.ensures.older;
    })
