use Rattle.std.proofs.Common.{refl}
use Rattle.std.proofs.lemmas.Result.{on_ok_weaker}
use Rattle.static_distance.proofs.SideLemmas.{spread_under}
use Rattle.static_distance.proofs.distances.Distances.spread_down.Goals as goal

pub returns-clause-spread : goal.returns-clause-spread
returns-clause-spread c = on_ok_weaker c.enter.result
    (λ has. spread_under c.args.grid.now c.args.span _ c.args.word c.args.self.now c.enter.new.self c.requires.span refl refl has) c.enter.ensures.entered
