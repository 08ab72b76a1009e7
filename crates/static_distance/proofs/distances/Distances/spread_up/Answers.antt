use Rattle.std.proofs.Common.{refl, arith}
use Rattle.std.proofs.lemmas.Result.{on_ok_weaker}
use Rattle.static_distance.proofs.SideLemmas.{spread_above}
use Rattle.static_distance.proofs.distances.Distances.spread_up.Goals as goal

pub returns-clause-spread : goal.returns-clause-spread
returns-clause-spread c = on_ok_weaker c.enter.result
    (λ has. spread_above c.args.grid.now c.args.span _ c.args.word c.args.self.now c.enter.new.self c.requires.span refl (omega arith) has) c.enter.ensures.entered
