use Rattle.std.proofs.Common.{sym, subst}
use Rattle.fleet_base.specs.declared.grid.Cell.{Cell}
use Rattle.static_distance.specs.Distance.{IsDistance}
use Rattle.sipp_search.proofs.chain.way_beside.Goals as goal

pub beside_at-requires-clause-from : goal.beside_at-requires-clause-from
beside_at-requires-clause-from g c =
    let from = c.requires.from in
    (from.0, from.1, from.2, from.3, subst (λ (z : Cell). IsDistance c.args.task.now.grid.now z from.0 c.args.known) (sym c.requires.sound.goal_is) from.4)
