use Rattle.std.proofs.Common.{refl}
use Rattle.std.proofs.lemmas.Result.{err_from_is_err_and}
use Rattle.command_line.specs.declared.command.Command.TheVariants.{One}
use Rattle.fleet_run.proofs.prepare.prepare_one.Goals as goal

pub returns-in_err-grid-clause-prepared : goal.returns-in_err-grid-clause-prepared
returns-in_err-grid-clause-prepared g c =
    let p = err_from_is_err_and c.from_residual.result c.from_residual.ensures.1 in
    rw (p.1, p.2) (c.in_err-grid.ensures.cause (One c.args.map.now c.args.from.0 c.args.from.1 c.args.to.0 c.args.to.1) refl)
