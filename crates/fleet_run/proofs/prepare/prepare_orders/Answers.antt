use Rattle.std.proofs.Common.{refl, sym, subst}
use Rattle.std.proofs.lemmas.Result.{err_from_is_err_and}
use Rattle.command_line.specs.declared.command.Command.TheVariants.{Orders}
use Rattle.fleet_run.specs.Files.{IsMapRead}
use Rattle.fleet_run.proofs.PrepareLemmas.{cause_since}
use Rattle.fleet_run.proofs.prepare.prepare_orders.Goals as goal

pub returns-in_err-grid-clause-prepared : goal.returns-in_err-grid-clause-prepared
returns-in_err-grid-clause-prepared g c =
    let p = err_from_is_err_and c.from_residual.result c.from_residual.ensures.1 in
    rw (p.1, p.2) (c.in_err-grid.ensures.cause (Orders c.args.map.now c.args.orders.now c.args.workers c.args.horizon) refl)

pub returns-in_err-lanes-clause-prepared : goal.returns-in_err-lanes-clause-prepared
returns-in_err-lanes-clause-prepared g c =
    let p = err_from_is_err_and c.from_residual-in_err-lanes.result c.from_residual-in_err-lanes.ensures.1 in
    rw (p.1, p.2) (cause_since (λ n. n.now) (g.H.Shelf.told c.args.shelf.now) (g.H.Shelf.told c.load_map.new.shelf) (Orders c.args.map.now c.args.orders.now c.args.workers c.args.horizon)
    (g.H.Shelf.failed c.args.shelf.now) (g.H.Shelf.failed c.load_map.new.shelf) (g.H.Shelf.failed c.load_lanes.new.shelf) _ c.in_ok-grid.ensures.told c.in_ok-grid.ensures.loaded.1
    (c.in_err-lanes.ensures.cause c.args.map.now c.args.workers c.args.horizon (subst (λ f. IsMapRead f c.args.map.now c.in_ok-grid.grid) (sym c.in_ok-grid.ensures.told) c.in_ok-grid.ensures.loaded.0)))
