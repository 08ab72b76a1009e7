use Rattle.std.proofs.Common.{◌∙◌, refl, sym, ap, subst, length}
use Rattle.std.proofs.lemmas.Result.{err_from_is_err_and}
use Rattle.order_text.specs.Lanes.{request_lanes, AreLanes}
use Rattle.order_text.proofs.RightLanes.{request_lanes_right}
use Rattle.command_line.specs.declared.command.Command.TheVariants.{Run}
use Rattle.fleet_run.specs.Files.{IsMapRead}
use Rattle.fleet_run.proofs.PrepareLemmas.{cause_since}
use Rattle.fleet_run.proofs.prepare.prepare_run.Goals as goal

pub returns-in_err-grid-clause-prepared : goal.returns-in_err-grid-clause-prepared
returns-in_err-grid-clause-prepared g c =
    let p = err_from_is_err_and c.from_residual.result c.from_residual.ensures.1 in
    rw (p.1, p.2) (c.in_err-grid.ensures.cause (Run c.args.map.now c.args.scenario.now c.args.workers c.args.horizon c.args.kept) refl)

pub returns-in_err-requests-clause-prepared : goal.returns-in_err-requests-clause-prepared
returns-in_err-requests-clause-prepared g c =
    let p = err_from_is_err_and c.from_residual-in_err-requests.result c.from_residual-in_err-requests.ensures.1 in
    rw (p.1, p.2) (cause_since (λ n. n.now) (g.H.Shelf.told c.args.shelf.now) (g.H.Shelf.told c.load_map.new.shelf) (Run c.args.map.now c.args.scenario.now c.args.workers c.args.horizon c.args.kept)
    (g.H.Shelf.failed c.args.shelf.now) (g.H.Shelf.failed c.load_map.new.shelf) (g.H.Shelf.failed c.load_requests.new.shelf) _ c.in_ok-grid.ensures.told c.in_ok-grid.ensures.loaded.1
    (c.in_err-requests.ensures.cause c.args.map.now c.args.workers c.args.horizon (subst (λ f. IsMapRead f c.args.map.now c.in_ok-grid.grid) (sym c.in_ok-grid.ensures.told) c.in_ok-grid.ensures.loaded.0)))

pub journal_by-requires-clause-lanes : goal.journal_by-requires-clause-lanes
journal_by-requires-clause-lanes g c κs within =
    subst (AreLanes (length c.in_ok-grid.grid.cells)) (sym (c.in-Ok.ensures ∙ ap (request_lanes 0) c.deref.ensures.value))
    (request_lanes_right (length c.in_ok-grid.grid.cells) c.in_ok-requests.requests.items c.in_ok-requests.ensures.few c.in_ok-requests.ensures.on_grid)
