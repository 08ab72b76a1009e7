use Rattle.std.proofs.Common.{◌∙◌, sym, ap, subst, length, arith}
use Rattle.order_text.specs.Lanes.{request_lanes, AreLanes}
use Rattle.order_text.proofs.RightLanes.{request_lanes_right}
use Rattle.fleet_run.proofs.prepare.prepare_gen.Goals as goal

pub last_line_by-requires-clause-lanes : goal.last_line_by-requires-clause-lanes
last_line_by-requires-clause-lanes g c κs within =
    subst (AreLanes (length c.in-Ok.grid.cells)) (sym (c.deref-2.ensures.value ∙ (c.in-Ok-lanes_of.ensures ∙ ap (request_lanes 0) c.deref.ensures.value)))
    (request_lanes_right (length c.in-Ok.grid.cells) c.in-Ok.requests.items (omega (arith, c.in-Ok.ensures.count, c.requires.orders)) c.in-Ok.ensures.on_grid)
