use Rattle.std.proofs.Common.{◌+◌, refl, ap, length, ◌∙◌}
use Rattle.std.proofs.lemmas.List.{length-append}
use Rattle.request_maker.proofs.MakingLemmas.{cells_more, drawn_next}
use Rattle.request_maker.proofs.making.make_cells.Goals as goal

pub loop-cell-init : goal.loop-cell-init
loop-cell-init c = record { made = c.in_ok-cells.ensures.items; so_many = ap length c.in_ok-cells.ensures.items; drawn = refl; same = (refl, refl) }

pub loop-cell-preserved : goal.loop-cell-preserved
loop-cell-preserved c = record {
  made = cells_more c.args.percent c.args.draws.now.state c.loop-cell._cell _ _ c.draw.result c.loop-cell.cells.items _ _ c.loop-cell.invariant.made c.loop-cell.invariant.drawn c.draw.ensures.state c.draw.ensures.value refl c.in_ok-push.ensures.items;
  so_many = ap length c.in_ok-push.ensures.items ∙ length-append c.loop-cell.cells.items _ ∙ ap (λ n. n + 1) c.loop-cell.invariant.so_many;
  drawn = (drawn_next c.args.draws.now.state c.loop-cell._cell _ _ 100 c.draw.result c.loop-cell.invariant.drawn c.draw.ensures.state c.draw.ensures.value).1;
  same = (refl, refl);
}
