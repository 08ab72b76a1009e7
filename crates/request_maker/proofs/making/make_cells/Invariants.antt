use Rattle.std.proofs.Common.{◌≡◌, length}
use Rattle.request_maker.specs.Making.{is_open_at, each_below, state_after}
use Rattle.request_maker.proofs.making.make_cells.Given as goal

abbrev pub invariant-loop-cell : goal.invariant-loop-cell
invariant-loop-cell l = record {
  made : l.cells.items ≡ each_below (is_open_at l.percent l.fn.draws.state) l._cell;
  so_many : length l.cells.items ≡ l._cell;
  drawn : l.draws.state ≡ state_after l.fn.draws.state l._cell;
  same : (l.percent ≡ l.fn.percent) × (l.area ≡ l.fn.area);
}
