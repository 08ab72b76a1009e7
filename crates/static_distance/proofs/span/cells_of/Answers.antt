use Rattle.std.proofs.Common.{arith, ◌+◌, ◌-◌, ◌*◌}
use Rattle.static_distance.proofs.SpanLemmas.{cells_values, cells_all}
use Rattle.static_distance.proofs.span.cells_of.Goals as goal

pub returns-clause-values : goal.returns-clause-values
returns-clause-values c = rw c.cells-cells.ensures.cells
    (cells_values c.args.grid.now c.args.span c.requires.span (c.width-2.result * c.args.span.row + c.args.span.column)
    (c.width-2.result * c.args.span.row + c.args.span.column + c.min-count.result - (c.width-2.result * c.args.span.row + c.args.span.column)) (rw c.width-2.ensures) (omega arith))

pub returns-clause-all : goal.returns-clause-all
returns-clause-all c = rw c.cells-cells.ensures.cells
    (cells_all c.args.grid.now c.args.span c.requires.span (c.width-2.result * c.args.span.row + c.args.span.column)
    (c.width-2.result * c.args.span.row + c.args.span.column + c.min-count.result - (c.width-2.result * c.args.span.row + c.args.span.column)) (rw c.width-2.ensures) (omega arith))
