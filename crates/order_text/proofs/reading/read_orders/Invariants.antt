use Rattle.std.proofs.Common.{◌≡◌, ◌+◌, ◌≤◌, length}
use Rattle.text_lines.specs.Lines.{lines_of}
use Rattle.text_lines.specs.Numbered.{numbered_from}
use Rattle.order_text.specs.OrderGrammar.{orders_of, lanes_from}
use Rattle.order_text.specs.Marks.{lanes_so_far, IsBuilding, AreLanesSoFar}
use Rattle.order_text.proofs.reading.read_orders.Given as goal

abbrev pub invariant-loop-found : goal.invariant-loop-found
invariant-loop-found l = record {
  lines : lanes_from l.grid (lanes_so_far l.builder) (numbered_from (l.last + 1) (lines_of l.rest)) ≡ orders_of l.grid (lines_of l.text);
  building : IsBuilding l.builder;
  right : AreLanesSoFar (length l.grid.cells) (lanes_so_far l.builder);
  read : l.last + length l.rest ≤ length l.text;
}

abbrev pub decreases-loop-found : goal.decreases-loop-found
decreases-loop-found l = length l.rest
