use Rattle.std.proofs.Common.{◌≡◌, ◌+◌, ◌-◌, ◌≤◌, length}
use Rattle.text_lines.specs.Lines.{lines_of}
use Rattle.map_text.specs.MapGrammar.{rows}
use Rattle.map_text.proofs.RowLemmas.{with_front}
use Rattle.map_text.proofs.rows.read_rows.Given as goal

abbrev pub invariant-loop-counter : goal.invariant-loop-counter
invariant-loop-counter l = record {
  rows : with_front l.cells.items (rows l.width (5 + l.counter) (l.height - l.counter) (lines_of l.rest)) ≡ rows l.width 5 l.height (lines_of l.text);
  read : l.counter + length l.rest ≤ length l.text;
}
