use Rattle.std.proofs.Common.{◌≡◌, ◌+◌, ◌≤◌, length}
use Rattle.text_lines.specs.Lines.{lines_of}
use Rattle.text_lines.specs.Numbered.{numbered_from}
use Rattle.text_lines.proofs.line.next_filled_line.Given as goal

abbrev pub invariant-loop-line : goal.invariant-loop-line
invariant-loop-line l = record {
  same : numbered_from (l.number + 1) (lines_of l.rest) ≡ numbered_from (l.before + 1) (lines_of l.text);
  room : l.number + length l.rest ≤ l.before + length l.text;
  shorter : length l.rest ≤ length l.text;
}

abbrev pub decreases-loop-line : goal.decreases-loop-line
decreases-loop-line l = length l.rest
