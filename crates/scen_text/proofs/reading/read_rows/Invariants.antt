use Rattle.std.proofs.Common.{◌≡◌, ◌+◌, ◌≤◌, length}
use Rattle.std.specs.Prelude.{All}
use Rattle.text_lines.specs.Lines.{lines_of}
use Rattle.text_lines.specs.Numbered.{numbered_from}
use Rattle.scen_text.specs.ScenGrammar.{IsOnGrid, rows_from}
use Rattle.scen_text.proofs.RowLemmas.{with_front}
use Rattle.scen_text.proofs.reading.read_rows.Given as goal

abbrev pub invariant-loop-found : goal.invariant-loop-found
invariant-loop-found l = record {
  rows : with_front l.requests.items (rows_from l.grid l.take l.index (numbered_from (l.last + 1) (lines_of l.rest))) ≡ rows_from l.grid l.take 0 (numbered_from (l.before + 1) (lines_of l.text));
  read : l.last + length l.rest ≤ l.before + length l.text;
  counted : l.index + length l.rest ≤ length l.text;
  kept : length l.requests.items ≤ l.index;
  few : length l.requests.items ≤ 32767;
  on_grid : All (IsOnGrid l.grid) l.requests.items;
}

abbrev pub decreases-loop-found : goal.decreases-loop-found
decreases-loop-found l = length l.rest
