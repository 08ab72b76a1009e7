use Rattle.std.proofs.Common.{◌≡◌, ◌++◌, take, map}
use Rattle.map_text.specs.MapGrammar.{is_open_letter}
use Rattle.map_text.proofs.rows.push_row.Given as goal

abbrev pub invariant-loop-byte : goal.invariant-loop-byte
invariant-loop-byte l = l.cells.items ≡ l.initial.cells.items ++ map is_open_letter (take l.byte-index l.line)
