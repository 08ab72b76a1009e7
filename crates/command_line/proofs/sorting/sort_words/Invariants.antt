use Rattle.std.proofs.Common.{◌≡◌, drop, map, None}
use Rattle.std.specs.Prelude.{string_bytes}
use Rattle.command_line.specs.Sorting.{sorted_from}
use Rattle.command_line.specs.SortingView.{sorted_after}
use Rattle.command_line.proofs.sorting.sort_words.Given as goal

abbrev pub invariant-loop-text : goal.invariant-loop-text
invariant-loop-text l = sorted_after l.sorting (map string_bytes (drop l.text-index l.words)) ≡ sorted_from (map string_bytes l.words) None
