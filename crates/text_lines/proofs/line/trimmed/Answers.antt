use Rattle.std.proofs.Common.{arith}
use Rattle.std.proofs.lemmas.List.Sums.{suffix_len-le-length}
use Rattle.text_lines.specs.Lines.{is_dropped}
use Rattle.text_lines.proofs.line.trimmed.Goals as goal

pub slice_bounds-result-count : goal.slice_bounds-result-count
slice_bounds-result-count c = omega (arith, suffix_len-le-length is_dropped c.args.line.now, c.dropped_at_end.ensures)
