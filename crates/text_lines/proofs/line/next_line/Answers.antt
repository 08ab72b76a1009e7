use Rattle.std.proofs.Common.{arith, length, sym, ◌∙◌, ◌<◌}
use Rattle.std.proofs.lemmas.List.{take_rest}
use Rattle.text_lines.proofs.LineLemmas.{line_cut, line_last, no_line}
use Rattle.text_lines.proofs.line.next_line.Goals as goal

pub returns-then-is_empty-clause-line : goal.returns-then-is_empty-clause-line
returns-then-is_empty-clause-line c = no_line c.args.text.now (grind arith)

pub returns-in-Some-clause-line : goal.returns-in-Some-clause-line
returns-in-Some-clause-line c =
    let e = line_cut c.args.text.now c.in-Some.end (sym c.first_line_feed.ensures ∙ c.in-Some.is) in
    simp (take_rest, c.trimmed.ensures) e

pub returns-in-None-clause-line : goal.returns-in-None-clause-line
returns-in-None-clause-line c =
    let some : 0 < length c.args.text.now = grind arith in
    rw c.trimmed-in-None.ensures (line_last c.args.text.now some (sym c.first_line_feed.ensures ∙ c.in-None.is))
