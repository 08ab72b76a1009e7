use Rattle.std.proofs.Common.{◌∙◌, rules}
use Rattle.std.proofs.Math.Nat.{mul_comm}
use Rattle.text_lines.specs.Lines.{lines_of}
use Rattle.map_text.specs.MapGrammar.{map_of}
use Rattle.map_text.proofs.FirstLines.{reported}
use Rattle.map_text.proofs.RowLemmas.{rows_length}
use Rattle.map_text.proofs.reading.read_map.Goals as goal

pub new-requires : goal.new-requires
new-requires c =
    let n = rows_length c.in_ok-header.header.width 5 c.in_ok-header.header.height _ _ c.in_ok-cells.ensures.rows in
    let f = c.in_ok-header.ensures in
    record { wide = f.wide; high = f.high; area = f.area; full = n ∙ mul_comm c.in_ok-header.header.height c.in_ok-header.header.width }

pub returns-in_err-header-clause-grammar : goal.returns-in_err-header-clause-grammar
unfolding map_of
returns-in_err-header-clause-grammar c = search rules

pub returns-in_err-header-clause-first_lines : goal.returns-in_err-header-clause-first_lines
returns-in_err-header-clause-first_lines c = reported (λ grid. grid) c.from_residual.result (lines_of c.args.text.now) (returns-in_err-header-clause-grammar c)

pub returns-in_err-cells-clause-grammar : goal.returns-in_err-cells-clause-grammar
unfolding map_of
returns-in_err-cells-clause-grammar c = search rules

pub returns-in_err-cells-clause-first_lines : goal.returns-in_err-cells-clause-first_lines
returns-in_err-cells-clause-first_lines c = reported (λ grid. grid) c.from_residual-in_err-cells.result (lines_of c.args.text.now) (returns-in_err-cells-clause-grammar c)

pub returns-in_err-check_ending-clause-grammar : goal.returns-in_err-check_ending-clause-grammar
unfolding map_of
returns-in_err-check_ending-clause-grammar c = search rules

pub returns-in_err-check_ending-clause-first_lines : goal.returns-in_err-check_ending-clause-first_lines
returns-in_err-check_ending-clause-first_lines c = reported (λ grid. grid) c.from_residual-in_err-check_ending.result (lines_of c.args.text.now) (returns-in_err-check_ending-clause-grammar c)
