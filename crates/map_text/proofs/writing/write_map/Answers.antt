use Rattle.std.proofs.Common.{◌++◌, ◌∙◌, ap, List, ℕ}
use Rattle.std.specs.Prelude.{codes}
use Rattle.text_lines.specs.Lines.{lines_of}
use Rattle.map_text.specs.MapGrammar.{map_of}
use Rattle.map_text.proofs.RoundTrip.{read_again}
use Rattle.map_text.proofs.WritingLemmas.{chained}
use Rattle.map_text.proofs.writing.write_map.Goals as goal

pub returns-clause-text : goal.returns-clause-text
returns-clause-text c = chained c.args.grid.now c.height-height.result c.width-width.result c.cells-cells.result.now _ _ _ _ _ c.height-height.ensures c.width-width.ensures c.cells-cells.ensures.cells
    (c.in_ok-extend_from_slice.ensures.items ∙ ap (λ (xs : List ℕ). xs ++ codes "type octile\n") c.in_ok-text.ensures.items)
    c.in_ok-push_size.ensures c.in_ok-push_size-2.ensures c.in_ok-extend_from_slice-2.ensures.items c.in_ok-push_rows.ensures

pub returns-clause-read_again : goal.returns-clause-read_again
returns-clause-read_again c = ap (λ (xs : List ℕ). map_of (lines_of xs)) (returns-clause-text c) ∙ read_again c.args.grid.now c.cells-cells.ensures.limits
