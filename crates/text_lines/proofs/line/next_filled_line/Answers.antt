use Rattle.std.proofs.Common.{◌+◌, sym, ◌∙◌, arith}
use Rattle.text_lines.specs.Lines.{lines_of}
use Rattle.text_lines.proofs.NumberedLemmas.{numbered_none, numbered_empty, numbered_filled}
use Rattle.text_lines.proofs.line.next_filled_line.Goals as goal

pub returns-then-not-is_empty-clause-line : goal.returns-then-not-is_empty-clause-line
returns-then-not-is_empty-clause-line c =
    sym c.loop-line.invariant.same ∙ numbered_filled (c.loop-line.number + 1) (lines_of c.loop-line.rest.now) _ _ c.in-Some.ensures.line (λ e. grind arith)

pub loop-line-preserved : goal.loop-line-preserved
loop-line-preserved c = record {
  same = sym (numbered_empty (c.loop-line.number + 1) (lines_of c.loop-line.rest.now) _ _ c.in-Some.ensures.line (grind arith)) ∙ c.loop-line.invariant.same;
  room = omega (arith, c.in-Some.ensures.shorter);
  shorter = omega (arith, c.in-Some.ensures.shorter);
}

pub returns-clause-line : goal.returns-clause-line
returns-clause-line c = sym c.loop-line.invariant.same ∙ numbered_none (c.loop-line.number + 1) (lines_of c.loop-line.rest.now) c.in_default.ensures.line
