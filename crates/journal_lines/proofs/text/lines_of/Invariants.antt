use Rattle.std.proofs.Common.{◌≡◌, ◌++◌, drop, map}
use Rattle.journal_lines.specs.Lines.{journal_lines, lines_from}
use Rattle.journal_lines.specs.Totals.{CountAtMost}
use Rattle.journal_lines.proofs.text.lines_of.Given as goal

abbrev pub invariant-loop-answer : goal.invariant-loop-answer
invariant-loop-answer l = record {
  to_come : l.lines.items ++ lines_from l.grid l.lanes l.totals (map (λ a. a.now) (drop l.answer-index l.printed)) ≡ journal_lines l.grid l.lanes (map (λ a. a.now) l.printed);
  counted : CountAtMost l.answer-index l.totals;
}
