use Rattle.std.proofs.Common.{◌≡◌, ◌≤◌, length, map, drop}
use Rattle.std.specs.List.{concat}
use Rattle.journal_lines.specs.Totals.{CountAtMost}
use Rattle.journal_lines.specs.Lines.{journal_lines, lines_from}
use Rattle.fleet_run.specs.Writing.{IsWritingOn}
use Rattle.fleet_run.proofs.writing.write_journal.Given as goal

abbrev pub invariant-loop-answer : goal.invariant-loop-answer
invariant-loop-answer g l = record {
  writing : IsWritingOn (g.S.Sink.told l.fn.out) (g.S.Sink.faults l.fn.out) (g.S.Sink.told l.out) (g.S.Sink.faults l.out)
      (concat (journal_lines l.fn.grid l.fn.lanes (map (λ a. a.now) l.fn.printed))) (concat (lines_from l.fn.grid l.fn.lanes l.totals (drop l.answer-index (map (λ a. a.now) l.fn.printed))));
  counted : CountAtMost l.answer-index l.totals;
  within : l.answer-index ≤ length l.fn.printed;
  same : (l.grid ≡ l.fn.grid) × (l.lanes ≡ l.fn.lanes) × (l.printed ≡ l.fn.printed);
}
