use Rattle.std.proofs.Common.{◌≡◌, ◌≤◌, length, map, take}
use Rattle.journal_lines.specs.Totals.{totals_of, CountAtMost}
use Rattle.fleet_run.proofs.runs.count_all.Given as goal

abbrev pub invariant-loop-answer : goal.invariant-loop-answer
invariant-loop-answer l = record {
  so_far : l.totals ≡ totals_of (map (λ a. a.now) (take l.answer-index l.answers));
  counted : CountAtMost l.answer-index l.totals;
  within : l.answer-index ≤ length l.answers;
}
