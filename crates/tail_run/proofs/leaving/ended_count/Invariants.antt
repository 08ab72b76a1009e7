use Rattle.std.proofs.Common.{◌≡◌, ◌≤◌, length, take}
use Rattle.tail_run.specs.Leaving.{ended_count}
use Rattle.tail_run.proofs.leaving.ended_count.Given as goal

abbrev pub invariant-loop-answer : goal.invariant-loop-answer
invariant-loop-answer l = record {
  so_far : l.count ≡ ended_count (take l.answer-index l.answers);
  few : l.count ≤ l.answer-index;
  within : l.answer-index ≤ length l.answers;
}
