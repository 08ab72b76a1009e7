use Rattle.std.proofs.Common.{◌≡◌, ◌≤◌, length, take}
use Rattle.tail_run.specs.Leaving.{top_stamp}
use Rattle.tail_run.proofs.leaving.top_stamp.Given as goal

abbrev pub invariant-loop-answer : goal.invariant-loop-answer
invariant-loop-answer l = record {
  so_far : l.top ≡ top_stamp (take l.answer-index l.answers);
  within : l.answer-index ≤ length l.answers;
}
