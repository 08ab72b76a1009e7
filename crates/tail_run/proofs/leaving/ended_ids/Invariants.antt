use Rattle.std.proofs.Common.{◌≤◌, length, take}
use Rattle.tail_run.specs.Leaving.{ended_ids, HasIds}
use Rattle.tail_run.proofs.leaving.ended_ids.Given as goal

abbrev pub invariant-loop-answer : goal.invariant-loop-answer
invariant-loop-answer l = record {
  has : HasIds l.ended.keys (ended_ids (take l.answer-index l.answers));
  within : l.answer-index ≤ length l.answers;
}
