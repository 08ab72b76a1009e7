use Rattle.std.proofs.Common.{◌≡◌, ◌≤◌, length, take}
use Rattle.tail_run.specs.Ids.{ids_of}
use Rattle.tail_run.proofs.ids.ids_given.Given as goal

abbrev pub invariant-loop-answer : goal.invariant-loop-answer
invariant-loop-answer l = record {
  so_far : l.ids.items ≡ ids_of l.fn.count (take l.answer-index l.answers);
  long : length l.ids.items ≡ l.fn.count;
  answers_same : l.answers ≡ l.fn.answers;
  within : l.answer-index ≤ length l.answers;
}
