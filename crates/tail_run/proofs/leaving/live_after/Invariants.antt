use Rattle.std.proofs.Common.{◌≡◌, ◌≤◌, length, take}
use Rattle.std.specs.List.{filter_map}
use Rattle.tail_run.specs.Leaving.{ended_ids, route_unless, HasIds}
use Rattle.tail_run.proofs.leaving.live_after.Given as goal

abbrev pub invariant-loop-answer : goal.invariant-loop-answer
invariant-loop-answer l = record {
  so_far : l.routes.items ≡ filter_map (route_unless l.ended.keys) (take l.answer-index l.answers);
  has : HasIds l.ended.keys (ended_ids l.fn.answers);
  answers_same : l.answers ≡ l.fn.answers;
  within : l.answer-index ≤ length l.answers;
}
