use Rattle.std.proofs.Common.{◌≡◌, List, length}
use Rattle.lane_runs.specs.declared.answer.Answer.{Answer}
use Rattle.tail_run.specs.Tails.{IsStart, IsAtPlace}
use Rattle.tail_run.proofs.lane.finish_lane.Given as goal

abbrev pub invariant-loop-place : goal.invariant-loop-place
invariant-loop-place l = record {
  so_far : (xs : List Answer) → IsStart l.fn.lane xs l.fn.from l.fn.tail → IsAtPlace l.fn.caller l.fn.lane xs l.fn.tail l.place l.tail;
  lane_same : l.lane ≡ l.fn.lane;
  caller_same : l.caller ≡ l.fn.caller;
  end_is : l.place-end ≡ length l.fn.lane.orders;
}
