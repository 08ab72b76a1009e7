use Rattle.std.proofs.Common.{◌≡◌, length}
use Rattle.planner_pool.specs.LaneSteps.{IsAt}
use Rattle.planner_pool.proofs.lane.run_lane.Given as goal

abbrev pub invariant-loop-next : goal.invariant-loop-next
invariant-loop-next g l =
    g.B.SharedBook.has_pass l.fn.book l.pass × IsAt l.fn.lane (g.B.SharedBook.pass_view l.fn.pass) l.next l.answers.items (g.B.SharedBook.pass_view l.pass)
    × (l.next-end ≡ length l.fn.lane.orders) × (l.book ≡ l.fn.book) × (l.lane ≡ l.fn.lane) × (l.caller ≡ l.fn.caller) × (l.gate ≡ l.fn.gate)
