use Rattle.safe_intervals.specs.Safe.{IsIn}
use Rattle.sipp_search.specs.Marks.{spots_of}
use Rattle.sipp_search.proofs.Chains.{IsAlong}
use Rattle.sipp_search.proofs.chain.place_at.Given as goal

abbrev pub invariant-loop-next : goal.invariant-loop-next
invariant-loop-next l = IsAlong (spots_of l.arena.states.items) l.fn.cell (λ p. IsIn l.time p.interval) l.next

abbrev pub decreases-loop-next : goal.decreases-loop-next
decreases-loop-next l = l.next
