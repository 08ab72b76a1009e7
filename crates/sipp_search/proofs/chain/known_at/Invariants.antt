use Rattle.std.proofs.Common.{◌≡◌}
use Rattle.sipp_search.specs.Marks.{spots_of}
use Rattle.sipp_search.proofs.Chains.{IsAlong}
use Rattle.sipp_search.proofs.chain.known_at.Given as goal

abbrev pub invariant-loop-next : goal.invariant-loop-next
invariant-loop-next l = IsAlong (spots_of l.arena.states.items) l.fn.cell (λ p. p.place ≡ l.place) l.next

abbrev pub decreases-loop-next : goal.decreases-loop-next
decreases-loop-next l = l.next
