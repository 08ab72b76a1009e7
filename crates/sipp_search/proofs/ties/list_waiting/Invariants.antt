use Rattle.sipp_search.proofs.Nearby.{AreListed}
use Rattle.sipp_search.proofs.ties.list_waiting.Given as goal

abbrev pub invariant-loop-id : goal.invariant-loop-id
invariant-loop-id l = AreListed l.task.grid.now l.arena.states.items l.arena.queue.floor l.id-items l.id-index l.waiting.items
