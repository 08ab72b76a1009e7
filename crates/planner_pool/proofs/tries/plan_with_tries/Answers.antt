use Rattle.std.proofs.Common.{arith}
use Rattle.planner_pool.proofs.TryLemmas.{goes_plan}
use Rattle.planner_pool.proofs.tries.plan_with_tries.Goals as goal

pub returns-in-Ok-clause-tried : goal.returns-in-Ok-clause-tried
returns-in-Ok-clause-tried g c = goes_plan _ _ _ _ _ _ c.loop.invariant.1 (omega arith) c.in-Ok.ensures.made
