use Rattle.std.proofs.Common.{◌≡◌, vec_len}
use Rattle.sipp_search.proofs.tests.view_of.Given as goal

abbrev pub invariant-loop-time : goal.invariant-loop-time
invariant-loop-time l = vec_len l.calendars ≡ l.time-index
