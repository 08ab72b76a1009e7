use Rattle.std.proofs.Common.{subst, ◌≤◌, ◌+◌, ℕ, List, IfOk}
use Rattle.calendars.specs.Assignments.{Assignment, Agrees}
use Rattle.safe_intervals.specs.declared.interval.Interval.{Interval}
use Rattle.sipp_search.specs.Scratch.{Scratch}
use Rattle.sipp_search.specs.Answer.{AreListsOf, interval_count, IsFoundWalk}
use Rattle.sipp_search.proofs.searcher.Searcher.find_walk.Goals as goal

pub returns-clause-answer : goal.returns-clause-answer
returns-clause-answer g c =
    subst (λ (z : Scratch). IfOk c.find_in.result (λ found. (a : Assignment) → Agrees a (g.V.CalendarView.known c.find_in.new.view) → IsFoundWalk c.args.grid.now z.horizon a c.args.request found)) c.self.view_is c.find_in.ensures.answer

pub returns-clause-takes : goal.returns-clause-takes
returns-clause-takes g c =
    subst (λ (z : Scratch). (lists : ℕ → List Interval) → AreListsOf (g.V.CalendarView.known c.find_in.new.view) z.horizon lists
    → c.find_in.new.steps ≤ c.args.steps.now + interval_count (g.V.CalendarView.known c.find_in.new.view) lists (g.V.CalendarView.size c.find_in.new.view)) c.self.view_is c.find_in.ensures.takes
