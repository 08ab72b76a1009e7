use Rattle.std.proofs.Common.{◌≡◌, ◌≤◌, ◌-◌, false, length}
use Rattle.book_trait.specs.Passes.{fresh}
use Rattle.ticket_line.specs.Tickets.{IsOf, parts, drawn, has_ended, count_of}
use Rattle.planner_pool.specs.Parts.{IsWorking}
use Rattle.planner_pool.proofs.worker.run_worker.Given as goal

abbrev pub invariant-loop-k : goal.invariant-loop-k
invariant-loop-k g l =
    g.B.SharedBook.has_pass l.fn.book l.pass × IsWorking l.fn.lanes (fresh l.fn.caller) (drawn l.ticket) l.answers.items l.left.items (g.B.SharedBook.pass_view l.pass)
    × IsOf l.fn.line l.ticket × (parts l.ticket ≡ 1) × (has_ended l.ticket ≡ false) × (length (drawn l.ticket) ≤ count_of l.fn.line)
    × (l.book ≡ l.fn.book) × (l.caller ≡ l.fn.caller) × (l.line ≡ l.fn.line) × (l.lanes ≡ l.fn.lanes) × (l.gate ≡ l.fn.gate)

abbrev pub decreases-loop-k : goal.decreases-loop-k
decreases-loop-k g l = count_of l.fn.line - length (drawn l.ticket)
