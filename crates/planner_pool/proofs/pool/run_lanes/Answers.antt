use Rattle.std.proofs.Common.{rules, ◌≡◌, List, length, sym, subst, arith}
use Rattle.ticket_line.specs.Tickets.{drawn, count_of, workers_of}
use Rattle.ticket_line.specs.Numbers.{EachOnce}
use Rattle.lane_runs.specs.declared.answer.Answer.{Answer}
use Rattle.lane_runs.specs.declared.answer.Left.{Left}
use Rattle.planner_pool.specs.PoolRun.{IsPoolRun}
use Rattle.planner_pool.proofs.PoolLemmas.{are_new, are_on_grid, pool_run}
use Rattle.planner_pool.proofs.pool.run_lanes.Goals as goal

pub run_crew-requires-after_bounds : goal.run_crew-requires-after_bounds
run_crew-requires-after_bounds g c κs within =
    let o = c.in_ok-line.ensures in
    record {
      some_passes = c.requires.workers.0;
      few = (let w = c.requires.workers.1 in omega arith);
      fresh_passes = c.requires.passes.1;
      one_each = search rules;
      new_tickets = are_new c.in_ok-line.line c.in_ok-line.tickets.items o.tickets.1;
      count = search rules;
      on_grid = are_on_grid _ c.args.lanes.now c.requires.lanes;
    }

pub returns-clause-run : goal.returns-clause-run
returns-clause-run g c =
    let o = c.in_ok-line.ensures in
    let d = c.in_ok-answers.ensures in
    let w = c.in_ok-answers.field-0 in
    let count : count_of c.in_ok-line.line ≡ length c.args.lanes.now = search rules in
    let all : workers_of c.in_ok-line.line ≡ length c.args.passes.items = search rules in
    subst (λ (z : List Answer × List Left). IsPoolRun c.args.lanes.now z.0 z.1 (g.B.SharedBook.joined_view w.joined)) (λ i. (sym c.new.ensures i, sym c.new-2.ensures i))
    (pool_run (g.B.SharedBook.book c.args.book.now) c.args.lanes.now (length c.args.passes.items) (drawn w.ticket) w.answers.items w.left.items (g.B.SharedBook.joined_view w.joined)
    c.requires.passes.0 d.is_joined d.callers (subst (λ n. EachOnce n (drawn w.ticket)) count (d.all all)) d.worked)
