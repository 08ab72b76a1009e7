use Rattle.std.proofs.Common.{rules, ◌+◌, ◌/◌, length}
use Rattle.planner_pool.specs.Crew.{CanRun}
use Rattle.planner_pool.proofs.CrewLemmas.{can_first, can_second}
use Rattle.planner_pool.proofs.crew.+fn-run_crew-join+arg2+fn-run_crew-join+arg3+run_crew.Goals as goal

pub join-a-requires-after_bounds : goal.join-a-requires-after_bounds
join-a-requires-after_bounds g t c κs within =
    let half = c.len-half.result / 2 in
    let cells = length (g.B.SharedBook.book c.args.book.now).grid.cells in
    let first : CanRun (g.B.SharedBook.has_pass c.args.book.now) g.B.SharedBook.pass_view c.args.line.now cells c.args.lanes.now c.args.first c.split_off.new.self.items c.split_off-2.new.self.items =
    can_first _ _ _ _ _ _ half c.args.passes.items _ c.args.tickets.items _ c.requires (search rules) (search rules) (search rules) (search rules) (search rules) (search rules) in
    let second : CanRun (g.B.SharedBook.has_pass c.args.book.now) g.B.SharedBook.pass_view c.args.line.now cells c.args.lanes.now (c.args.first + half) c.in_ok-later.later.items c.in_ok-later_tickets.later_tickets.items =
    can_second _ _ _ _ _ _ half c.args.passes.items _ c.args.tickets.items _ c.requires (search rules) (search rules) (search rules) (search rules) (search rules) in
    search rules

pub fn::run_crew::join+arg2+FnOnce::call_once-join+arg2-requires :
    goal.fn::run_crew::join+arg2+FnOnce::call_once-join+arg2-requires
fn::run_crew::join+arg2+FnOnce::call_once-join+arg2-requires g t c κs within =
    let r = c.requires.1.1.1.1.1.1.1 in (
      search rules,
      (within.0, (within.1.0, (within.1.1.0, (within.1.1.1.0, (within.1.1.1.1.0, (within.1.1.1.1.1.0, (within.1.1.1.1.1.1, (search rules, (search rules, (search rules, (search rules, (search rules, (search rules, (search rules, r.0)))))))))))))),
    )

pub fn::run_crew::join+arg3+FnOnce::call_once-join+arg3-requires :
    goal.fn::run_crew::join+arg3+FnOnce::call_once-join+arg3-requires
fn::run_crew::join+arg3+FnOnce::call_once-join+arg3-requires g t c κs within =
    let r = c.requires.1.1.1.1.1.1.1 in (
      search rules,
      (within.0, (within.1.0, (within.1.1.0, (within.1.1.1.0, (within.1.1.1.1.0, (within.1.1.1.1.1.0, (within.1.1.1.1.1.1, (search rules, (search rules, (search rules, (search rules, (search rules, (search rules, (search rules, r.0)))))))))))))),
    )
