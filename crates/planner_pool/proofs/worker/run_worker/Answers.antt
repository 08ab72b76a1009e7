use Rattle.std.proofs.Common.{rules, ◌≡◌, length, Some, refl, sym, ap, ◌∙◌, subst, arith}
use Rattle.std.specs.Prelude.{slice_get}
use Rattle.book_trait.specs.Passes.{fresh}
use Rattle.ticket_line.specs.Tickets.{drawn}
use Rattle.std.proofs.lemmas.Option.{slice_get_read}
use Rattle.planner_pool.specs.Parts.{IsWorking, HasWorked}
use Rattle.planner_pool.proofs.WorkLemmas.{working_start, working_next, has_worked, lane_few}
use Rattle.planner_pool.proofs.worker.run_worker.Goals as goal

pub loop-k-init : goal.loop-k-init
loop-k-init g c =
    let new = c.requires.ticket.1 in (
      c.requires.pass.0,
      rw (new.nothing, c.new-answers.ensures.items, c.new-left.ensures.items, c.requires.pass.1) (working_start c.args.lanes.now _),
      c.requires.ticket.0,
      new.part,
      new.not_ended,
      (let none = ap length new.nothing in omega arith),
      refl,
      refl,
      refl,
      refl,
      refl,
    )

pub run_lane-requires-clause-lane : goal.run_lane-requires-clause-lane
run_lane-requires-clause-lane g c κs within =
    let below = c.in-Some.ensures.some.0 in
    (c.requires.lanes.each c.in-Some.k _ (slice_get_read c.args.lanes.now (length c.args.lanes.now) c.in-Some.k _ refl (let l = c.requires.line in omega arith) c.index-lanes-k.is))

pub overflow_cast-len : goal.overflow_cast-len
overflow_cast-len g c =
    let below = c.in-Some.ensures.some.0 in
    let at : slice_get c.args.lanes.now c.in-Some.k ≡ Some c.index-lanes-k.result = slice_get_read c.args.lanes.now (length c.args.lanes.now) c.in-Some.k _ refl (let l = c.requires.line in omega arith) c.index-lanes-k.is in
    let few = lane_few c.index-lanes-k.result c.in_ok-mine.mine.items c.in_ok-mine.done _ _ (c.requires.lanes.each c.in-Some.k _ at).1 c.in_ok-mine.ensures.answered in
    search rules

pub overflow_add-lane : goal.overflow_add-lane
overflow_add-lane g c =
    let below = c.in-Some.ensures.some.0 in
    let at : slice_get c.args.lanes.now c.in-Some.k ≡ Some c.index-lanes-k.result = slice_get_read c.args.lanes.now (length c.args.lanes.now) c.in-Some.k _ refl (let l = c.requires.line in omega arith) c.index-lanes-k.is in
    let few = lane_few c.index-lanes-k.result c.in_ok-mine.mine.items c.in_ok-mine.done _ _ (c.requires.lanes.each c.in-Some.k _ at).1 c.in_ok-mine.ensures.answered in
    search rules

pub loop-k-preserved : goal.loop-k-preserved
loop-k-preserved g c =
    let some = c.in-Some.ensures.some in
    let below = some.0 in
    let at : slice_get c.args.lanes.now c.in-Some.k ≡ Some c.index-lanes-k.result = slice_get_read c.args.lanes.now (length c.args.lanes.now) c.in-Some.k _ refl (let l = c.requires.line in omega arith) c.index-lanes-k.is in (
      c.in_ok-mine.ensures.pass,
      working_next c.args.lanes.now _ _ _ _ _ _ c.in_ok-mine.mine.items _ _ _ c.in-Some.k c.len.result c.index-lanes-k.result c.in_ok-mine.done c.loop-k.invariant.1 at c.in_ok-mine.ensures.answered some.1 (search rules) (search rules) (search rules),
      c.in-Some.ensures.of.0,
      c.in-Some.ensures.of.1 ∙ c.loop-k.invariant.3,
      some.2,
      c.in-Some.ensures.few,
      refl,
      refl,
      refl,
      refl,
      refl,
    )

pub returns-clause-worked : goal.returns-clause-worked
returns-clause-worked g c =
    let none = c.in_default.ensures.none in
    subst (λ j. HasWorked c.args.lanes.now (drawn c.draw.new.ticket) c.loop-k.answers.items c.loop-k.left.items j) (sym c.rest.ensures.view) (has_worked c.args.lanes.now c.args.caller _ _ _ _ (subst (λ d. IsWorking c.args.lanes.now (fresh c.args.caller) d c.loop-k.answers.items c.loop-k.left.items (g.B.SharedBook.pass_view c.loop-k.pass)) (sym none.0) c.loop-k.invariant.1))
