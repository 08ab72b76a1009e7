use Rattle.std.proofs.Common.{rules, ◌≡◌, ◌+◌, ◌++◌, ◌∷◌, [], ap, ◌∙◌, arith}
use Rattle.book_trait.specs.Passes.{fresh}
use Rattle.planner_pool.proofs.CrewLemmas.{done_ok, only_get}
use Rattle.planner_pool.proofs.crew.run_single.Goals as goal

pub run_worker-requires-clause-pass : goal.run_worker-requires-clause-pass
run_worker-requires-clause-pass g c κs within =
    let popped : c.args.passes.items ≡ c.pop.new.self.items ++ c.in-Some.pass ∷ [] = search rules in
    let f = c.requires.can.fresh_passes.each 0 c.in-Some.pass (only_get _ _ _ c.requires.one popped) in
    let z : c.args.first + 0 ≡ c.args.first = omega arith in
    (f.0, f.1 ∙ ap fresh z)

pub run_worker-requires-clause-ticket : goal.run_worker-requires-clause-ticket
run_worker-requires-clause-ticket g c κs within =
    let popped : c.args.tickets.items ≡ c.pop-2.new.self.items ++ c.in-Some-pop.ticket ∷ [] = search rules in
    c.requires.can.new_tickets.each 0 c.in-Some-pop.ticket (only_get _ _ _ (c.requires.can.one_each ∙ c.requires.one) popped)

pub returns : goal.returns
returns g c =
    done_ok (g.B.SharedBook.book c.args.book.now) (g.B.SharedBook.has_joined c.args.book.now) g.B.SharedBook.joined_view c.args.line.now c.args.lanes.now c.args.first c.run_worker.result c.run_worker.ensures.joined c.run_worker.ensures.is_joined c.run_worker.ensures.ticket c.run_worker.ensures.all
    c.run_worker.ensures.worked
