use Rattle.std.proofs.Common.{rules, refl, length}
use Rattle.tail_run.proofs.LanesLemmas.{may_resume, begins, numbers_within}
use Rattle.tail_run.proofs.finishing.begin.Goals as goal

pub resume-requires-clause-live : goal.resume-requires-clause-live
resume-requires-clause-live c =
    may_resume c.args.grid c.args.horizon (length c.args.grid.cells) c.args.lanes.now c.requires.lanes c.args.made.items c.in_ok-routes.routes.items c.top_stamp-stamp.result
    (search rules) (search rules) c.requires.begun.0 c.requires.begun.1

pub ids_given-requires : goal.ids_given-requires
ids_given-requires c =
    numbers_within c.args.grid c.args.horizon (length c.args.grid.cells) c.args.lanes.now c.requires.lanes c.args.made.items c.requires.begun.0 c.requires.begun.1 c.deref-4.result.now
    c.count_orders.result c.deref-4.ensures.value c.count_orders.ensures

pub returns : goal.returns
returns c =
    begins c.args.grid c.args.horizon (length c.args.grid.cells) c.args.lanes.now c.requires.lanes c.args.made.items c.in_ok-routes.routes.items c.top_stamp-stamp.result (search rules) (search rules)
    c.ended_count-era.result record { book = c.in_ok-book.book; ids = c.in_ok-ids.ids; answers = c.args.made } (search rules) c.in_ok-book.ensures (search rules) refl
