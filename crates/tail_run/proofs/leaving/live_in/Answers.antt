use Rattle.std.proofs.Common.{◌≡◌}
use Rattle.fleet_base.specs.declared.request.Entry.TheVariants as E
use Rattle.tail_run.proofs.LoopLemmas.{was_ended, is_live}
use Rattle.tail_run.proofs.leaving.live_in.Goals as goal

pub returns-then-contains : goal.returns-then-contains
returns-then-contains c =
    let made = c.in-Made-default-Commit in
    let entry : made.entry ≡ E.Commit made.id made.entry-1 made.entry-2 made.walk = cc in
    was_ended c.args.ended.now.keys c.args.answer.now made.order made.entry made.id made.entry-1 made.entry-2 made.walk made.is entry c.if-contains.ensures

pub returns : goal.returns
returns c =
    let made = c.in-Made-default-Commit in
    let entry : made.entry ≡ E.Commit made.id made.entry-1 made.entry-2 made.walk = cc in
    is_live c.args.ended.now.keys c.args.answer.now made.order made.entry made.id made.entry-1 made.entry-2 made.walk made.is entry
    c.in_ok-copy_of.field-0 c.in_ok-copy_of.ensures c.if-contains.ensures
