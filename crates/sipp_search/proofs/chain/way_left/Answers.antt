use Rattle.std.proofs.Common.{rules, arith, ◌≡◌, ◌<◌, length, vec_len}
use Rattle.sipp_search.proofs.Growing.{newest_within, newest_left}
use Rattle.sipp_search.proofs.chain.way_left.Goals as goal

pub index-requires : goal.index-requires
index-requires g c =
    let some : 0 < c.get-newest.result = omega (arith, c.if-newest-ne0.true) in
    let len : vec_len c.args.arena.now.states ≡ length c.args.arena.now.states.items = search rules in
    omega (
      arith,
      newest_within c.args.task.now.grid.now c.args.task.now.request.goal c.args.task.now.horizon (g.V.CalendarView.known c.args.view.now) c.args.arena.now.states.items c.args.arena.now.newest c.requires.sound.arranged
          c.args.cell c.get-newest.result c.get-newest.ensures some,
    )

pub returns-then-newest-ne0-clause-some : goal.returns-then-newest-ne0-clause-some
returns-then-newest-ne0-clause-some g c =
    let some : 0 < c.get-newest.result = omega (arith, c.if-newest-ne0.true) in
    newest_left c.args.task.now.grid.now c.args.task.now.request.goal c.args.task.now.horizon (g.V.CalendarView.known c.args.view.now) c.args.arena.now.states.items c.args.arena.now.newest c.requires.sound.arranged
    c.args.cell c.get-newest.result c.get-newest.ensures some c.index.result.now c.index.ensures
