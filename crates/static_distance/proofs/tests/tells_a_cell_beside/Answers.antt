use Rattle.std.proofs.Common.{◌<◌, ◌^◌, rules}
use Rattle.static_distance.proofs.tests.tells_a_cell_beside.Goals as goal

pub to_goal_at-requires-clause-place : goal.to_goal_at-requires-clause-place
to_goal_at-requires-clause-place g c =
    let small : c.in-Some.under.0 < 2 ^ 32 = search rules in
    c.beside-place.ensures c.expect-grid.result (record { 0 = 0 }) c.in-Some.under small c.place_of-first.ensures.place c.in-Some.ensures.beside
