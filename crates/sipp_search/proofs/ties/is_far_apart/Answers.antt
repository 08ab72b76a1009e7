use Rattle.std.proofs.Common.{arith, nat_lt}
use Rattle.std.proofs.lemmas.Bool.{ltb-true}
use Rattle.static_distance.proofs.Places.{way_long}
use Rattle.sipp_search.proofs.Paused.{on_true, way_from_start}
use Rattle.sipp_search.proofs.ties.is_far_apart.Goals as goal

pub returns-in_default : goal.returns-in_default
returns-in_default c = record {
  far = λ a d of reached.
      (let way = way_from_start c.args.task.now.grid.now c.args.task.now.request a reached in
      omega (arith, way.2, c.in_default.ensures));
}

pub returns : goal.returns
returns c = record {
  far = on_true (nat_lt c.in-Some.since c.moves_between.result) _ (λ less a d of reached.
      (let way = way_from_start c.args.task.now.grid.now c.args.task.now.request a reached in
      let long = way_long c.args.task.now.grid.now c.args.ties.now.start c.requires.ties.1.place_is way.1 in
      omega (arith, ltb-true c.in-Some.since c.moves_between.result less, way.2, long, c.in-Some.ensures, c.moves_between.ensures.moves, of)));
}
