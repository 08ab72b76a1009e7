use Rattle.std.proofs.lemmas.Result.{on_ok_weaker}
use Rattle.static_distance.proofs.RowLemmas.{away_left, away_right, spread_within}
use Rattle.static_distance.proofs.distances.Distances.spread_within.Goals as goal

pub returns-clause-spread : goal.returns-clause-spread
returns-clause-spread c = on_ok_weaker c.enter.result
    (λ has. spread_within c.args.grid.now c.args.span c.args.word c.lowered.result c.raised.result c.either-away.result c.args.self.now c.enter.new.self c.requires.span
    c.requires.inside c.ranges.word.fits c.requires.shut_left c.requires.shut_right
    (away_left c.args.word c.args.falling c.without.result c.lowered.result c.args.span.column c.args.self.now.toward.column c.ranges.word.fits
    c.requires.falling c.without.ensures c.lowered.ensures)
    (away_right c.args.word c.args.rising c.without-2.result c.raised.result c.args.span.column c.args.self.now.toward.column c.ranges.word.fits
    c.requires.rising c.without-2.ensures c.raised.ensures)
    c.either-away.ensures has)
    c.enter.ensures.entered
