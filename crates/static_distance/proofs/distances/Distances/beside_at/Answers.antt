use Rattle.std.proofs.Common.{◌≡◌, ◌+◌, ℕ, ap, ◌∙◌}
use Rattle.std.specs.Prelude.{min}
use Rattle.std.proofs.lemmas.Bool.{iff_false}
use Rattle.static_distance.specs.Levels.{apart}
use Rattle.static_distance.specs.Spans.{flood_of}
use Rattle.static_distance.proofs.Ways.{way_open}
use Rattle.static_distance.proofs.SpreadLemmas.{flood_distance}
use Rattle.static_distance.proofs.BesideLemmas.{place_near, between_apart}
use Rattle.static_distance.proofs.distances.Distances.beside_at.Goals as goal

pub returns-then-not-is_open-clause-distance : goal.returns-then-not-is_open-clause-distance
returns-then-not-is_open-clause-distance c = λ k way. iff_false c.is_open.ensures c.if-not-is_open.true (way_open c.args.grid.now way)

pub moves_between-requires-clause-from : goal.moves_between-requires-clause-from
moves_between-requires-clause-from c =
    let from = c.requires.from in place_near c.args.grid.now from.0 c.args.from c.cells-limits.ensures.limits (way_open c.args.grid.now from.4.way) from.2

pub count_beside-requires-clause-from : goal.count_beside-requires-clause-from
count_beside-requires-clause-from c =
    let from = c.requires.from in
    let toward = c.args.self.now.toward in
    let moves : c.moves_between.result ≡ apart c.args.grid.now toward from.0 = c.moves_between.ensures.moves ∙ between_apart c.args.grid.now toward c.args.from from.0 from.2 in
    (from.0, from.1, from.3, from.4, c.saturating_add-level.ensures ∙ ap (λ (n : ℕ). min (c.args.left + n) 4294967295) moves)

pub returns-in-Some-clause-distance : goal.returns-in-Some-clause-distance
returns-in-Some-clause-distance c =
    let g = c.args.grid.now in
    flood_distance g (flood_of g c.args.self.now) c.requires.aimed.flood c.args.cell c.in-Some.moves c.in-Some.ensures.some
