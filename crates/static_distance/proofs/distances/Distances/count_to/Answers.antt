use Rattle.std.proofs.Common.{sym, subst, ◌∙◌}
use Rattle.std.proofs.lemmas.Bool.{false≢true}
use Rattle.fleet_base.specs.declared.grid.Cell.{Cell}
use Rattle.static_distance.specs.Distance.{IsWay, IsDistance}
use Rattle.static_distance.specs.Marks.{marks_of}
use Rattle.static_distance.specs.Spans.{flood_of}
use Rattle.static_distance.proofs.SpreadLemmas.{flood_distance, flood_no_way}
use Rattle.static_distance.proofs.FloodLemmas.{none_stand}
use Rattle.static_distance.proofs.AimLemmas.{told_distance}
use Rattle.static_distance.proofs.distances.Distances.count_to.Goals as goal

pub returns-then-not-branch-clause-distance : goal.returns-then-not-branch-clause-distance
returns-then-not-branch-clause-distance c = λ k way.
    (let none = rw c.if-not-branch.true at c.in_ok-advance.ensures.none in
    let free = c.is_free.ensures.0 c.loop-self-test.true in
    let g = c.args.grid.now in
    let d = c.loop-self.self in
    let aimed = c.loop-self.invariant.aimed in
    flood_no_way g (flood_of g d) aimed.flood
    (λ z stands. none_stand g d.known d.here.words.items d.here.spans.items z aimed.spans.here_listed none.here stands)
    (λ z stands. none_stand g d.known d.next.words.items d.next.spans.items z aimed.spans.next_listed none.next stands) c.args.cell free k
    (subst (λ (z : Cell). IsWay g z c.args.cell k) (sym c.loop-self.invariant.goal) way))

pub returns-clause-distance : goal.returns-clause-distance
returns-clause-distance c =
    let g = c.args.grid.now in
    let d = c.loop-self.self in
    told_distance g c.args.self.now.goal c.args.cell (marks_of g d) c.moves_at.result (λ free. false≢true (sym c.loop-self-test.false ∙ c.is_free.ensures.1 free)) c.moves_at.ensures.some c.moves_at.ensures.none
    (λ k counted. subst (λ (z : Cell). IsDistance g z c.args.cell k) c.loop-self.invariant.goal (flood_distance g (flood_of g d) c.loop-self.invariant.aimed.flood c.args.cell k counted))
