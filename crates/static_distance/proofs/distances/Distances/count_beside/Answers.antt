use Rattle.std.proofs.Common.{◌≡◌, ◌+◌, inl, inr, length, vec_len, rules, arith, sym, subst, ◌∙◌}
use Rattle.std.specs.Prelude.{min}
use Rattle.std.proofs.lemmas.Bool.{false≢true, eqb-true}
use Rattle.fleet_base.specs.declared.grid.Cell.{Cell}
use Rattle.static_distance.specs.declared.place.Place.{Place}
use Rattle.static_distance.specs.Distance.{IsWay, IsDistance}
use Rattle.static_distance.specs.Levels.{apart}
use Rattle.static_distance.specs.Marks.{marks_of}
use Rattle.static_distance.specs.Spans.{flood_of}
use Rattle.static_distance.proofs.SpreadLemmas.{flood_distance, flood_no_way}
use Rattle.static_distance.proofs.FloodLemmas.{no_items, none_stand}
use Rattle.static_distance.proofs.AimLemmas.{told_distance}
use Rattle.static_distance.proofs.BesideLemmas.{HasPassed, passed_beside}
use Rattle.static_distance.proofs.distances.Distances.count_beside.Goals as goal
use Rattle.static_distance.proofs.distances.Distances.count_beside.Goals.{then-self-level-via-then-self-level, then-self-level-via-else-self-level+then-is_empty, then-self-level-2, else-self-level-2}

pub returns-then-self-level-clause-distance : goal.returns-then-self-level-clause-distance
returns-then-self-level-clause-distance c =
    let g = c.args.grid.now in
    let d = c.loop-cell.self in
    let from = c.requires.from in
    let still = c.loop-cell.invariant in
    let len : vec_len d.here.spans ≡ length d.here.spans.items = search rules in
    let passed : HasPassed d c.args.level = elim c.then-self-level.branch [
      | then-self-level-via-then-self-level w ↦ inl w.if-self-level.true
      | then-self-level-via-else-self-level+then-is_empty w ↦ elim w.if-self-level-2.branch [
        | then-self-level-2 v ↦ inr (v.if-self-level-2.true, no_items d.here.spans.items (sym len ∙ eqb-true (vec_len d.here.spans) 0 (sym v.is_empty.ensures ∙ (sym v.value-is ∙ w.if-is_empty.true))))
        | else-self-level-2 v ↦ absurd (v.if-self-level-2.false (eqb-true d.level c.args.level (sym v.value-is ∙ w.if-is_empty.true)))
      ]
    ] in
    let level : c.args.level ≡ min (c.args.left + apart g d.toward from.0) 4294967295 =
    subst (λ (p : Place). c.args.level ≡ min (c.args.left + apart g p from.0) 4294967295) (sym still.toward) from.4 in
    let distance : IsDistance g d.goal from.0 c.args.left = subst (λ (z : Cell). IsDistance g z from.0 c.args.left) (sym still.goal) from.3 in
    subst (λ (z : Cell). IsDistance g z c.args.cell (c.args.left + 1)) still.goal
    (passed_beside g d c.args.level still.aimed passed from.0 c.args.left 4294967295 level (omega arith) c.args.cell from.1 from.2 distance c.requires.opens (c.is_free.ensures.0 c.loop-cell-test.true))

pub returns-then-not-branch-clause-distance : goal.returns-then-not-branch-clause-distance
returns-then-not-branch-clause-distance c = λ k way.
    (let none = rw c.if-not-branch.true at c.in_ok-advance.ensures.none in
    let free = c.is_free.ensures.0 c.loop-cell-test.true in
    let g = c.args.grid.now in
    let d = c.loop-cell.self in
    let aimed = c.loop-cell.invariant.aimed in
    flood_no_way g (flood_of g d) aimed.flood
    (λ z stands. none_stand g d.known d.here.words.items d.here.spans.items z aimed.spans.here_listed none.here stands)
    (λ z stands. none_stand g d.known d.next.words.items d.next.spans.items z aimed.spans.next_listed none.next stands) c.args.cell free k
    (subst (λ (z : Cell). IsWay g z c.args.cell k) (sym c.loop-cell.invariant.goal) way))

pub returns-clause-distance : goal.returns-clause-distance
returns-clause-distance c =
    let g = c.args.grid.now in
    let d = c.loop-cell.self in
    told_distance g c.args.self.now.goal c.args.cell (marks_of g d) c.moves_at.result (λ free. false≢true (sym c.loop-cell-test.false ∙ c.is_free.ensures.1 free)) c.moves_at.ensures.some c.moves_at.ensures.none
    (λ k counted. subst (λ (z : Cell). IsDistance g z c.args.cell k) c.loop-cell.invariant.goal (flood_distance g (flood_of g d) c.loop-cell.invariant.aimed.flood c.args.cell k counted))
