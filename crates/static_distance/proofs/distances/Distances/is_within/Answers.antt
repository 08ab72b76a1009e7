use Rattle.std.proofs.Common.{arith, subst, sym, ◌+◌, ◌≤◌}
use Rattle.std.proofs.lemmas.Bool.{false≢true, leb-true, le-leb}
use Rattle.fleet_base.specs.declared.grid.Cell.{Cell}
use Rattle.static_distance.specs.declared.place.Place.{Place}
use Rattle.static_distance.specs.Distance.{IsWay, IsDistance}
use Rattle.static_distance.specs.Levels.{apart}
use Rattle.static_distance.specs.Spans.{flood_of}
use Rattle.static_distance.proofs.SpreadLemmas.{flood_distance, flood_far, flood_no_way}
use Rattle.static_distance.proofs.FloodLemmas.{none_stand}
use Rattle.static_distance.proofs.AimLemmas.{within_near, near_within}
use Rattle.static_distance.proofs.distances.Distances.is_within.Goals as goal

pub returns-then-self-last-clause-within : goal.returns-then-self-last-clause-within
returns-then-self-last-clause-within c = (
  λ yes. absurd (false≢true yes),
  λ within.
      (let g = c.args.grid.now in
      let d = c.loop-cell.self in
      let free = c.is_free.ensures.0 c.loop-cell-test.true in
      let way : IsWay g d.goal c.args.cell within.0 = subst (λ (z : Cell). IsWay g z c.args.cell within.0) (sym c.loop-cell.invariant.goal) within.1 in
      let far : d.level ≤ within.0 + apart g d.toward c.args.cell = flood_far g (flood_of g d) c.loop-cell.invariant.aimed.flood c.args.cell free within.0 way in
      let far' : d.level ≤ within.0 + apart g c.args.self.now.toward c.args.cell = subst (λ (p : Place). d.level ≤ within.0 + apart g p c.args.cell) c.loop-cell.invariant.toward far in
      absurd (omega (arith, within.2, c.moves_between.ensures.moves, c.place_of-place.ensures.place, c.saturating_add-last.ensures, c.if-self-last.true))),
)

pub returns-then-not-branch-clause-within : goal.returns-then-not-branch-clause-within
returns-then-not-branch-clause-within c = (
  λ yes. absurd (false≢true yes),
  λ within.
      (let none = rw c.if-not-branch.true at c.in_ok-advance.ensures.none in
      let free = c.is_free.ensures.0 c.loop-cell-test.true in
      let g = c.args.grid.now in
      let d = c.loop-cell.self in
      let aimed = c.loop-cell.invariant.aimed in
      absurd (flood_no_way g (flood_of g d) aimed.flood
      (λ z stands. none_stand g d.known d.here.words.items d.here.spans.items z aimed.spans.here_listed none.here stands)
      (λ z stands. none_stand g d.known d.next.words.items d.next.spans.items z aimed.spans.next_listed none.next stands) c.args.cell free within.0
      (subst (λ (z : Cell). IsWay g z c.args.cell within.0) (sym c.loop-cell.invariant.goal) within.1))),
)

pub returns-in-Some-clause-within : goal.returns-in-Some-clause-within
returns-in-Some-clause-within c =
    let g = c.args.grid.now in
    let d = c.args.self.now in
    let moves = c.in-Some.counted in
    let distance : IsDistance g d.goal c.args.cell moves = flood_distance g (flood_of g d) c.requires.aimed.flood c.args.cell moves c.in-Some.ensures.some in (
      (λ yes. within_near distance (leb-true moves c.args.moves yes)),
      (λ within. le-leb moves c.args.moves (near_within distance within)),
    )

pub returns-in-Some-moves_at-clause-within : goal.returns-in-Some-moves_at-clause-within
returns-in-Some-moves_at-clause-within c =
    let g = c.args.grid.now in
    let d = c.loop-cell.self in
    let moves = c.in-Some-moves_at.counted in
    let distance : IsDistance g c.args.self.now.goal c.args.cell moves = subst (λ (z : Cell). IsDistance g z c.args.cell moves) c.loop-cell.invariant.goal
    (flood_distance g (flood_of g d) c.loop-cell.invariant.aimed.flood c.args.cell moves c.in-Some-moves_at.ensures.some) in (
      (λ yes. within_near distance (leb-true moves c.args.moves yes)),
      (λ within. le-leb moves c.args.moves (near_within distance within)),
    )
