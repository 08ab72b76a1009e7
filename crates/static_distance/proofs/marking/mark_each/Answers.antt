use Rattle.std.proofs.Common.{◌≡◌, ℕ, suc, ◌+◌, ◌-◌, ◌<◌, length, arith, ap, ◌∙◌}
use Rattle.std.proofs.lemmas.List.{length-set}
use Rattle.static_distance.specs.Levels.{gap}
use Rattle.static_distance.proofs.ListLemmas.{one_less, still_left, one_marked, one_others}
use Rattle.static_distance.proofs.marking.mark_each.Goals as goal

pub loop-place-smaller : goal.loop-place-smaller
loop-place-smaller c = one_less c.args.word _ _ _ _ c.loop-place.invariant.left c.in-Some.ensures.some.1 c.single.ensures c.without-rest.ensures

pub loop-place-preserved : goal.loop-place-preserved
loop-place-preserved c =
    let mark : ℕ → ℕ = λ i. suc (c.args.reach - gap (c.args.column + i) c.args.toward) in
    let has = c.in-Some.ensures.some.1 in
    let left = c.loop-place.invariant.left in
    let inside : c.args.first + c.in-Some.place < length c.loop-place.marks = omega (arith, c.requires.inside c.in-Some.place (left c.in-Some.place has), c.loop-place.invariant.count) in
    let value : c.saturating_sub-moves.result + 1 ≡ suc (c.args.reach - gap (c.args.column + c.in-Some.place) c.args.toward) = omega arith in
    record {
      count = ap length c.set.ensures ∙ (length-set c.loop-place.marks _ _ ∙ c.loop-place.invariant.count);
      left = still_left _ _ _ _ _ left has c.single.ensures c.without-rest.ensures;
      marked = one_marked _ _ _ _ _ left has c.single.ensures c.without-rest.ensures c.args.first _ mark c.args.marks.now _ _ inside value c.set.ensures c.loop-place.invariant.marked;
      others = one_others _ _ _ _ _ left has c.single.ensures c.without-rest.ensures c.args.first _ mark c.args.marks.now _ _ inside value c.set.ensures c.loop-place.invariant.others;
    }
