use Rattle.std.proofs.Common.{◌+◌, ◌<◌, inl, inr, arith}
use Rattle.std.proofs.lemmas.Bool.{cases_lt}
use Rattle.row_words.proofs.WordLemmas.{set_below, set_in_ones}
use Rattle.static_distance.proofs.distances.Distances.falling.Goals as goal

pub returns : goal.returns
returns c = λ i. (
  λ set. (let within : i < 64 = set_below c.without.result i c.without.type_inv set in
      elim (cases_lt c.args.self.now.toward.column (c.args.span.column + i)) [
        | inl less ↦ (within, less)
        | inr more ↦ absurd (((c.without.ensures i).0 set).1 ((c.below.ensures i).1 (within, omega arith)))
      ]),
  λ falls. (c.without.ensures i).1 ((set_in_ones 64 i).1 falls.0, λ low. (let before : i < c.saturating_sub.result = ((c.below.ensures i).0 low).1 in omega arith)),
)
