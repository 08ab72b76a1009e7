use Rattle.std.proofs.Common.{◌≡◌, ◌+◌, ◌-◌, true, false, inl, inr, arith, below_more}
use Rattle.fleet_base.proofs.WalkLemmas.{nat_cases, met_by}
use Rattle.fleet_base.proofs.walk.meets.Goals as goal

pub loop-time-preserved : goal.loop-time-preserved
loop-time-preserved c =
    below_more _ _ c.loop-time.invariant (λ m. let no : false ≡ true = c.if-meet_at.ensures.1 m in cc)

pub returns : goal.returns
returns c = (
  λ no. cc,
  λ m. elim (nat_cases m.time (c.max-last.result + 1)) [
    | inl before ↦ absurd (c.loop-time.invariant m.time (omega arith) m.met)
    | inr after ↦
        let later : m.time ≡ c.max-last.result + (m.time - c.max-last.result) = omega arith in
        absurd (c.loop-time.invariant c.max-last.result (omega arith) (met_by _ _ c.max-last.result (m.time - c.max-last.result) (omega arith, omega arith) (omega arith, omega arith) (rw later at m.met)))
  ],
)
