use Rattle.std.proofs.Common.{arith, subst, inl, inr, ◌≡◌}
use Rattle.std.proofs.lemmas.Bool.{cases_lt}
use Rattle.fleet_base.specs.declared.grid.Side.{Side}
use Rattle.fleet_base.specs.Canonical.{rank_of}
use Rattle.sipp_search.specs.Back.{NoneFrom}
use Rattle.sipp_search.proofs.Moving.{same_side, rank_low}
use Rattle.sipp_search.proofs.Backward.{at_start}
use Rattle.sipp_search.proofs.back.before.Goals as goal

pub returns-in-Some-clause-hop : goal.returns-in-Some-clause-hop
returns-in-Some-clause-hop g c = λ a limit agrees over.
    (let from = c.in-Some.ensures.hop a limit agrees over in
    record {
      before = from.before;
      time_is = from.time_is;
      first = record {
        side = c.side_at.result;
        beside = from.beside;
        precedes = from.precedes;
        first = λ other m less beside. c.loop-rank.invariant a limit agrees over other (omega (arith, c.side_at.ensures)) m from.before beside from.time_is;
      };
      earliest = from.earliest;
      on = from.on;
    })

pub loop-rank-preserved : goal.loop-rank-preserved
loop-rank-preserved g c = λ a limit agrees over side low. elim (cases_lt (rank_of side) c.loop-rank.rank) [
  | inl less ↦ c.loop-rank.invariant a limit agrees over side less
  | inr past ↦
      let same : c.side_at.result ≡ side = same_side c.side_at.result side (omega (arith, c.side_at.ensures)) in
      subst (λ (z : Side). NoneFrom c.args.task.now.grid.now c.args.task.now.request a c.args.at c.args.entered z) same (c.in_default.ensures.none a limit agrees over)
]

pub returns-clause-none : goal.returns-clause-none
returns-clause-none g c = λ a limit agrees over.
    at_start c.args.task.now.grid.now c.args.task.now.request c.args.task.now.horizon a c.requires.ready.bound c.args.arena.now.states.items limit over c.args.at c.args.entered c.requires.on
    (λ side n u beside time. c.loop-rank.invariant a limit agrees over side (omega (arith, rank_low side, c.loop-rank-test.false)) n u beside time)
