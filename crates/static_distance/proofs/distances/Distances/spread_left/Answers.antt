use Rattle.std.proofs.Common.{◌-◌, inl, inr, refl, arith}
use Rattle.std.proofs.lemmas.Bool.{iff_false}
use Rattle.std.proofs.lemmas.Result.{on_ok_weaker}
use Rattle.static_distance.proofs.RowLemmas.{spread_left_none, spread_left_out}
use Rattle.static_distance.proofs.distances.Distances.spread_left.Goals as goal
use Rattle.static_distance.proofs.distances.Distances.spread_left.Goals.{then-span-eq0-via-then-span-eq0, then-span-eq0-via-else-span-eq0+then-not-is_set}

pub returns-then-span-eq0-clause-spread : goal.returns-then-span-eq0-clause-spread
returns-then-span-eq0-clause-spread c = spread_left_none c.args.grid.now c.args.span c.args.word c.args.self.now
    (elim c.then-span-eq0.branch [
      | then-span-eq0-via-then-span-eq0 w ↦ inl w.if-span-eq0.true
      | then-span-eq0-via-else-span-eq0+then-not-is_set w ↦ inr (iff_false w.is_set.ensures w.if-not-is_set.true)
    ])

pub enter-requires-clause-span : goal.enter-requires-clause-span
enter-requires-clause-span c = record {
  row_in = c.requires.span.row_in;
  column_in = omega arith;
  part = c.requires.span.part - 1;
  column_is = omega arith;
  number_is = omega arith;
}

pub returns-clause-spread : goal.returns-clause-spread
returns-clause-spread c = on_ok_weaker c.enter.result
    (λ has. spread_left_out c.args.grid.now c.args.span _ c.args.word c.single.result c.args.self.now c.enter.new.self c.requires.span refl (omega arith)
    (c.is_set.ensures.0 c.if-not-is_set.false) c.single.ensures has)
    c.enter.ensures.entered
