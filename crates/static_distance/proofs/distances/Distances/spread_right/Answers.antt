use Rattle.std.proofs.Common.{◌+◌, inl, inr, refl, arith}
use Rattle.std.proofs.lemmas.Bool.{iff_false}
use Rattle.std.proofs.lemmas.Result.{on_ok_weaker}
use Rattle.static_distance.proofs.RowLemmas.{spread_right_none, spread_right_out}
use Rattle.static_distance.proofs.distances.Distances.spread_right.Goals as goal
use Rattle.static_distance.proofs.distances.Distances.spread_right.Goals.{then-span-width-via-then-span-width, then-span-width-via-else-span-width+then-not-is_set}

pub returns-then-span-width-clause-spread : goal.returns-then-span-width-clause-spread
returns-then-span-width-clause-spread c = spread_right_none c.args.grid.now c.args.span c.args.word c.args.self.now
    (elim c.then-span-width.branch [
      | then-span-width-via-then-span-width w ↦ inl (omega arith)
      | then-span-width-via-else-span-width+then-not-is_set w ↦ inr (iff_false w.is_set.ensures w.if-not-is_set.true)
    ])

pub enter-requires-clause-span : goal.enter-requires-clause-span
enter-requires-clause-span c = record {
  row_in = c.requires.span.row_in;
  column_in = omega arith;
  part = c.requires.span.part + 1;
  column_is = omega arith;
  number_is = omega arith;
}

pub returns-clause-spread : goal.returns-clause-spread
returns-clause-spread c = on_ok_weaker c.enter.result
    (λ has. spread_right_out c.args.grid.now c.args.span _ c.args.word c.single.result c.args.self.now c.enter.new.self c.requires.span refl refl
    (c.is_set.ensures.0 c.if-not-is_set.false) c.single.ensures has)
    c.enter.ensures.entered
