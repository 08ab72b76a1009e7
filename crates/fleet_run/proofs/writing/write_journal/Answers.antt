use Rattle.std.proofs.Common.{Err, refl, map, length, ap, subst, arith}
use Rattle.std.proofs.lemmas.Result.{err_from_is_err_and}
use Rattle.std.proofs.lemmas.List.{length-map}
use Rattle.fleet_run.proofs.WritingLemmas.{answer_written, answer_cut, totals_written, totals_cut, lent_at, lent_within, lent_few, lent_longer, lent_past}
use Rattle.fleet_run.proofs.writing.write_journal.Goals as goal

pub write_answer-requires-clause-within : goal.write_answer-requires-clause-within
write_answer-requires-clause-within g c =
    lent_within c.args.lanes.now c.args.printed.now c.loop-answer.answer-index c.answer-item.result c.requires.lanes c.loop-answer-test.true c.answer-item.is

pub returns-in_err-write_answer-clause-cut : goal.returns-in_err-write_answer-clause-cut
returns-in_err-write_answer-clause-cut g c =
    let p = err_from_is_err_and c.from_residual.result c.from_residual.ensures.1 in
    rw (p.1, p.2) (answer_cut c.args.grid.now c.args.lanes.now (map (λ a. a.now) c.args.printed.now) _ (g.S.Sink.told c.loop-answer.out) (g.S.Sink.told c.write_answer.new.out) _ (g.S.Sink.faults c.loop-answer.out) (g.S.Sink.faults c.write_answer.new.out) _ {T = Unit {0}}
    c.loop-answer.totals c.loop-answer.answer-index _ (Err c.in_err-write_answer.field-0.0)
    c.loop-answer.invariant.writing (lent_longer c.args.printed.now c.loop-answer.answer-index c.loop-answer-test.true) (lent_at c.args.printed.now c.loop-answer.answer-index c.answer-item.result c.loop-answer-test.true c.answer-item.is)
    c.in_err-write_answer.ensures.cut)

pub loop-answer-preserved : goal.loop-answer-preserved
loop-answer-preserved g c = record {
  writing = answer_written c.args.grid.now c.args.lanes.now (map (λ a. a.now) c.args.printed.now) _ (g.S.Sink.told c.loop-answer.out) _ _ (g.S.Sink.faults c.loop-answer.out) _ _ c.loop-answer.totals _ c.loop-answer.answer-index _
      c.loop-answer.invariant.writing (lent_longer c.args.printed.now c.loop-answer.answer-index c.loop-answer-test.true) (lent_at c.args.printed.now c.loop-answer.answer-index c.answer-item.result c.loop-answer-test.true c.answer-item.is)
      c.in_ok-write_answer.ensures.written c.in_ok-write_answer.ensures.later c.in_ok-write_answer.ensures.counted;
  counted = c.in_ok-write_answer.ensures.at_most c.loop-answer.answer-index c.loop-answer.invariant.counted;
  within = omega (arith, c.loop-answer-test.true);
  same = (refl, refl, refl);
}

pub returns-clause-written : goal.returns-clause-written
returns-clause-written g c =
    totals_written c.args.grid.now c.args.lanes.now (map (λ a. a.now) c.args.printed.now) _ (g.S.Sink.told c.loop-answer.out) _ _ (g.S.Sink.faults c.loop-answer.out) 0 _ c.loop-answer.totals c.loop-answer.answer-index _
    c.loop-answer.invariant.writing (lent_past c.args.printed.now c.loop-answer.answer-index (omega (arith, c.loop-answer-test.false))) c.write_totals.ensures.written

pub returns-clause-cut : goal.returns-clause-cut
returns-clause-cut g c =
    totals_cut c.args.grid.now c.args.lanes.now (map (λ a. a.now) c.args.printed.now) _ (g.S.Sink.told c.loop-answer.out) _ _ (g.S.Sink.faults c.loop-answer.out) _ _ c.loop-answer.totals c.loop-answer.answer-index _
    c.loop-answer.invariant.writing (lent_past c.args.printed.now c.loop-answer.answer-index (omega (arith, c.loop-answer-test.false))) c.write_totals.ensures.cut
