use Rattle.std.proofs.Common.{sym, refl, ◌∙◌, arith, length}
use Rattle.std.proofs.lemmas.Option.{slice_get_read}
use Rattle.tail_run.proofs.LoopLemmas.{ended_some, ended_none}
use Rattle.tail_run.proofs.leaving.ended_ids.Goals as goal
use Rattle.tail_run.proofs.leaving.ended_ids.Goals.{in-Some+in_ok-insert, in_default}

pub loop-answer-preserved : goal.loop-answer-preserved
loop-answer-preserved c =
    let k = c.loop-answer.answer-index in
    let at = slice_get_read c.args.answers.now (length c.args.answers.now) k c.answer-item.result refl (grind arith) c.answer-item.is in
    elim c.match-ended_in.branch [
      | in-Some+in_ok-insert w ↦ record {
        has = rw w.ended-is (ended_some c.args.answers.now k c.answer-item.result at c.loop-answer.ended.keys w.insert.new.self.keys w.in-Some.id
            c.loop-answer.invariant.has (sym c.ended_in.ensures ∙ w.in-Some.is) w.in_ok-insert.ensures.updates.0);
        within = grind arith;
      }
      | in_default w ↦ record {
        has = rw w.ended-is (ended_none c.args.answers.now k c.answer-item.result at c.loop-answer.ended.keys c.loop-answer.invariant.has (sym c.ended_in.ensures ∙ w.in_default.is));
        within = grind arith;
      }
    ]
