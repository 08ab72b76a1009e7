use Rattle.std.proofs.Common.{ap, sym, subst, refl}
use Rattle.std.specs.List.{concat}
use Rattle.journal_lines.specs.Lines.{journal_lines, last_line}
use Rattle.fleet_run.specs.Texts.{answer_text}
use Rattle.fleet_run.specs.Jobs.{Says}
use Rattle.fleet_run.proofs.WritingLemmas.{one_written, one_cut}
use Rattle.fleet_run.proofs.writing.write_job.Goals as goal

pub returns-in-Reply-clause-cut : goal.returns-in-Reply-clause-cut
returns-in-Reply-clause-cut g c =
    let text = answer_text c.grid.result.now c.in-Reply.answer in
    one_cut (Says c.args.job.now) _ _ _ _ text c.write_reply.result
    (subst (λ job. Says job text) (sym c.in-Reply.is) (ap (λ h. answer_text h c.in-Reply.answer) c.grid.ensures)) c.write_reply.ensures.cut

pub returns-in-Journal-clause-cut : goal.returns-in-Journal-clause-cut
returns-in-Journal-clause-cut g c =
    let text = concat (journal_lines c.grid-in-Journal.result.now c.deref.result.now c.deref-in-Journal.result.now) in
    one_cut (Says c.args.job.now) _ _ _ _ text c.write_alone.result
    (subst (λ job. Says job text) (sym c.in-Journal.is) (λ i. concat (journal_lines (c.grid-in-Journal.ensures i) (c.deref.ensures.value i) (c.deref-in-Journal.ensures.value i)))) c.write_alone.ensures.cut

pub returns-in-LastLine-clause-written : goal.returns-in-LastLine-clause-written
returns-in-LastLine-clause-written g c =
    one_written (Says c.args.job.now) _ _ (last_line c.in-LastLine.totals) c.write_totals.result (subst (λ job. Says job (last_line c.in-LastLine.totals)) (sym c.in-LastLine.is) refl) c.write_totals.ensures.written

pub returns-in-LastLine-clause-cut : goal.returns-in-LastLine-clause-cut
returns-in-LastLine-clause-cut g c =
    one_cut (Says c.args.job.now) _ _ _ _ (last_line c.in-LastLine.totals) c.write_totals.result (subst (λ job. Says job (last_line c.in-LastLine.totals)) (sym c.in-LastLine.is) refl) c.write_totals.ensures.cut
