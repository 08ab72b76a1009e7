use Rattle.std.proofs.Common.{◌∙◌, Err, refl, sym, ap, subst, map}
use Rattle.std.specs.Prelude.{string_bytes}
use Rattle.std.specs.Option.{option_map}
use Rattle.turn_book.specs.Passes.{joined_view}
use Rattle.fleet_run.specs.Jobs.{Says, joined_in}
use Rattle.fleet_run.specs.Writing.{IsCutOf}
use Rattle.fleet_run.specs.Ended.{World, HasEnded}
use Rattle.fleet_run.proofs.PrepareLemmas.{stopped, no_memory}
use Rattle.fleet_run.proofs.top.run.Goals as goal

pub returns-in-Err : goal.returns-in-Err
returns-in-Err g c =
    let u : World = record { files = g.H.Shelf.told c.args.shelf.now; failed = g.H.Shelf.failed c.args.shelf.now; out = g.S.Sink.told c.args.out.now; out_faults = g.S.Sink.faults c.args.out.now; err = g.S.Sink.told c.args.err.now; err_faults = g.S.Sink.faults c.args.err.now } in
    let v : World = record { files = g.H.Shelf.told c.prepare.new.shelf; failed = g.H.Shelf.failed c.prepare.new.shelf; out = g.S.Sink.told c.args.out.now; out_faults = g.S.Sink.faults c.args.out.now; err = g.S.Sink.told c.report.new.err; err_faults = g.S.Sink.faults c.report.new.err } in
    subst (λ e. HasEnded (map string_bytes c.args.words.now) u v e.outcome (option_map joined_view e.joined)) (sym c.without.ensures)
    (stopped (λ n. n.now) (map string_bytes c.args.words.now) u v c.in-Err.stop c.report.result c.in-Err.ensures.prepared refl c.report.ensures)

pub returns : goal.returns
returns g c =
    let u : World = record { files = g.H.Shelf.told c.args.shelf.now; failed = g.H.Shelf.failed c.args.shelf.now; out = g.S.Sink.told c.args.out.now; out_faults = g.S.Sink.faults c.args.out.now; err = g.S.Sink.told c.args.err.now; err_faults = g.S.Sink.faults c.args.err.now } in
    let v : World = record { files = g.H.Shelf.told c.prepare.new.shelf; failed = g.H.Shelf.failed c.prepare.new.shelf; out = g.S.Sink.told c.write_job.new.out; out_faults = g.S.Sink.faults c.write_job.new.out; err = g.S.Sink.told c.write_line-in-Err-NoMemory.new.err; err_faults = g.S.Sink.faults c.write_line-in-Err-NoMemory.new.err } in
    subst (λ e. HasEnded (map string_bytes c.args.words.now) u v e.outcome (option_map joined_view e.joined)) (sym c.without-in-Err-NoMemory.ensures)
    (no_memory (map string_bytes c.args.words.now) u v (Says c.in-Ok.job) (joined_in c.in-Ok.job) c.in-Ok.ensures.prepared.0 c.in-Ok.ensures.prepared.1 (subst (IsCutOf (Says c.in-Ok.job) u.out u.out_faults v.out v.out_faults) (c.in-Err-NoMemory.is ∙ ap (λ e. Err e) c.in-Err-NoMemory.field-0-is) c.write_job.ensures.cut) c.write_line-in-Err-NoMemory.ensures)
