use Rattle.std.proofs.Common.{◌∙◌, ◌<◌, ℕ, get_or, length, sym, subst}
use Rattle.std.proofs.lemmas.List.{length-set}
use Rattle.std.proofs.lemmas.Result.{err_from_is_err_and}
use Rattle.fleet_base.specs.declared.request.Stay.{Stay}
use Rattle.plain_book.proofs.Placing.{put_step, refused_step, apart_still}
use Rattle.plain_book.proofs.records.put_records.Goals as goal

nowhere : Stay
nowhere = record { cell = record { 0 = 0 }; span = record { from = 0; to = 0; id = record { stamp = 0; caller = 0 } } }

pub insert-requires-clause-apart : goal.insert-requires-clause-apart
unfolding nowhere
insert-requires-clause-apart c =
    apart_still c.args.calendars.now c.loop-stay.calendars c.args.stays.now c.loop-stay.stay-index nowhere c.loop-stay-test.true c.requires c.loop-stay.invariant.all

pub loop-stay-preserved : goal.loop-stay-preserved
unfolding nowhere
loop-stay-preserved c =
    let below : (get_or c.args.stays.now c.loop-stay.stay-index nowhere).cell.0 < length c.loop-stay.calendars =
    subst (λ (k : ℕ). (get_or c.args.stays.now c.loop-stay.stay-index nowhere).cell.0 < k) (sym c.loop-stay.invariant.size) (c.requires.inside c.loop-stay.stay-index nowhere c.loop-stay-test.true) in
    record {
      size = rw c.in_ok-insert.ensures.ok (length-set c.loop-stay.calendars _ _ ∙ c.loop-stay.invariant.size);
      all = put_step c.args.calendars.now c.loop-stay.calendars c.args.stays.now c.loop-stay.stay-index nowhere c.insert.new.self c.loop-stay-test.true below c.in_ok-insert.ensures.ok c.loop-stay.invariant.all;
    }

pub returns-in_err-insert-clause-refused : goal.returns-in_err-insert-clause-refused
returns-in_err-insert-clause-refused c =
    let p = err_from_is_err_and c.from_residual.result c.from_residual.ensures.1 in
    rw p.1 (refused_step c.args.calendars.now c.loop-stay.calendars c.args.stays.now c.loop-stay.stay-index c.insert.new.self c.in_err-insert.ensures.refused c.loop-stay.invariant.all)
