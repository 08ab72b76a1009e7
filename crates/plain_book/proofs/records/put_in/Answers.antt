use Rattle.std.proofs.Common.{sym, subst, List}
use Rattle.std.proofs.lemmas.Result.{err_from_is_err_and}
use Rattle.fleet_base.specs.declared.request.Stay.{Stay}
use Rattle.fleet_base.specs.Stays.{AreTheStays}
use Rattle.plain_book.proofs.Placing.{stays_fit, some_of_stays, all_of_stays}
use Rattle.plain_book.proofs.records.put_in.Goals as goal

pub put_records-requires : goal.put_records-requires
put_records-requires c =
    stays_fit c.args.walk.now c.args.id c.deref.result.now c.args.calendars.now
    (subst (λ (stays : List Stay). AreTheStays c.args.walk.now c.args.id stays) (sym c.deref.ensures.value) c.in_ok-stays.ensures) c.requires.inside c.requires.free

pub returns-in_err-put_records-clause-refused : goal.returns-in_err-put_records-clause-refused
returns-in_err-put_records-clause-refused c =
    let p = err_from_is_err_and c.from_residual-in_err-put_records.result c.from_residual-in_err-put_records.ensures.1 in
    rw p.1 (some_of_stays c.args.walk.now c.args.id c.deref.result.now c.args.calendars.now c.put_records.new.calendars
    (subst (λ (stays : List Stay). AreTheStays c.args.walk.now c.args.id stays) (sym c.deref.ensures.value) c.in_ok-stays.ensures) c.in_err-put_records.ensures.refused)

pub returns-clause-ok : goal.returns-clause-ok
returns-clause-ok c =
    all_of_stays c.args.walk.now c.args.id c.deref.result.now c.args.calendars.now c.put_records.new.calendars
    (subst (λ (stays : List Stay). AreTheStays c.args.walk.now c.args.id stays) (sym c.deref.ensures.value) c.in_ok-stays.ensures) c.in_ok-put_records.ensures.ok
