use Rattle.std.proofs.Common.{sym, subst, List, arith}
use Rattle.fleet_base.specs.declared.request.Record.{Record}
use Rattle.calendars.specs.Records.{InOrder, IsApart}
use Rattle.calendars.proofs.RecordLemmas.{InOrder-with_record}
use Rattle.calendars.proofs.calendar.Calendar.insert.Goals as goal

pub invariant_of-self-2 : goal.invariant_of-self-2
invariant_of-self-2 c =
    let apart : IsApart c.args.added c.self.inside.records.items = rw (← c.self.view_is) at c.requires.apart in
    subst (λ (xs : List Record). InOrder xs) (sym c.in_ok-put_in.ensures.ok)
    (InOrder-with_record c.args.added c.self.inside.records.items 0 c.requires.proper (omega arith) apart c.self.invariant)
