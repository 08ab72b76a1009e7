use Rattle.std.proofs.Common.{sym, subst, List}
use Rattle.fleet_base.specs.declared.request.Record.{Record}
use Rattle.calendars.specs.Records.{InOrder}
use Rattle.calendars.proofs.RecordLemmas.{InOrder-filter}
use Rattle.calendars.proofs.calendar.Calendar.remove_id.Goals as goal

pub invariant_of-self : goal.invariant_of-self
invariant_of-self c = subst (λ (xs : List Record). InOrder xs) (sym c.keep_others.ensures) (InOrder-filter _ _ 0 c.self.invariant)
