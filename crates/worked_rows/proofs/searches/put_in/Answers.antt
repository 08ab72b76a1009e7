use Rattle.std.proofs.Common.{List, sym, ◌∙◌, subst}
use Rattle.fleet_base.specs.declared.request.Record.{Record}
use Rattle.calendars.specs.Records.{IsApart}
use Rattle.worked_rows.proofs.ApartLemmas.{apart_from_each}
use Rattle.worked_rows.proofs.searches.put_in.Goals as goal

pub insert-requires-clause-apart : goal.insert-requires-clause-apart
insert-requires-clause-apart c =
    subst (λ (rs : List Record). IsApart c.args.stay.span rs) c.records.ensures.value
    (apart_from_each c.args.stay.span c.records.result.now (sym c.is_apart.ensures ∙ c.if-is_apart.true))
