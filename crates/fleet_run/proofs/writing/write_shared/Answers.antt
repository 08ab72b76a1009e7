use Rattle.std.proofs.Common.{map, ap, sym, refl}
use Rattle.std.specs.List.{concat}
use Rattle.journal_lines.specs.Lines.{journal_lines}
use Rattle.fleet_run.specs.Jobs.{IsPrintedAs}
use Rattle.fleet_run.proofs.WritingLemmas.{printed_lanes, one_cut}
use Rattle.fleet_run.proofs.writing.write_shared.Goals as goal

pub write_journal-requires : goal.write_journal-requires
write_journal-requires g c = record {
  lanes = printed_lanes c.args.lanes.now c.args.answers.now c.in_ok-printed.printed.items c.deref.result.now c.requires.lanes c.in_ok-printed.ensures c.deref.ensures.value;
}

pub returns-clause-cut : goal.returns-clause-cut
returns-clause-cut g c =
    one_cut (IsPrintedAs c.args.grid.now c.args.lanes.now c.args.answers.now) _ _ _ _ (concat (journal_lines c.args.grid.now c.args.lanes.now (map (λ a. a.now) c.deref.result.now))) c.write_journal.result
    (record {
      printed = map (λ a. a.now) c.in_ok-printed.printed.items;
      in_order = c.in_ok-printed.ensures;
      says = ap (λ l. concat (journal_lines c.args.grid.now c.args.lanes.now (map (λ a. a.now) l))) c.deref.ensures.value;
    }) c.write_journal.ensures.cut
