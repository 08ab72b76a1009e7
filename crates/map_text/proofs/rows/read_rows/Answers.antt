use Rattle.std.proofs.Common.{arith}
use Rattle.text_lines.specs.Lines.{lines_of}
use Rattle.map_text.proofs.RowLemmas.{goes_on, bad_row, no_row, is_done}
use Rattle.map_text.proofs.rows.read_rows.Goals as goal

pub returns-in_default-clause-rows : goal.returns-in_default-clause-rows
returns-in_default-clause-rows c =
    rw c.fault.ensures (no_row c.loop-counter.cells.items c.args.width c.args.height c.loop-counter.counter (lines_of c.loop-counter.rest.now) _ c.loop-counter-test.true c.in_default.ensures.line c.loop-counter.invariant.rows)

pub returns-in-Some-row_fault-clause-rows : goal.returns-in-Some-row_fault-clause-rows
returns-in-Some-row_fault-clause-rows c =
    rw c.fault-in-Some-row_fault.ensures (bad_row c.loop-counter.cells.items c.args.width c.args.height c.loop-counter.counter (lines_of c.loop-counter.rest.now) c.in-Some.line.now (lines_of c.in-Some.after.now) c.in-Some-row_fault.kind _ c.loop-counter-test.true c.in-Some.ensures.line c.in-Some-row_fault.ensures c.loop-counter.invariant.rows)

pub loop-counter-preserved : goal.loop-counter-preserved
loop-counter-preserved c = record {
  rows = rw c.in_ok-push_row.ensures.cells (goes_on c.loop-counter.cells.items c.args.width c.args.height c.loop-counter.counter (lines_of c.loop-counter.rest.now) c.in-Some.line.now (lines_of c.in-Some.after.now) _ c.loop-counter-test.true c.in-Some.ensures.line c.in_default-row_fault.ensures c.loop-counter.invariant.rows);
  read = omega (arith, c.in-Some.ensures.shorter);
}

pub returns-clause-rows : goal.returns-clause-rows
returns-clause-rows c = is_done c.loop-counter.cells.items c.args.width c.args.height c.loop-counter.counter (lines_of c.loop-counter.rest.now) _ c.loop-counter-test.false c.loop-counter.invariant.rows
