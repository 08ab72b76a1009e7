use Rattle.std.proofs.Common.{sym, ◌≡◌, Some, None, drop}
use Rattle.std.specs.Prelude.{position}
use Rattle.std.proofs.lemmas.List.{take_rest}
use Rattle.text_lines.specs.Fields.{is_blank}
use Rattle.text_lines.proofs.FieldLemmas.{no_field, first_field, last_field}
use Rattle.text_lines.proofs.field.next_field.Goals as goal

pub returns-in_err-start-clause-field : goal.returns-in_err-start-clause-field
returns-in_err-start-clause-field c = rw c.from_residual.ensures (no_field c.args.line.now (sym c.in_err-start.ensures))

pub returns-in-Some-clause-field : goal.returns-in-Some-clause-field
returns-in-Some-clause-field c =
    let e : position is_blank (drop c.in_ok-start.start c.args.line.now) ≡ Some c.in-Some.end = simp take_rest at (sym c.in-Some.ensures) in
    simp take_rest (first_field c.args.line.now c.in_ok-start.start c.in-Some.end (sym c.in_ok-start.ensures) e)

pub returns-in-None-clause-field : goal.returns-in-None-clause-field
returns-in-None-clause-field c =
    let e : position is_blank (drop c.in_ok-start.start c.args.line.now) ≡ None = simp take_rest at (sym c.in-None.ensures) in
    simp take_rest (last_field c.args.line.now c.in_ok-start.start (sym c.in_ok-start.ensures) e)
