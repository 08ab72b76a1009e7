use Rattle.std.proofs.Common.{refl, sym, ◌∙◌, ◌≡◌, true, false, inl, inr, ap, arith}
use Rattle.std.specs.List.{list_all}
use Rattle.std.specs.Option.{ok_or}
use Rattle.text_lines.specs.declared.number.NumberFault.TheVariants.{TooGreat}
use Rattle.text_lines.specs.Lines.{is_filled}
use Rattle.text_lines.specs.Numbers.{is_digit}
use Rattle.text_lines.proofs.NumberLemmas.{not_number, empty, some_filled, within_ok_or}
use Rattle.text_lines.proofs.number.read_number.Goals as goal
use Rattle.text_lines.proofs.number.read_number.Goals.{then-is_empty-via-then-is_empty, then-is_empty-via-else-is_empty+then-not-are_digits}

pub returns-then-is_empty : goal.returns-then-is_empty
returns-then-is_empty c = elim c.then-is_empty.branch [
  | then-is_empty-via-then-is_empty w ↦ rw (not_number c.args.field.now (inl (empty c.args.field.now (grind arith)))) refl
  | then-is_empty-via-else-is_empty+then-not-are_digits w ↦ let e : list_all is_digit c.args.field.now ≡ false = cc in rw (not_number c.args.field.now (inr e)) refl
]

pub returns : goal.returns
returns c =
    let f : is_filled c.args.field.now ≡ true = some_filled c.args.field.now (λ e. grind arith) in
    let d : list_all is_digit c.args.field.now ≡ true = cc in
    c.ok_or.ensures.value ∙ ap (λ o. ok_or o TooGreat) c.value_up_to.ensures ∙ sym (within_ok_or c.args.field.now c.args.limit f d)
