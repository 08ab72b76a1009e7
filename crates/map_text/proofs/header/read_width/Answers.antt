use Rattle.std.proofs.Common.{rules, subst, ap, ◌≡◌, ◌/◌, min, Result, ℕ}
use Rattle.std.specs.Prelude.{nat_le, codes}
use Rattle.text_lines.specs.Fields.{fields_of}
use Rattle.text_lines.specs.Faults.{Fault, Gives, at}
use Rattle.map_text.specs.declared.fault.MapKind.{MapKind}
use Rattle.map_text.specs.MapGrammar.{fault_of, fits_width}
use Rattle.map_text.proofs.SizeLemmas.{same_size, width_limit}
use Rattle.map_text.proofs.header.read_width.Goals as goal

pub returns-clause-size : goal.returns-clause-size
returns-clause-size c =
    let is : c.min.result ≡ min (1048576 / c.args.height) 2048 = search rules in
    subst (λ (r : Result ℕ (Fault MapKind)). Gives fault_of (λ x. x) c.read_size.result r)
    (ap (at 3) (same_size (codes "width") (λ n. nat_le n c.min.result) (fits_width c.args.height) (fields_of c.args.line.now) (width_limit c.args.height c.min.result c.requires is)))
    c.read_size.ensures.size
