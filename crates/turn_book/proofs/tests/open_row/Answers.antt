use Rattle.std.specs.Prelude.{IfOk, All, length}
use Rattle.std.proofs.Common.{◌≡◌, Vec, Global}
use Rattle.std.specs.declared.result.Result.{Result}
use Rattle.std.specs.declared.result.Result.TheVariants.{Ok, Err}
use Rattle.fleet_base.specs.declared.request.Memory.{Memory}
use Rattle.turn_book.specs.declared.steps.TurnBook.{TurnBook}
use Rattle.turn_book.specs.declared.pass.TurnPass.{TurnPass}
use Rattle.turn_book.specs.Passes.{IsPassOf, AreOpened}
use Rattle.turn_book.proofs.Openings.{all_opened}
use Rattle.turn_book.proofs.tests.open_row.Goals as goal

pub returns-clause-passes : goal.returns-clause-passes
returns-clause-passes c = by_case c.open.result c.open.ensures.passes
  where
    by_case : (r : Result (TurnBook × Vec TurnPass Global) Memory) → IfOk r (λ x. (length x.1.items ≡ c.args.callers) × AreOpened x.0 x.1.items) → IfOk r (λ x. (length x.1.items ≡ c.args.callers) × All (IsPassOf x.0) x.1.items)
    by_case (Ok x) h = (h.0, all_opened _ _ h.1)
    by_case (Err e) h = tt
