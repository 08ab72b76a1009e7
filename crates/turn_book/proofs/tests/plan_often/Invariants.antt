use Rattle.turn_book.specs.Passes.{IsPassOf}
use Rattle.turn_book.proofs.tests.plan_often.Given as goal

abbrev pub invariant-loop-depart : goal.invariant-loop-depart
invariant-loop-depart l = IsPassOf l.fn.book l.pass
