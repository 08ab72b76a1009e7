use Rattle.turn_book.proofs.Turning.{in_turn, turn_seen, missed, plan_made, plan_stopped}
use Rattle.turn_book.proofs.shared.TurnBookSharedBook.plan.Goals as goal

pub returns-in_default-clause-pass : goal.returns-in_default-clause-pass
returns-in_default-clause-pass c = (missed _ _ _ c.requires.pass c.in_default.ensures.missed).0

pub returns-in_default-clause-is_pass : goal.returns-in_default-clause-is_pass
returns-in_default-clause-is_pass c = (missed _ _ _ c.requires.pass c.in_default.ensures.missed).0.keeping.is_pass

pub returns-in_default-clause-stop : goal.returns-in_default-clause-stop
returns-in_default-clause-stop c = (missed _ _ _ c.requires.pass c.in_default.ensures.missed).1

pub plan_in_turn-requires-clause-turn : goal.plan_in_turn-requires-clause-turn
plan_in_turn-requires-clause-turn c = in_turn _ _ _ _ c.requires.pass c.in-Some.ensures.taken

pub returns-clause-made : goal.returns-clause-made
returns-clause-made c = plan_made _ _ _ _ c.plan_in_turn.result (turn_seen _ _ _ _ c.requires.pass c.in-Some.ensures.taken) c.plan_in_turn.ensures.made

pub returns-clause-stop : goal.returns-clause-stop
returns-clause-stop c = plan_stopped _ _ _ c.plan_in_turn.result (turn_seen _ _ _ _ c.requires.pass c.in-Some.ensures.taken) c.plan_in_turn.ensures.stop
