use Rattle.book_trait.proofs.EndedLemmas.{refused_as_it_was}
use Rattle.turn_book.proofs.Turning.{in_turn, turn_seen, missed, cancel_made, cancel_stopped}
use Rattle.turn_book.proofs.LiveStamps.{found_has, not_found_has}
use Rattle.turn_book.proofs.shared.TurnBookSharedBook.cancel.Goals as goal

pub returns-in_default-clause-stop : goal.returns-in_default-clause-stop
returns-in_default-clause-stop c = (refused_as_it_was _, not_found_has _ _ _ _ _ _ c.deref.ensures.value c.requires.pass.keeping.live c.binary_search.ensures.position c.in_default.is)

pub returns-in_default-take-clause-pass : goal.returns-in_default-take-clause-pass
returns-in_default-take-clause-pass c = (missed _ _ _ c.requires.pass c.in_default-take.ensures.missed).0

pub returns-in_default-take-clause-is_pass : goal.returns-in_default-take-clause-is_pass
returns-in_default-take-clause-is_pass c = (missed _ _ _ c.requires.pass c.in_default-take.ensures.missed).0.keeping.is_pass

pub returns-in_default-take-clause-stop : goal.returns-in_default-take-clause-stop
returns-in_default-take-clause-stop c = ((missed _ _ _ c.requires.pass c.in_default-take.ensures.missed).1, (found_has _ _ _ _ _ _ c.deref.ensures.value c.requires.pass.keeping.live c.binary_search.ensures.position c.in-Ok.is).2)

pub cancel_in_turn-requires-clause-turn : goal.cancel_in_turn-requires-clause-turn
cancel_in_turn-requires-clause-turn c = in_turn _ _ _ _ c.requires.pass c.in-Some.ensures.taken

pub returns-clause-made : goal.returns-clause-made
returns-clause-made c = cancel_made _ _ _ _ c.cancel_in_turn.result (turn_seen _ _ _ _ c.requires.pass c.in-Some.ensures.taken) c.cancel_in_turn.ensures.made

pub returns-clause-stop : goal.returns-clause-stop
returns-clause-stop c = cancel_stopped _ _ _ _ c.cancel_in_turn.result (turn_seen _ _ _ _ c.requires.pass c.in-Some.ensures.taken) c.cancel_in_turn.ensures.stop
