use Rattle.turn_book.proofs.steps.TurnBook.give_up.Given as goal

abbrev pub ghosts-give : goal.ghosts-give
ghosts-give a = record { more = a._entries.now; full = a._full }
