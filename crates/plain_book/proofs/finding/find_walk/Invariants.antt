use Rattle.plain_book.proofs.finding.find_walk.Given as goal

abbrev pub ghosts-find_counting : goal.ghosts-find_counting
ghosts-find_counting a = record { name = a.blank.name; parts = a.blank.parts }
