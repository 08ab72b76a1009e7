use Rattle.sipp_search.proofs.tests.find_both.Given as goal

abbrev pub ghosts-walk_counting : goal.ghosts-walk_counting
ghosts-walk_counting a = record { name = a.blank.name; parts = a.blank.parts }
