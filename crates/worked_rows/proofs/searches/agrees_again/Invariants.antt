use Rattle.worked_rows.proofs.searches.agrees_again.Given as goal

abbrev pub ghosts-search_again : goal.ghosts-search_again
ghosts-search_again a = record { name = a.blank.name; parts = a.blank.parts }
