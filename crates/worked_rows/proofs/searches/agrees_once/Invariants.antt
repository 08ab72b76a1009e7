use Rattle.worked_rows.proofs.searches.agrees_once.Given as goal

abbrev pub ghosts-search_once : goal.ghosts-search_once
ghosts-search_once a = record { name = a.blank.name; parts = a.blank.parts }
