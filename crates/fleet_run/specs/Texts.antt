-- The text of `one`.
use Rattle.std.specs.Prelude.{ℕ, ◌++◌, List, codes, decimal, Option, Some, None}
use Rattle.fleet_base.specs.Terrain.{Terrain}
use Rattle.fleet_base.specs.TimedWalk.{TimedWalk, arrival}
use Rattle.journal_lines.specs.Moves.{moves_of}

abbrev pub route_text : Terrain → TimedWalk → List ℕ
route_text g w = codes "route " ++ decimal (arrival w) ++ codes " " ++ moves_of g w.cells ++ codes "\n"

-- the text of one answer
abbrev pub answer_text : Terrain → Option TimedWalk → List ℕ
answer_text g None = codes "none\n"
answer_text g (Some w) = route_text g w
