-- The table of the final states.
use Rattle.std.specs.Prelude.{ℕ, List, [], ◌∷◌}
use Rattle.std.specs.List.{flat_map}
use Rattle.sipp_search.specs.declared.answer.Settled.{Settled}
use Rattle.sipp_search.specs.declared.states.Spot.{Spot}
use Rattle.sipp_search.specs.declared.states.State.{State}
use Rattle.sipp_search.specs.declared.states.Mark.{Mark}
use Rattle.sipp_search.specs.declared.states.Mark.TheVariants.{Unseen, Queued, Final}

abbrev pub settled_of : Spot → ℕ → Settled
settled_of p r = record { cell = p.cell; interval = p.interval; arrival = r }

abbrev pub entry_by : Spot → Mark → List Settled
entry_by p Unseen = []
entry_by p (Queued r) = []
entry_by p (Final r) = settled_of p r ∷ []

-- what a state gives to the table
abbrev pub entry_of : State → List Settled
entry_of s = entry_by s.spot s.mark

abbrev pub table_from : List State → List Settled
table_from states = flat_map entry_of states
