-- The ids that orders were given, by their numbers.
use Rattle.std.specs.Prelude.{◌≡◌, ℕ, ◌+◌, ◌<◌, List, length, Option, Some, None, fold, replicate, slice_get, slice_set}
use Rattle.fleet_base.specs.declared.request.RouteId.{RouteId}
use Rattle.fleet_base.specs.declared.request.Entry.TheVariants as E
use Rattle.order_text.specs.declared.lane.Lane.{Lane}
use Rattle.lane_runs.specs.declared.answer.Answer.{Answer}
use Rattle.lane_runs.specs.declared.answer.Answer.TheVariants.{Made, Gone}

-- one answer more: a commit gives its id to its order
abbrev pub noted : List (Option RouteId) → Answer → List (Option RouteId)
noted ids (Made order (E.Commit id era q w)) = slice_set ids order (Some id)
noted ids (Made order (E.Cancel id era)) = ids
noted ids (Made order (E.NoRoute stamp caller era q)) = ids
noted ids (Gone order target) = ids

-- the ids that these answers gave to so many orders
abbrev pub ids_of : ℕ → List Answer → List (Option RouteId)
ids_of count answers = fold noted (replicate count None) answers

-- the id that an answer gave, where there is one
abbrev pub id_in : Option Answer → Option RouteId
id_in None = None
id_in (Some (Made order (E.Commit id era q w))) = Some id
id_in (Some (Made order (E.Cancel id era))) = None
id_in (Some (Made order (E.NoRoute stamp caller era q))) = None
id_in (Some (Gone order target)) = None

-- the orders of the lane have the ids that these answers gave to the first of them
abbrev pub AreIdsOf : Lane → List Answer → List (Option RouteId) → Type 0
AreIdsOf lane xs ids = (j : ℕ) → j < length lane.orders → slice_get ids (lane.first + j) ≡ Some (id_in (slice_get xs j))
