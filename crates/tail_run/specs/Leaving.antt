-- What the answers of a run leave live, and how far its stamps and eras have come.
use Rattle.std.specs.Prelude.{ℕ, List, length, Option, Some, None, filter, fold, max, ◌≡◌, if◌then◌else◌}
use Rattle.std.proofs.Common.{not}
use Rattle.std.specs.List.{list_any, filter_map}
use Rattle.fleet_base.specs.declared.request.RouteId.{RouteId}
use Rattle.fleet_base.specs.declared.request.Live.{Live}
use Rattle.fleet_base.specs.declared.request.Entry.TheVariants as E
use Rattle.fleet_base.specs.History.{same_id}
use Rattle.lane_runs.specs.declared.answer.Answer.{Answer}
use Rattle.lane_runs.specs.declared.answer.Answer.TheVariants.{Made, Gone}

-- the route that an answer made
abbrev pub route_in : Answer → Option Live
route_in (Made order (E.Commit id era q w)) = Some (record { id = id; walk = w })
route_in (Made order (E.Cancel id era)) = None
route_in (Made order (E.NoRoute stamp caller era q)) = None
route_in (Gone order target) = None

-- the route that an answer ended
abbrev pub ended_in : Answer → Option RouteId
ended_in (Made order (E.Commit id era q w)) = None
ended_in (Made order (E.Cancel id era)) = Some id
ended_in (Made order (E.NoRoute stamp caller era q)) = None
ended_in (Gone order target) = None

abbrev pub routes_in : List Answer → List Live
routes_in answers = filter_map route_in answers

abbrev pub ended_ids : List Answer → List RouteId
ended_ids answers = filter_map ended_in answers

-- the routes that the answers made, but for those that one of them ended
abbrev pub live_after : List Answer → List Live
live_after answers = filter (λ r. not (list_any (λ id. same_id r.id id) (ended_ids answers))) (routes_in answers)

-- the stamp of a reply, and 0 for another answer
abbrev pub stamp_in : Answer → ℕ
stamp_in (Made order (E.Commit id era q w)) = id.stamp
stamp_in (Made order (E.Cancel id era)) = 0
stamp_in (Made order (E.NoRoute stamp caller era q)) = stamp
stamp_in (Gone order target) = 0

-- the greatest stamp of the answers
abbrev pub top_stamp : List Answer → ℕ
top_stamp answers = fold (λ top a. max top (stamp_in a)) 0 answers

-- how many routes the answers ended
abbrev pub ended_count : List Answer → ℕ
ended_count answers = length (ended_ids answers)

-- a list of keys has these ids and no others
abbrev pub HasIds : List RouteId → List RouteId → Type 0
HasIds keys ids = (id : RouteId) → list_any (λ key. same_id key id) keys ≡ list_any (λ e. same_id id e) ids

-- the route that an answer made, unless it is one of these
abbrev pub route_unless : List RouteId → Answer → Option Live
route_unless ended (Made order (E.Commit id era q w)) = if list_any (λ key. same_id key id) ended then None else Some (record { id = id; walk = w })
route_unless ended (Made order (E.Cancel id era)) = None
route_unless ended (Made order (E.NoRoute stamp caller era q)) = None
route_unless ended (Gone order target) = None
