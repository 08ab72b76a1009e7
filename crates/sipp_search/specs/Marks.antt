-- The states of a search: spots with marks, and the keys by which they are queued.
use Rattle.std.specs.Prelude.{ℕ, ◌+◌, List, [], ◌∷◌, Option, Some, None, map, nat_lt, if◌then◌else◌}
use Rattle.sipp_search.specs.declared.states.Spot.{Spot}
use Rattle.sipp_search.specs.declared.states.State.{State}
use Rattle.sipp_search.specs.declared.states.Mark.{Mark}
use Rattle.sipp_search.specs.declared.states.Mark.TheVariants.{Unseen, Queued, Final}

abbrev pub spots_of : List State → List Spot
spots_of states = map (λ s. s.spot) states

abbrev pub unseen : Spot → State
unseen p = record { spot = p; mark = Unseen }

abbrev pub queued : Spot → ℕ → State
queued p r = record { spot = p; mark = Queued r }

abbrev pub final : Spot → ℕ → State
final p r = record { spot = p; mark = Final r }

abbrev pub key_by_mark : Mark → ℕ → Option ℕ
key_by_mark Unseen left = None
key_by_mark (Queued r) left = Some (r + left)
key_by_mark (Final r) left = None

-- the key by which a state is queued: its arrival plus the way that is left
abbrev pub key_of : State → Option ℕ
key_of s = key_by_mark s.mark s.spot.left

abbrev pub keys_of : List State → List (Option ℕ)
keys_of states = map key_of states

abbrev pub offered_mark : Mark → ℕ → Mark
offered_mark Unseen e = Queued e
offered_mark (Queued r) e = if nat_lt e r then Queued e else Queued r
offered_mark (Final r) e = Final r

-- the state after an arrival was offered to it
abbrev pub offered : State → ℕ → State
offered s e = record s { mark = offered_mark s.mark e }

abbrev pub one_if_final : Mark → ℕ
one_if_final Unseen = 0
one_if_final (Queued r) = 0
one_if_final (Final r) = 1

-- how many states are final
abbrev pub final_count : List State → ℕ
final_count [] = 0
final_count (s ∷ states) = one_if_final s.mark + final_count states
