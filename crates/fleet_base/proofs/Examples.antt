-- Small worked examples of the definitions, each checked by computation: histories with an exchange that leaves no
-- walk, a wait in a bay, a cancel that frees the way and an agent that stays on its goal; a canonical walk; and a legal
-- history whose journal is not legal, since it isn't strong.
use Rattle.std.proofs.Common.{List, ◌≡◌, ℕ, ◌+◌, ◌-◌, ◌<◌, ◌≤◌, inl, inr, true, false, [], ◌∷◌, Some, refl, ap, ◌∙◌, arith}
use Rattle.std.proofs.lemmas.List.Elements.{All-nil, All-cons}
use Rattle.fleet_base.specs.declared.grid.Cell.{Cell}
use Rattle.fleet_base.specs.declared.grid.Side.{Side}
use Rattle.fleet_base.specs.declared.grid.Side.TheVariants.{Up, Left, Right, Down}
use Rattle.fleet_base.specs.declared.request.RouteId.{RouteId}
use Rattle.fleet_base.specs.declared.request.Request.{Request}
use Rattle.fleet_base.specs.declared.request.Entry.{Entry}
use Rattle.fleet_base.specs.declared.request.Entry.TheVariants.{Commit, Cancel, NoRoute}
use Rattle.fleet_base.specs.declared.request.Live.{Live}
use Rattle.fleet_base.specs.Terrain.{Terrain, IsBeside}
use Rattle.fleet_base.specs.TimedWalk.{TimedWalk, position, IsStep}
use Rattle.fleet_base.specs.Planned.{IsWalkOf, IsClearOf}
use Rattle.fleet_base.specs.History.{IsAbove, IsNewStamp, IsLegal, IsStrong}
use Rattle.fleet_base.proofs.BookLemmas.{free-nil, free-cons}
use Rattle.fleet_base.specs.Traffic.{Traffic, is_on, traffic_of}
use Rattle.fleet_base.specs.Reach.{reaching, IsReachable, IsClearStep, Reached, begin, step}
use Rattle.fleet_base.specs.Canonical.{rank_of, IsFirstBefore, whole, hop, IsCanonical}
use Rattle.fleet_base.proofs.WalkLemmas.{position_for_ever}
use Rattle.fleet_base.proofs.TrafficLemmas.{same_cells, is_on-some, free_in_traffic}
use Rattle.fleet_base.proofs.ArrivalLemmas.{none_free_from_steps}
use Rattle.fleet_base.proofs.Layers.{cell, or_first, none_before, none_ever, reachable_late}
use Rattle.fleet_base.proofs.MadeWalks.{steps_from_list, opens_from_list, apart}

abbrev id : ℕ → RouteId
id n = record { stamp = n; caller = 0 }

abbrev request : ℕ → ℕ → Request
request from to = record { start = cell from; goal = cell to; depart = 0; stay = false }

-- the map `..`
abbrev pair : Terrain
pair = record { width = 2; height = 1; cells = true ∷ true ∷ [] }

abbrev right : TimedWalk
right = record { depart = 0; cells = cell 0 ∷ cell 1 ∷ []; stay = false }

abbrev left : TimedWalk
left = record { depart = 0; cells = cell 1 ∷ cell 0 ∷ []; stay = false }

goes_right : IsWalkOf pair 8000 (request 0 1) right
goes_right = record {
  departs = refl;
  stays = refl;
  starts = refl;
  arrives = refl;
  opens = opens_from_list pair right refl;
  steps = steps_from_list pair right (inr (Right, (0, 0, (omega arith, omega arith, refl), (omega arith, omega arith, refl))), tt);
  in_time = omega arith;
}

goes_left : IsWalkOf pair 8000 (request 1 0) left
goes_left = record {
  departs = refl;
  stays = refl;
  starts = refl;
  arrives = refl;
  opens = opens_from_list pair left refl;
  steps = steps_from_list pair left (inr (Left, (0, 0, (omega arith, omega arith, refl), (omega arith, omega arith, refl))), tt);
  in_time = omega arith;
}

first_stamp : (n : ℕ) → 1 ≤ n → n ≤ 100 → IsNewStamp (id n) []
first_stamp n low high = record { low = low; high = omega arith; above = All-nil (IsAbove (id n)) }

later_stamp : (n m : ℕ) → 1 ≤ n → n ≤ 100 → m < n → IsNewStamp (id n) (id m ∷ [])
later_stamp n m low high rises = record { low = low; high = omega arith; above = All-cons (IsAbove (id n)) (id m) [] (λ _. rises) (All-nil (IsAbove (id n))) }

pub exchange_leaves_no_walk : IsLegal pair 8000 (Commit (id 1) 0 (request 0 1) right ∷ NoRoute 2 0 0 (request 1 0) ∷ [])
exchange_leaves_no_walk = (
  record {
    in_era = refl;
    new_stamp = first_stamp 1 (omega arith) (omega arith);
    least = record { walk_of = goes_right; free = free-nil right; least = none_before pair 8000 (request 0 1) [] 1 refl };
  },
  (
    record {
      in_era = refl;
      new_stamp = later_stamp 2 1 (omega arith) (omega arith) (omega arith);
      none_free = none_ever pair 8000 (request 1 0) (record { id = id 1; walk = right } ∷ []) 1 refl refl;
    },
    tt,
  ),
)

pub cancel_frees_the_way : IsLegal pair 8000 (Commit (id 1) 0 (request 0 1) right ∷ Cancel (id 1) 0 ∷ Commit (id 2) 1 (request 1 0) left ∷ [])
cancel_frees_the_way = (
  record {
    in_era = refl;
    new_stamp = first_stamp 1 (omega arith) (omega arith);
    least = record { walk_of = goes_right; free = free-nil right; least = none_before pair 8000 (request 0 1) [] 1 refl };
  },
  (
    record { in_era = refl; live = refl },
    (
      record {
        in_era = refl;
        new_stamp = later_stamp 2 1 (omega arith) (omega arith) (omega arith);
        least = record { walk_of = goes_left; free = free-nil left; least = none_before pair 8000 (request 1 0) [] 1 refl };
      },
      tt,
    ),
  ),
)

-- the map `.....` over `@@@.@`
abbrev bay : Terrain
bay = record { width = 5; height = 2; cells = true ∷ true ∷ true ∷ true ∷ true ∷ false ∷ false ∷ false ∷ true ∷ false ∷ [] }

abbrev along : TimedWalk
along = record { depart = 0; cells = cell 0 ∷ cell 1 ∷ cell 2 ∷ cell 3 ∷ cell 4 ∷ []; stay = false }

abbrev through_bay : TimedWalk
through_bay = record { depart = 0; cells = cell 4 ∷ cell 3 ∷ cell 8 ∷ cell 8 ∷ cell 3 ∷ cell 2 ∷ cell 1 ∷ cell 0 ∷ []; stay = false }

goes_along : IsWalkOf bay 8000 (request 0 4) along
goes_along = record {
  departs = refl;
  stays = refl;
  starts = refl;
  arrives = refl;
  opens = opens_from_list bay along refl;
  steps = steps_from_list bay along (to_right 0 (omega arith), (to_right 1 (omega arith), (to_right 2 (omega arith), (to_right 3 (omega arith), tt))));
  in_time = omega arith;
}
  where
    to_right : (n : ℕ) → n < 4 → IsStep bay (cell n) (cell (n + 1))
    to_right n h = inr (Right, (n, 0, (omega arith, omega arith, omega arith), (omega arith, omega arith, omega arith)))

goes_through_bay : IsWalkOf bay 8000 (request 4 0) through_bay
goes_through_bay = record {
  departs = refl;
  stays = refl;
  starts = refl;
  arrives = refl;
  opens = opens_from_list bay through_bay refl;
  steps = steps_from_list bay through_bay (
    to_left 3 (omega arith),
    (inr (Down, (3, 0, (omega arith, omega arith, refl), (omega arith, omega arith, refl))), (inl refl, (inr (Up, (3, 0, (omega arith, omega arith, refl), (omega arith, omega arith, refl))), (to_left 2 (omega arith), (to_left 1 (omega arith), (to_left 0 (omega arith), tt)))))),
  );
  in_time = omega arith;
}
  where
    to_left : (n : ℕ) → n < 4 → IsStep bay (cell (n + 1)) (cell n)
    to_left n h = inr (Left, (n, 0, (omega arith, omega arith, omega arith), (omega arith, omega arith, omega arith)))

pub waits_in_the_bay : IsLegal bay 8000 (Commit (id 1) 0 (request 0 4) along ∷ Commit (id 2) 0 (request 4 0) through_bay ∷ [])
waits_in_the_bay =
    let route : Live = record { id = id 1; walk = along } in (
      record {
        in_era = refl;
        new_stamp = first_stamp 1 (omega arith) (omega arith);
        least = record { walk_of = goes_along; free = free-nil along; least = none_before bay 8000 (request 0 4) [] 4 refl };
      },
      (
        record {
          in_era = refl;
          new_stamp = later_stamp 2 1 (omega arith) (omega arith) (omega arith);
          least = record {
            walk_of = goes_through_bay;
            free = free-cons through_bay route [] (apart through_bay along refl refl) (free-nil through_bay);
            least = none_before bay 8000 (request 4 0) (route ∷ []) 7 refl;
          };
        },
        tt,
      ),
    )

-- two at once meet in an exchange, and one behind the other do not
abbrev far_right : TimedWalk
far_right = record { depart = 0; cells = cell 0 ∷ cell 1 ∷ cell 2 ∷ []; stay = false }

abbrev ahead : TimedWalk
ahead = record { depart = 0; cells = cell 1 ∷ cell 2 ∷ []; stay = false }

pub following : IsClearOf far_right (record { id = id 1; walk = ahead })
following = apart far_right ahead refl refl

pub exchanging : IsClearOf right (record { id = id 1; walk = left }) → ⊥
exchanging clear = clear (record { time = 0; met = inr (cell 0, cell 1, (λ e. let zero_is_one : 0 ≡ 1 = ap (λ (c : Cell). c.0) e in omega arith), refl, refl, refl, refl) })

-- An agent that stays stands in the way for ever.
-- the map `...`
abbrev triple : Terrain
triple = record { width = 3; height = 1; cells = true ∷ true ∷ true ∷ [] }

abbrev park : Request
park = record { start = cell 0; goal = cell 1; depart = 0; stay = true }

abbrev parked : TimedWalk
parked = record { depart = 0; cells = cell 0 ∷ cell 1 ∷ []; stay = true }

abbrev past_it : Request
past_it = record { start = cell 0; goal = cell 2; depart = 5; stay = false }

abbrev parked_there : List Live
parked_there = record { id = id 1; walk = parked } ∷ []

goes_to_park : IsWalkOf triple 8000 park parked
goes_to_park = record {
  departs = refl;
  stays = refl;
  starts = refl;
  arrives = refl;
  opens = opens_from_list triple parked refl;
  steps = steps_from_list triple parked (inr (Right, (0, 0, (omega arith, omega arith, refl), (omega arith, omega arith, refl))), tt);
  in_time = omega arith;
}

-- after its arrival its goal is taken at each time
goal_taken : (t : ℕ) → 1 ≤ t → (traffic_of parked_there).is_taken (cell 1) t ≡ true
goal_taken t later =
    let e : 1 + (t - 1) ≡ t = omega arith in
    let there : position parked (1 + (t - 1)) ≡ Some (cell 1) = position_for_ever parked (cell 1) 1 (t - 1) refl (omega arith, omega arith) refl in
    let here : position parked t ≡ Some (cell 1) = rw e at there in
    or_first (is_on (cell 1) (position parked t)) false (is_on-some (cell 1) _ here)

-- who starts beside it never gets past it
kept_back : {c : Cell} {t : ℕ} → Reached triple (traffic_of parked_there) (cell 0) 5 c t → (c.0 ≡ 0) × (5 ≤ t)
kept_back (begin opened untaken) = (refl, omega arith)
kept_back (step {c} {d} {t} before moves opened clear) = (at_start moves (kept_back before), omega (arith, (kept_back before).1))
  where
    not_beyond : (n : ℕ) → d.0 ≡ n → n ≡ 1 → 5 ≤ t → ⊥
    not_beyond n e one since =
        let same : d ≡ cell 1 = same_cells d (cell 1) (e ∙ one) in
        let taken : (traffic_of parked_there).is_taken (cell 1) (t + 1) ≡ true = goal_taken (t + 1) (omega arith) in
        let free : (traffic_of parked_there).is_taken (cell 1) (t + 1) ≡ false = rw same at clear.untaken in
        cc

    at_start : IsStep triple c d → (c.0 ≡ 0) × (5 ≤ t) → d.0 ≡ 0
    at_start (inl same) was = ap (λ (x : Cell). x.0) same ∙ was.0
    at_start (inr (Up, (x, y, at, to))) was = omega (arith, at.1, at.2, was.0)
    at_start (inr (Left, (x, y, at, to))) was = omega (arith, at.1, at.2, was.0)
    at_start (inr (Right, (x, y, at, to))) was = absurd (not_beyond d.0 refl (omega (arith, at.2, to.2, was.0)) was.1)
    at_start (inr (Down, (x, y, at, to))) was = omega (arith, at.1, to.1)

pub parked_for_ever : IsLegal triple 8000 (Commit (id 1) 0 park parked ∷ NoRoute 2 0 0 past_it ∷ [])
parked_for_ever = (
  record {
    in_era = refl;
    new_stamp = first_stamp 1 (omega arith) (omega arith);
    least = record { walk_of = goes_to_park; free = free-nil parked; least = none_before triple 8000 park [] 1 refl };
  },
  (
    record {
      in_era = refl;
      new_stamp = later_stamp 2 1 (omega arith) (omega arith) (omega arith);
      none_free = none_free_from_steps triple 8000 past_it parked_there (λ s below reached. let kept : 2 ≡ 0 = (kept_back reached).0 in omega arith);
    },
    tt,
  ),
)

-- Of two shortest ways the canonical walk comes to the goal from above: up is the first neighbour.
-- the map `..` / `..`
abbrev square : Terrain
square = record { width = 2; height = 2; cells = true ∷ true ∷ true ∷ true ∷ [] }

abbrev empty : Traffic
empty = traffic_of []

abbrev right_then_down : TimedWalk
right_then_down = record { depart = 0; cells = cell 0 ∷ cell 1 ∷ cell 3 ∷ []; stay = false }

abbrev right_alone : TimedWalk
right_alone = record { depart = 0; cells = cell 0 ∷ cell 1 ∷ []; stay = false }

abbrev here_alone : TimedWalk
here_alone = record { depart = 0; cells = cell 0 ∷ []; stay = false }

to_the_right : IsStep square (cell 0) (cell 1)
to_the_right = inr (Right, (0, 0, (omega arith, omega arith, refl), (omega arith, omega arith, refl)))

downwards : IsStep square (cell 1) (cell 3)
downwards = inr (Down, (1, 0, (omega arith, omega arith, refl), (omega arith, omega arith, refl)))

abbrev corner : Request
corner = request 0 3

abbrev reach : ℕ → Request
reach n = reaching corner (cell n)

reach_corner : IsReachable square empty corner (cell 3) 2
reach_corner = record {
  walk = right_then_down;
  walk_of = record {
    departs = refl;
    stays = refl;
    starts = refl;
    arrives = refl;
    opens = opens_from_list square right_then_down refl;
    steps = steps_from_list square right_then_down (to_the_right, (downwards, tt));
    in_time = omega arith;
  };
  free = free_in_traffic right_then_down [] (free-nil right_then_down);
  ends = refl;
}

reach_right : IsReachable square empty corner (cell 1) 1
reach_right = record {
  walk = right_alone;
  walk_of = record {
    departs = refl;
    stays = refl;
    starts = refl;
    arrives = refl;
    opens = opens_from_list square right_alone refl;
    steps = steps_from_list square right_alone (to_the_right, tt);
    in_time = omega arith;
  };
  free = free_in_traffic right_alone [] (free-nil right_alone);
  ends = refl;
}

reach_here : IsReachable square empty corner (cell 0) 0
reach_here = record {
  walk = here_alone;
  walk_of = record {
    departs = refl;
    stays = refl;
    starts = refl;
    arrives = refl;
    opens = opens_from_list square here_alone refl;
    steps = steps_from_list square here_alone tt;
    in_time = omega arith;
  };
  free = free_in_traffic here_alone [] (free-nil here_alone);
  ends = refl;
}

unhindered : (c d : Cell) (t : ℕ) → IsClearStep empty c d t
unhindered c d t = record { untaken = refl; unbarred = λ differ. refl }

from_above : IsFirstBefore square empty corner (cell 1) (cell 3) 1
from_above = record {
  side = Up;
  beside = (1, 0, (omega arith, omega arith, refl), (omega arith, omega arith, refl));
  precedes = record { reachable = reach_right; clear = unhindered (cell 1) (cell 3) 1 };
  first = λ other m less beside precedes. omega arith;
}

from_the_left : IsFirstBefore square empty corner (cell 0) (cell 1) 0
from_the_left = record {
  side = Left;
  beside = (0, 0, (omega arith, omega arith, refl), (omega arith, omega arith, refl));
  precedes = record { reachable = reach_here; clear = unhindered (cell 0) (cell 1) 0 };
  first = λ other m less beside precedes. none_above other m less beside;
}
  where
    none_above : (other : Side) (m : Cell) → rank_of other < 1 → IsBeside square other (cell 1) m → ⊥
    none_above Up m less (x, y, at, to) = omega (arith, at.0, at.2)
    none_above Left m less beside = omega arith
    none_above Right m less beside = omega arith
    none_above Down m less beside = omega arith

pub up_comes_first : IsCanonical square 8000 empty corner right_then_down
up_comes_first = record {
  departs = refl;
  stays = refl;
  in_time = omega arith;
  ends = record { reachable = reach_corner; may_end = λ staying. absurd (cc) };
  least = λ t ends. reachable_late square empty corner (cell 3) 2 refl ends.reachable;
  reads = hop from_above (record {
    before = omega arith;
    reachable = reach_right;
    untaken = λ x low high. refl;
    earliest = λ u below reached untaken. reachable_late square empty corner (cell 1) 1 refl reached;
  }) (hop from_the_left (record {
    before = omega arith;
    reachable = reach_here;
    untaken = λ x low high. refl;
    earliest = λ u below reached untaken. omega arith;
  }) whole);
}

-- Legal alone is not enough: where a stamp is the caller's own count, the journal may tell another story.
abbrev late_first : List Entry
late_first = Commit (id 2) 0 (request 0 1) right ∷ NoRoute 1 1 0 (request 1 0) ∷ []

abbrev by_stamp : List Entry
by_stamp = NoRoute 1 1 0 (request 1 0) ∷ Commit (id 2) 0 (request 0 1) right ∷ []

pub late_first_legal : IsLegal pair 8000 late_first
late_first_legal = (
  record {
    in_era = refl;
    new_stamp = first_stamp 2 (omega arith) (omega arith);
    least = record { walk_of = goes_right; free = free-nil right; least = none_before pair 8000 (request 0 1) [] 1 refl };
  },
  (
    record {
      in_era = refl;
      new_stamp = record {
        low = omega arith;
        high = omega arith;
        above = let me : RouteId = record { stamp = 1; caller = 1 } in
            All-cons (IsAbove me) (id 2) [] (λ e. let zero_is_one : 0 ≡ 1 = e in absurd (omega arith)) (All-nil (IsAbove me));
      };
      none_free = none_ever pair 8000 (request 1 0) (record { id = id 2; walk = right } ∷ []) 1 refl refl;
    },
    tt,
  ),
)

pub by_stamp_illegal : IsLegal pair 8000 by_stamp → ⊥
by_stamp_illegal legal = legal.0.none_free.never left goes_left (free-nil left)

pub late_first_weak : IsStrong pair 8000 late_first → ⊥
late_first_weak strong = strong.1.0.1.never left goes_left (free-nil left)

-- Nor may a cancel stand by the stamp of its route: what it ends its era before belongs to the next one.
abbrev first_route : Entry
first_route = Commit (id 1) 0 (request 0 1) right

abbrev refused : Entry
refused = NoRoute 2 0 0 (request 1 0)

pub cancel_last_legal : IsLegal pair 8000 (first_route ∷ refused ∷ Cancel (id 1) 0 ∷ [])
cancel_last_legal = (exchange_leaves_no_walk.0, (exchange_leaves_no_walk.1.0, (record { in_era = refl; live = refl }, tt)))

pub cancel_first_illegal : IsLegal pair 8000 (first_route ∷ Cancel (id 1) 0 ∷ refused ∷ []) → ⊥
cancel_first_illegal legal = let eras : 0 ≡ 1 = legal.1.1.0.in_era in omega arith
