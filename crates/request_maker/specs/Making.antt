-- A grid and requests that are made from one number, by a linear congruential generator.
use Rattle.std.specs.Prelude.{ℕ, zero, suc, ◌+◌, ◌*◌, ◌/◌, ◌%◌, ◌^◌, Bool, false, nat_le, List, [], ◌∷◌, ◌++◌}
use Rattle.fleet_base.specs.declared.request.Request.{Request}
use Rattle.fleet_base.specs.Terrain.{Terrain}

-- the state after one draw more
abbrev pub next_state : ℕ → ℕ
next_state x = (x * 6364136223846793005 + 1442695040888963407) % 2 ^ 64

-- the state after so many draws
abbrev pub state_after : ℕ → ℕ → ℕ
state_after start zero = start
state_after start (suc n) = next_state (state_after start n)

-- what a state gives, below m
abbrev pub value_below : ℕ → ℕ → ℕ
value_below state m = (state / 2 ^ 33) % m

-- the draw of number n, from 0, below m
abbrev pub draw_at : ℕ → ℕ → ℕ → ℕ
draw_at start n m = value_below (state_after start (n + 1)) m

-- what f gives for each number below n, in rising order
abbrev pub each_below : {X : Type 0} → (ℕ → X) → ℕ → List X
each_below f zero = []
each_below f (suc n) = each_below f n ++ f n ∷ []

-- a cell, by its number, is closed where its draw below 100 is below the percentage
abbrev pub is_open_at : ℕ → ℕ → ℕ → Bool
is_open_at percent start cell = nat_le percent (draw_at start cell 100)

abbrev pub made_grid : ℕ → ℕ → ℕ → ℕ → Terrain
made_grid width height percent start = record { width = width; height = height; cells = each_below (is_open_at percent start) (width * height) }

-- after the draws of the cells: a start, then a goal, for each request; they depart at 0 to 255, again and again
abbrev pub request_at : ℕ → ℕ → ℕ → Request
request_at area start i = record {
  start = record { 0 = draw_at start (area + 2 * i) area };
  goal = record { 0 = draw_at start (area + 2 * i + 1) area };
  depart = i % 256;
  stay = false;
}

abbrev pub made_requests : ℕ → ℕ → ℕ → ℕ → List Request
made_requests width height count start = each_below (request_at (width * height) start) count
