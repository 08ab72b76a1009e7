-- The canonical walk: of the least walks of a request the one that is read back from the goal.
-- A cell is left as late as the walk allows and entered, for that stay, as early as it can be reached (Phillips and
-- Likhachev, 2011: the earliest arrival in a safe interval).
use Rattle.std.specs.Prelude.{◌≡◌, ℕ, ◌+◌, ◌-◌, ◌<◌, ◌≤◌, false, List, [], ◌∷◌, ◌++◌, replicate}
use Rattle.fleet_base.specs.declared.grid.Cell.{Cell}
use Rattle.fleet_base.specs.declared.grid.Side.{Side}
use Rattle.fleet_base.specs.declared.grid.Side.TheVariants.{Up, Left, Right, Down}
use Rattle.fleet_base.specs.declared.request.Request.{Request}
use Rattle.fleet_base.specs.Terrain.{Terrain, IsBeside}
use Rattle.fleet_base.specs.TimedWalk.{TimedWalk, arrival}
use Rattle.fleet_base.specs.Traffic.{Traffic}
use Rattle.fleet_base.specs.Reach.{IsReachable, IsClearStep, IsArrival}

-- the order in which neighbours are taken
abbrev pub rank_of : Side → ℕ
rank_of Up = 0
rank_of Left = 1
rank_of Right = 2
rank_of Down = 3

-- n is reachable at t, and from there the move to c is free
pub record CanPrecede (g : Terrain) (traffic : Traffic) (q : Request) (n c : Cell) (t : ℕ) : Type 0 where
  pub reachable : IsReachable g traffic q n t
  pub clear : IsClearStep traffic n c t

-- of the neighbours of c that can precede it at t, n is the first
pub record IsFirstBefore (g : Terrain) (traffic : Traffic) (q : Request) (n c : Cell) (t : ℕ) : Type 0 where
  pub side : Side
  pub beside : IsBeside g side c n
  pub precedes : CanPrecede g traffic q n c t
  pub first : (other : Side) (m : Cell) → rank_of other < rank_of side → IsBeside g other c m → ¬ (CanPrecede g traffic q m c t)

-- from s to t nobody is in c: both times lie in one safe interval of it
abbrev pub IsUntaken : Traffic → Cell → ℕ → ℕ → Type 0
IsUntaken traffic c s t = (x : ℕ) → s ≤ x → x ≤ t → traffic.is_taken c x ≡ false

-- s is the least time at which c is reachable within the safe interval that holds t
pub record IsEarliest (g : Terrain) (traffic : Traffic) (q : Request) (c : Cell) (t s : ℕ) : Type 0 where
  pub before : s ≤ t
  pub reachable : IsReachable g traffic q c s
  pub untaken : IsUntaken traffic c s t
  pub earliest : (u : ℕ) → u ≤ t → IsReachable g traffic q c u → IsUntaken traffic c u t → s ≤ u

-- the cells from the departure on that are read back from c at a time
pub data ReadsBack (g : Terrain) (traffic : Traffic) (q : Request) : Cell → ℕ → List Cell → Type 0 where
  whole : ReadsBack g traffic q q.start q.depart (q.start ∷ [])
  hop : {n c : Cell} {s t : ℕ} {cells : List Cell} → IsFirstBefore g traffic q n c t → IsEarliest g traffic q n t s
      → ReadsBack g traffic q n s cells → ReadsBack g traffic q c (t + 1) (cells ++ replicate (t - s) n ++ c ∷ [])

-- the walk that is read back from the goal at the least time at which the agent may end there
pub record IsCanonical (g : Terrain) (horizon : ℕ) (traffic : Traffic) (q : Request) (w : TimedWalk) : Type 0 where
  pub departs : w.depart ≡ q.depart
  pub stays : w.stay ≡ q.stay
  pub in_time : arrival w ≤ horizon
  pub ends : IsArrival g traffic q (arrival w)
  pub least : (t : ℕ) → IsArrival g traffic q t → arrival w ≤ t
  pub reads : ReadsBack g traffic q q.goal (arrival w) w.cells
