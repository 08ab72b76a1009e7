-- The order in which the answers of a run are printed, and the whole text.
use Rattle.std.specs.Prelude.{◌≡◌, ℕ, ◌+◌, List, Some, IsPermutation, slice_get}
use Rattle.fleet_base.specs.Terrain.{Terrain}
use Rattle.fleet_base.specs.History.{IsLegal}
use Rattle.fleet_base.specs.Journal.{IsInOrder}
use Rattle.order_text.specs.declared.lane.Lane.{Lane}
use Rattle.order_text.specs.Lanes.{AreLanes}
use Rattle.lane_runs.specs.declared.answer.Answer.{Answer}
use Rattle.lane_runs.specs.declared.answer.Answer.TheVariants.{Gone}
use Rattle.lane_runs.specs.Answers.{entries_made, order_of}
use Rattle.lane_runs.specs.Runs.{IsRun, KeepsLanes}

-- the answer at place k, a cancel that is gone, stands directly after the answer to the order before its own
pub record StandsBehind (printed : List Answer) (k n : ℕ) : Type 0 where
  pub place : ℕ
  pub next : k ≡ place + 1
  pub before : Answer
  pub at : slice_get printed place ≡ Some before
  pub order : order_of before + 1 ≡ n

abbrev pub GoneStandBehind : List Answer → Type 0
GoneStandBehind printed = (k n target : ℕ) → slice_get printed k ≡ Some (Gone n target) → StandsBehind printed k n

-- the answers in the order in which they are printed: the entries in the order of the journal
pub record ArePrinted (answers printed : List Answer) : Type 0 where
  pub same : IsPermutation answers printed
  pub in_order : IsInOrder (entries_made printed)
  pub gone : GoneStandBehind printed

-- the answers of a run over some lanes
pub record AreOfRun (answers : List Answer) : Type 0 where
  pub cells : ℕ
  pub lanes : List Lane
  pub are : AreLanes cells lanes
  pub run : IsRun lanes answers

-- The answers in the order in which they are printed, as a journal: each order of the lanes answered once, a legal history
-- that is its own journal and keeps the lanes, and each cancel that is gone directly behind the order before its own.
pub record AreAJournal (g : Terrain) (horizon : ℕ) (lanes : List Lane) (printed : List Answer) : Type 0 where
  pub run : IsRun lanes printed
  pub legal : IsLegal g horizon (entries_made printed)
  pub in_order : IsInOrder (entries_made printed)
  pub keeps : KeepsLanes lanes printed
  pub gone : GoneStandBehind printed
