-- A run that several workers began and one finishes.
use Rattle.std.specs.Prelude.{◌≡◌, ℕ, ◌<◌, ◌≤◌, ◌++◌, List, Some, All, Contains, IfSome, slice_get}
use Rattle.fleet_base.specs.declared.request.Entry.{Entry}
use Rattle.fleet_base.specs.Terrain.{Terrain}
use Rattle.fleet_base.specs.History.{reply_of, IsStrong}
use Rattle.fleet_base.specs.Journal.{Precedes}
use Rattle.order_text.specs.declared.lane.Lane.{Lane}
use Rattle.order_text.specs.Lanes.{after_lane}
use Rattle.lane_runs.specs.declared.answer.Answer.{Answer}
use Rattle.lane_runs.specs.declared.answer.Answer.TheVariants.{Made}
use Rattle.lane_runs.specs.declared.answer.Left.{Left}
use Rattle.lane_runs.specs.Answers.{entries_made, order_of}
use Rattle.lane_runs.specs.Runs.{IsRun, AreOfOneLane}
use Rattle.journal_lines.specs.Printing.{ArePrinted, AreAJournal}
use Rattle.planner_pool.specs.PoolRun.{Holds}
use Rattle.planner_pool.specs.Runs.{IsRunUpTo}

-- The first orders of each lane were answered, in a strong history that has the entries of the answers and no others; the
-- lanes that have more orders are left.
pub record HasBegun (g : Terrain) (horizon : ℕ) (lanes : List Lane) (answers : List Answer) (left : List Left) : Type 0 where
  pub by_lane : List (List Answer)
  pub list : List Entry
  pub strong : IsStrong g horizon list
  pub run : IsRunUpTo lanes by_lane answers left
  pub holds : Holds lanes by_lane answers list

-- of two entries of one lane that of the earlier order comes first in the order of the journal
abbrev pub LanesInOrder : List Lane → List Answer → Type 0
LanesInOrder lanes answers = (m n : ℕ) (x y : Entry) → AreOfOneLane lanes m n → m < n → Contains answers (Made m x) → Contains answers (Made n y) → Precedes x y

-- the order is one that was left: of a lane that was left, and not before the first order without an answer
pub record IsOfLeft (lanes : List Lane) (left : List Left) (order : ℕ) : Type 0 where
  pub which : Left
  pub lane : Lane
  pub was_left : Contains left which
  pub at : slice_get lanes which.lane ≡ Some lane
  pub from : which.from ≤ order
  pub before_end : order < after_lane lane

-- All answers are those that were made, and those of a tail. The tail answers orders that were left, and its replies have
-- this caller. Each order has one answer, and in the order of print all of them are a journal.
pub record IsFinished (g : Terrain) (horizon caller : ℕ) (lanes : List Lane) (made : List Answer) (left : List Left) (all : List Answer) : Type 0 where
  pub tail : List Answer
  pub all_are : all ≡ made ++ tail
  pub run : IsRun lanes all
  pub journal : (printed : List Answer) → ArePrinted all printed → AreAJournal g horizon lanes printed
  pub by : All (λ e. IfSome (reply_of e) (λ id. id.caller ≡ caller)) (entries_made tail)
  pub of_left : All (λ a. IsOfLeft lanes left (order_of a)) tail
