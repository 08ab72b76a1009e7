-- A run by several workers over a shared book, with a tail on one thread.
use Rattle.std.specs.Prelude.{◌≡◌, ℕ, ◌+◌, ◌*◌, ◌<◌, ◌≤◌, ◌++◌, List, length, Some, All, Contains, IfSome, IsPermutation, slice_get}
use Rattle.std.specs.List.{range_with_len}
use Rattle.fleet_base.specs.declared.request.Entry.{Entry}
use Rattle.fleet_base.specs.Terrain.{Terrain}
use Rattle.fleet_base.specs.History.{reply_of}
use Rattle.order_text.specs.declared.lane.Lane.{Lane}
use Rattle.order_text.specs.Lanes.{all_orders, after_lane, AreNumberedFrom}
use Rattle.lane_runs.specs.declared.answer.Answer.{Answer}
use Rattle.lane_runs.specs.declared.answer.Answer.TheVariants.{Made}
use Rattle.lane_runs.specs.Answers.{entries_made, order_of}
use Rattle.journal_lines.specs.Printing.{AreOfRun, ArePrinted, AreAJournal}
use Rattle.book_trait.specs.Passes.{BookView, JoinedView, IsJoined}

-- the order is of one of the lanes at these places
pub record IsOfLanes (lanes : List Lane) (places : List ℕ) (order : ℕ) : Type 0 where
  pub place : ℕ
  pub lane : Lane
  pub among : Contains places place
  pub at : slice_get lanes place ≡ Some lane
  pub begun : lane.first ≤ order
  pub before_end : order < after_lane lane

-- The lanes of which these answers have an entry are few: eight times their number is at most the number of 'again's and
-- eight times that of 'full's.
pub record AreOfFewLanes (lanes : List Lane) (answers : List Answer) (j : JoinedView) : Type 0 where
  pub places : List ℕ
  pub each : (n : ℕ) (e : Entry) → Contains answers (Made n e) → IsOfLanes lanes places n
  pub few : 8 * length places ≤ j.again + 8 * j.full

-- the book of so many callers
abbrev pub book_of : Terrain → ℕ → ℕ → BookView
book_of g horizon workers = record { grid = g; horizon = horizon; callers = workers }

-- The answers are those of so many workers and those of a tail. The entries of the workers are those that all callers of one
-- shared book have seen, and no others; the replies of the tail have the number of workers as their caller.
pub record IsSharedRun (g : Terrain) (horizon workers : ℕ) (lanes : List Lane) (j : JoinedView) (printed : List Answer) : Type 0 where
  pub theirs : List Answer
  pub tail : List Answer
  pub same : IsPermutation (theirs ++ tail) printed
  pub joined : IsJoined (book_of g horizon workers) j
  pub callers : j.callers ≡ range_with_len 0 workers
  pub entries : IsPermutation (entries_made theirs) j.seen
  pub by : All (λ e. IfSome (reply_of e) (λ id. id.caller ≡ workers)) (entries_made tail)
  pub few_lanes : AreOfFewLanes lanes tail j

-- the answers are to orders of the lanes, which are numbered from 0
abbrev pub AnswerLanes : List Lane → List Answer → Type 0
AnswerLanes lanes answers = AreNumberedFrom 0 lanes × (length answers ≤ 32767) × All (λ a. order_of a < length (all_orders lanes)) answers

-- In the order of print the answers are a journal of such a run.
pub record IsFromWorkers (g : Terrain) (horizon workers : ℕ) (lanes : List Lane) (j : JoinedView) (answers : List Answer) : Type 0 where
  pub run : AreOfRun answers
  pub right : AnswerLanes lanes answers
  pub journal : (printed : List Answer) → ArePrinted answers printed → AreAJournal g horizon lanes printed
  pub shared : (printed : List Answer) → ArePrinted answers printed → IsSharedRun g horizon workers lanes j printed
