-- What there is to write once all is planned.
use Rattle.std.specs.Prelude.{◌≡◌, ℕ, List, Option, Some, None}
use Rattle.std.specs.List.{concat}
use Rattle.std.specs.Option.{option_map}
use Rattle.fleet_base.specs.Terrain.{Terrain}
use Rattle.order_text.specs.declared.lane.Lane.{Lane}
use Rattle.lane_runs.specs.declared.answer.Answer.{Answer}
use Rattle.book_trait.specs.Passes.{JoinedView}
use Rattle.turn_book.specs.Passes.{joined_view}
use Rattle.journal_lines.specs.Lines.{journal_lines, last_line}
use Rattle.journal_lines.specs.Printing.{AreOfRun, ArePrinted}
use Rattle.fleet_run.specs.declared.job.Job.{Job}
use Rattle.fleet_run.specs.declared.job.Job.TheVariants.{Reply, Journal, Shared, LastLine}
use Rattle.fleet_run.specs.Texts.{answer_text}
use Rattle.fleet_run.specs.Workers.{AnswerLanes}

-- the text is the journal of these answers, in an order in which they are printed
pub record IsPrintedAs (g : Terrain) (lanes : List Lane) (answers : List Answer) (text : List ℕ) : Type 0 where
  pub printed : List Answer
  pub in_order : ArePrinted answers printed
  pub says : text ≡ concat (journal_lines g lanes printed)

-- the text is one that the job may be written as
abbrev pub Says : Job → List ℕ → Type 0
Says (Reply book answer) text = text ≡ answer_text book.grid answer
Says (Journal book lanes answers) text = text ≡ concat (journal_lines book.grid lanes.items answers.items)
Says (Shared grid lanes answers joined) text = IsPrintedAs grid lanes.items answers.items text
Says (LastLine totals joined) text = text ≡ last_line totals

-- what was joined for the job
abbrev pub joined_in : Job → Option JoinedView
joined_in (Reply book answer) = None
joined_in (Journal book lanes answers) = None
joined_in (Shared grid lanes answers joined) = Some (joined_view joined)
joined_in (LastLine totals joined) = option_map joined_view joined

-- the answers are to orders of the lanes
abbrev pub CanBeWritten : Job → Type 0
CanBeWritten (Reply book answer) = Unit {0}
CanBeWritten (Journal book lanes answers) = AnswerLanes lanes.items answers.items
CanBeWritten (Shared grid lanes answers joined) = AnswerLanes lanes.items answers.items × AreOfRun answers.items
CanBeWritten (LastLine totals joined) = Unit {0}
