-- The text that is due: what a command asks for, of the files that were read.
use Rattle.std.specs.Prelude.{◌≡◌, ℕ, ◌<◌, ◌≤◌, List, [], false, Option, Some, None}
use Rattle.std.specs.List.{concat}
use Rattle.fleet_base.specs.declared.request.Request.{Request}
use Rattle.fleet_base.specs.declared.request.Entry.{Entry}
use Rattle.fleet_base.specs.declared.request.Entry.TheVariants.{Commit, Cancel, NoRoute}
use Rattle.fleet_base.specs.Terrain.{Terrain, cell_at}
use Rattle.fleet_base.specs.TimedWalk.{TimedWalk}
use Rattle.fleet_base.specs.Planned.{IsLeast, NoneFree}
use Rattle.fleet_base.specs.Traffic.{traffic_of}
use Rattle.fleet_base.specs.Canonical.{IsCanonical}
use Rattle.fleet_io.specs.Files.{NamedFile}
use Rattle.order_text.specs.declared.lane.Lane.{Lane}
use Rattle.order_text.specs.Lanes.{request_lanes, all_orders}
use Rattle.lane_runs.specs.declared.answer.Answer.{Answer}
use Rattle.plain_run.specs.PlainRun.{IsPlainRun}
use Rattle.journal_lines.specs.Totals.{totals_of}
use Rattle.journal_lines.specs.Lines.{journal_lines, last_line}
use Rattle.book_trait.specs.Passes.{JoinedView}
use Rattle.journal_lines.specs.Printing.{AreAJournal}
use Rattle.request_maker.specs.Making.{made_grid, made_requests}
use Rattle.command_line.specs.declared.command.Command.{Command}
use Rattle.command_line.specs.declared.command.Command.TheVariants.{One, Run, Orders, Gen, Check, Long, Turns}
use Rattle.command_line.specs.Sorting.{Word}
use Rattle.fleet_run.specs.Workers.{IsSharedRun}
use Rattle.fleet_run.specs.Texts.{answer_text}
use Rattle.fleet_run.specs.Files.{IsMapRead, IsScenRead, IsOrdersRead}

-- ---- one request

-- the place, a column and a row, is on the grid
abbrev pub IsInside : Terrain → ℕ × ℕ → Type 0
IsInside g place = (place.0 < g.width) × (place.1 < g.height)

abbrev pub AreInside : Terrain → ℕ × ℕ → ℕ × ℕ → Type 0
AreInside g from to = IsInside g from × IsInside g to

-- to go from the first place to the second at once, and be gone there
abbrev pub request_of : Terrain → ℕ × ℕ → ℕ × ℕ → Request
request_of g from to = record { start = cell_at g from.0 from.1; goal = cell_at g to.0 to.1; depart = 0; stay = false }

-- the last time at which a walk may arrive
abbrev pub horizon_of_one : ℕ
horizon_of_one = 8000

-- In an empty book: the canonical walk, which is a walk of the request that arrives as early as any does;
-- or none where there is no walk.
abbrev pub IsAnswer : Terrain → Request → Option TimedWalk → Type 0
IsAnswer g q None = NoneFree g horizon_of_one q []
IsAnswer g q (Some w) = IsLeast g horizon_of_one q [] w × IsCanonical g horizon_of_one (traffic_of []) q w

-- the walk of a commit
abbrev pub walk_in : Entry → Option TimedWalk
walk_in (Commit id era q w) = Some w
walk_in (Cancel id era) = None
walk_in (NoRoute stamp caller era q) = None

-- the text is that of an answer
pub record IsText (g : Terrain) (q : Request) (text : List ℕ) : Type 0 where
  pub answer : Option TimedWalk
  pub right : IsAnswer g q answer
  pub says : text ≡ answer_text g answer

-- ---- runs

-- Who ran: one worker alone, who plans each order in its turn, and nothing was joined; or several workers and a tail.
abbrev pub IsRunBy : Terrain → ℕ → List Lane → ℕ → List Answer → Option JoinedView → Type 0
IsRunBy g horizon lanes workers printed None = (workers ≡ 1) × IsPlainRun g horizon (all_orders lanes) printed
IsRunBy g horizon lanes workers printed (Some j) = (2 ≤ workers) × IsSharedRun g horizon workers lanes j printed

-- The text has a line for each answer of a run by so many workers. It is the journal of a legal history that keeps the lanes.
pub record IsRunText (g : Terrain) (horizon : ℕ) (lanes : List Lane) (workers : ℕ) (text : List ℕ) (joined : Option JoinedView) : Type 0 where
  pub printed : List Answer
  pub journal : AreAJournal g horizon lanes printed
  pub by : IsRunBy g horizon lanes workers printed joined
  pub says : text ≡ concat (journal_lines g lanes printed)

-- the text is the last line of such a text
pub record IsLastLine (g : Terrain) (horizon : ℕ) (lanes : List Lane) (workers : ℕ) (text : List ℕ) (joined : Option JoinedView) : Type 0 where
  pub printed : List Answer
  pub journal : AreAJournal g horizon lanes printed
  pub by : IsRunBy g horizon lanes workers printed joined
  pub says : text ≡ last_line (totals_of printed)

-- ---- commands

pub record IsOneDue (files : Option (List NamedFile)) (name : Word) (from to : ℕ × ℕ) (text : List ℕ) : Type 0 where
  pub grid : Terrain
  pub map : IsMapRead files name grid
  pub inside : AreInside grid from to
  pub answer : IsText grid (request_of grid from to) text

pub record IsRunDue (files : Option (List NamedFile)) (name scenario : Word) (horizon : ℕ) (kept : Option ℕ) (workers : ℕ) (text : List ℕ) (joined : Option JoinedView) : Type 0 where
  pub grid : Terrain
  pub requests : List Request
  pub map : IsMapRead files name grid
  pub rows : IsScenRead files scenario grid kept requests
  pub journal : IsRunText grid horizon (request_lanes 0 requests) workers text joined

pub record AreOrdersDue (files : Option (List NamedFile)) (name orders : Word) (horizon workers : ℕ) (text : List ℕ) (joined : Option JoinedView) : Type 0 where
  pub grid : Terrain
  pub lanes : List Lane
  pub map : IsMapRead files name grid
  pub rows : IsOrdersRead files orders grid lanes
  pub journal : IsRunText grid horizon lanes workers text joined

-- the text that a command asks for, and what its workers have joined
abbrev pub IsDue : Option (List NamedFile) → Command Word → List ℕ → Option JoinedView → Type 0
IsDue files (One m a b c d) text joined = IsOneDue files m (a, b) (c, d) text × (joined ≡ None)
IsDue files (Run m s w h t) text joined = IsRunDue files m s h t w text joined
IsDue files (Orders m o w h) text joined = AreOrdersDue files m o h w text joined
IsDue files (Gen w h p n s k l) text joined = IsLastLine (made_grid w h p s) l (request_lanes 0 (made_requests w h n s)) k text joined
IsDue files (Check m o j h) text joined = ⊥
IsDue files (Long m o h) text joined = ⊥
IsDue files (Turns m o h) text joined = ⊥
