-- The lines of a journal.
use Rattle.std.specs.Prelude.{ℕ, ◌++◌, List, [], ◌∷◌, codes, decimal, if◌then◌else◌, Option, Some, None, slice_get}
use Rattle.fleet_base.specs.declared.request.Entry.{Entry}
use Rattle.fleet_base.specs.declared.request.Entry.TheVariants as E
use Rattle.fleet_base.specs.Terrain.{Terrain}
use Rattle.fleet_base.specs.TimedWalk.{TimedWalk, arrival}
use Rattle.order_text.specs.declared.lane.Lane.{Lane}
use Rattle.order_text.specs.declared.order.Order.{Order}
use Rattle.order_text.specs.declared.order.Order.TheVariants.{Plan, Cancel}
use Rattle.order_text.specs.Lanes.{all_orders}
use Rattle.lane_runs.specs.declared.answer.Answer.{Answer}
use Rattle.lane_runs.specs.declared.answer.Answer.TheVariants.{Made, Gone}
use Rattle.journal_lines.specs.declared.totals.Totals.{Totals}
use Rattle.journal_lines.specs.Moves.{moves_of}
use Rattle.journal_lines.specs.Totals.{no_totals, with_answer}

-- the order that an order cancels
abbrev pub target_of : Option Order → ℕ
target_of None = 0
target_of (Some (Plan q)) = 0
target_of (Some (Cancel target)) = target

abbrev pub target_at : List Lane → ℕ → ℕ
target_at lanes order = target_of (slice_get (all_orders lanes) order)

-- ERA STAMP ORDER, each followed by a space
abbrev pub reply_head : ℕ → ℕ → ℕ → List ℕ
reply_head era stamp order = decimal era ++ codes " " ++ decimal stamp ++ codes " " ++ decimal order ++ codes " "

-- ERA - ORDER cancel TARGET
abbrev pub cancel_head : ℕ → ℕ → ℕ → List ℕ
cancel_head era order target = decimal era ++ codes " - " ++ decimal order ++ codes " cancel " ++ decimal target

-- `park` for a walk that stays on its goal
abbrev pub walk_word : TimedWalk → List ℕ
walk_word w = if w.stay then codes "park " else codes "route "

-- the walk of a commit: its arrival and its letters
abbrev pub walk_part : Terrain → TimedWalk → List ℕ
walk_part g w = walk_word w ++ decimal (arrival w) ++ codes " " ++ moves_of g w.cells ++ codes "\n"

-- the line of an entry, which answers the order of this number
abbrev pub entry_line : Terrain → List Lane → ℕ → Entry → List ℕ
entry_line g lanes order (E.Commit id era q w) = reply_head era id.stamp order ++ walk_part g w
entry_line g lanes order (E.Cancel id era) = cancel_head era order (target_at lanes order) ++ codes "\n"
entry_line g lanes order (E.NoRoute stamp caller era q) = reply_head era stamp order ++ codes "none\n"

-- the line of an answer; the era of a cancel that is gone is the number of cancels before it
abbrev pub answer_line : Terrain → List Lane → ℕ → Answer → List ℕ
answer_line g lanes cancelled (Made order e) = entry_line g lanes order e
answer_line g lanes cancelled (Gone order target) = cancel_head cancelled order target ++ codes " gone\n"

-- a count with the words before it
abbrev pub count_part : List ℕ → ℕ → List ℕ
count_part words n = words ++ decimal n

-- routes A none B cancelled C
abbrev pub counts_part : Totals → List ℕ
counts_part t = count_part (codes "routes ") t.routes ++ count_part (codes " none ") t.without ++ count_part (codes " cancelled ") t.cancelled

-- routes A none B cancelled C sum S last T
abbrev pub last_line : Totals → List ℕ
last_line t = counts_part t ++ count_part (codes " sum ") t.sum ++ count_part (codes " last ") t.last ++ codes "\n"

-- a line for each answer, and the last line with what was counted in all of them
abbrev pub lines_from : Terrain → List Lane → Totals → List Answer → List (List ℕ)
lines_from g lanes t [] = last_line t ∷ []
lines_from g lanes t (a ∷ answers) = answer_line g lanes t.cancelled a ∷ lines_from g lanes (with_answer t a) answers

-- the lines of answers in the order in which they are printed
abbrev pub journal_lines : Terrain → List Lane → List Answer → List (List ℕ)
journal_lines g lanes printed = lines_from g lanes no_totals printed
