-- What the last line of a journal tells.
use Rattle.std.specs.Prelude.{ℕ, ◌+◌, ◌*◌, ◌-◌, ◌≤◌, List, fold, max}
use Rattle.fleet_base.specs.declared.request.Entry.{Entry}
use Rattle.fleet_base.specs.declared.request.Entry.TheVariants.{Commit, Cancel, NoRoute}
use Rattle.fleet_base.specs.TimedWalk.{arrival}
use Rattle.lane_runs.specs.declared.answer.Answer.{Answer}
use Rattle.lane_runs.specs.declared.answer.Answer.TheVariants.{Made, Gone}
use Rattle.journal_lines.specs.declared.totals.Totals.{Totals}

abbrev pub no_totals : Totals
no_totals = record { routes = 0; without = 0; cancelled = 0; sum = 0; last = 0 }

-- one entry more: of a commit its walk's duration, which is the arrival less the departure, and its arrival count too
abbrev pub with_entry : Totals → Entry → Totals
with_entry t (Commit id era q w) = record t { routes = t.routes + 1; sum = t.sum + (arrival w - w.depart); last = max t.last (arrival w) }
with_entry t (Cancel id era) = record t { cancelled = t.cancelled + 1 }
with_entry t (NoRoute stamp caller era q) = record t { without = t.without + 1 }

-- one answer more; a cancel that is gone isn't counted
abbrev pub with_answer : Totals → Answer → Totals
with_answer t (Made order e) = with_entry t e
with_answer t (Gone order target) = t

abbrev pub totals_of : List Answer → Totals
totals_of answers = fold with_answer no_totals answers

-- so many answers at most were counted
pub record CountAtMost (n : ℕ) (t : Totals) : Type 0 where
  pub routes : t.routes ≤ n
  pub without : t.without ≤ n
  pub cancelled : t.cancelled ≤ n
  pub sum : t.sum ≤ 8000 * n
  pub last : t.last ≤ 8000
