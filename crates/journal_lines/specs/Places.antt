-- Where the lines of answers stand, when the answers come in the order of their orders' numbers.
use Rattle.std.specs.Prelude.{List, [], ◌∷◌, Option, Some}
use Rattle.std.specs.Borrow.{Bor}
use Rattle.fleet_base.specs.declared.journal.JournalKey.{JournalKey}
use Rattle.fleet_base.specs.JournalKey.{journal_key_of}
use Rattle.lane_runs.specs.declared.answer.Answer.{Answer}
use Rattle.lane_runs.specs.declared.answer.Answer.TheVariants.{Made, Gone}
use Rattle.journal_lines.specs.declared.order.LinePlace.{LinePlace}

-- the key of the last entry, with one answer more; a cancel that is gone has none of its own
abbrev pub head_after : Option JournalKey → Answer → Option JournalKey
head_after head (Made order e) = Some (journal_key_of e)
head_after head (Gone order target) = head

-- each answer with the key of the last entry up to it
abbrev pub places_from : Option JournalKey → List (Bor Answer) → List LinePlace
places_from head [] = []
places_from head (a ∷ answers) = record { head = head_after head a.now; answer = a } ∷ places_from (head_after head a.now) answers
