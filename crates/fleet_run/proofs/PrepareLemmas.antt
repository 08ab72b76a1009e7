-- What was prepared, and the causes of stops.
use Rattle.std.proofs.Common.{◌≡◌, ℕ, List, Option, Some, None, Result, Ok, Err, refl, sym, ap, subst, inl, inr}
use Rattle.fleet_io.specs.Files.{NamedFile}
use Rattle.book_trait.specs.Passes.{JoinedView}
use Rattle.command_line.specs.declared.command.Command.{Command}
use Rattle.command_line.specs.declared.command.Command.TheVariants.{One, Run, Orders, Gen, Check, Long, Turns}
use Rattle.command_line.specs.Sorting.{Word}
use Rattle.command_line.specs.Words.{command_of}
use Rattle.std.specs.Prelude.{◌⊎◌, codes}
use Rattle.fleet_io.specs.Written.{WritesFront}
use Rattle.fleet_run.specs.declared.outcome.Outcome.{Outcome}
use Rattle.fleet_run.specs.declared.outcome.Outcome.TheVariants as outcomes
use Rattle.fleet_run.specs.declared.stop.Stop.{Stop}
use Rattle.fleet_run.specs.declared.stop.Stop.TheVariants as stops
use Rattle.fleet_run.specs.Offered.{only_offered, offered_of}
use Rattle.fleet_run.specs.Stopped.{outcome_of, line_of}
use Rattle.fleet_run.specs.Ended.{World, GotLine, HasReported, HasEnded, IsWanted, IsAsked, HasCauseIn, HasStopped, HasPrepared, HasPreparedFor, HasPreparedIfOffered}

-- a cause in the command that the words are
pub stopped_in : {N : Type 0} (view : N → Word) (words : List Word) (files : Option (List NamedFile)) (c : Command Word) (failed now : List Word) (stop : Stop N)
    → IsAsked words c → HasCauseIn view files c failed now stop → HasStopped view words files failed now stop
stopped_in view words files c failed now stops.NoCommand asked h = absurd h
stopped_in view words files c failed now (stops.MapRefused line kind) asked h = (c, asked, h)
stopped_in view words files c failed now stops.OutsideMap asked h = (c, asked, h)
stopped_in view words files c failed now (stops.ScenRefused line kind) asked h = (c, asked, h)
stopped_in view words files c failed now (stops.OrdersRefused line kind) asked h = (c, asked, h)
stopped_in view words files c failed now (stops.NotFetched name) asked h = (c, asked, h)
stopped_in view words files c failed now stops.NoMemory asked h = tt

for_offered : {N J : Type 0} (view : N → Word) (says : J → List ℕ → Type 0) (joined : J → Option JoinedView) (words : List Word) (files : Option (List NamedFile)) (c : Command Word) (failed now : List Word) (result : Result J (Stop N))
    → IsAsked words c → HasPreparedFor view says joined files c failed now result → HasPrepared view says joined words files failed now result
for_offered view says joined words files c failed now (Ok job) asked h = ((λ text said. record { command = c; asked = asked; due = h.0 text said }), h.1)
for_offered view says joined words files c failed now (Err stop) asked h = stopped_in view words files c failed now stop asked h

not_offered : {N J : Type 0} (view : N → Word) (says : J → List ℕ → Type 0) (joined : J → Option JoinedView) (words : List Word) (files : Option (List NamedFile)) (failed now : List Word) (result : Result J (Stop N))
    → offered_of words ≡ None → result ≡ Err stops.NoCommand → now ≡ failed → HasPrepared view says joined words files failed now result
not_offered view says joined words files failed now result none is same = subst (HasPrepared view says joined words files failed now) (sym is) (none, same)

-- the words are this command, offered or not
pub prepared_for_words : {N J : Type 0} (view : N → Word) (says : J → List ℕ → Type 0) (joined : J → Option JoinedView) (words : List Word) (files : Option (List NamedFile)) (c : Command Word) (failed now : List Word) (result : Result J (Stop N))
    → command_of words ≡ Some c → HasPreparedIfOffered view says joined files c failed now result → HasPrepared view says joined words files failed now result
prepared_for_words view says joined words files (One m a b x y) failed now result is h = for_offered view says joined words files (One m a b x y) failed now result (ap only_offered is) h
prepared_for_words view says joined words files (Run m s w k t) failed now result is h = for_offered view says joined words files (Run m s w k t) failed now result (ap only_offered is) h
prepared_for_words view says joined words files (Orders m o w k) failed now result is h = for_offered view says joined words files (Orders m o w k) failed now result (ap only_offered is) h
prepared_for_words view says joined words files (Gen w k p n s t l) failed now result is h = for_offered view says joined words files (Gen w k p n s t l) failed now result (ap only_offered is) h
prepared_for_words view says joined words files (Check m o j k) failed now result is h = not_offered view says joined words files failed now result (ap only_offered is) h.0 h.1
prepared_for_words view says joined words files (Long m o k) failed now result is h = not_offered view says joined words files failed now result (ap only_offered is) h.0 h.1
prepared_for_words view says joined words files (Turns m o k) failed now result is h = not_offered view says joined words files failed now result (ap only_offered is) h.0 h.1

-- a cause is of the state before: where nothing failed in between
pub cause_since : {N : Type 0} (view : N → Word) (files files_then : Option (List NamedFile)) (c : Command Word) (failed failed_then now : List Word) (stop : Stop N)
    → files_then ≡ files → failed_then ≡ failed → HasCauseIn view files_then c failed_then now stop → HasCauseIn view files c failed now stop
cause_since view files files_then c failed failed_then now stop same_files same h =
    subst (λ (z : Option (List NamedFile) × List Word). HasCauseIn view z.0 c z.1 now stop) (λ j. (same_files j, same j)) h

-- ---- the call

-- a stop that was reported, and nothing written
pub stopped : {N : Type 0} (view : N → Word) (words : List Word) (u v : World) (stop : Stop N) (outcome : Outcome) → HasStopped view words u.files u.failed v.failed stop → v.out ≡ u.out
    → HasReported view stop u.err u.err_faults v.err v.err_faults outcome → HasEnded words u v outcome None
stopped {N = N} view words u v stop outcome cause same (inl told) = subst (λ o. HasEnded words u v o None) (sym told.0) (by_stop stop cause told.1)
  where
    by_stop : (s : Stop N) → HasStopped view words u.files u.failed v.failed s → GotLine u.err u.err_faults (line_of view s) v.err v.err_faults → HasEnded words u v (outcome_of s) None
    by_stop stops.NoCommand c l = ((stops.NoCommand, refl, c, same, l), refl)
    by_stop (stops.MapRefused line kind) c l = ((stops.MapRefused line kind, refl, c, same, l), refl)
    by_stop stops.OutsideMap c l = ((stops.OutsideMap, refl, c, same, l), refl)
    by_stop (stops.ScenRefused line kind) c l = ((stops.ScenRefused line kind, refl, c, same, l), refl)
    by_stop (stops.OrdersRefused line kind) c l = ((stops.OrdersRefused line kind, refl, c, same, l), refl)
    by_stop (stops.NotFetched name) c l = ((stops.NotFetched (view name), refl, c, same, l), refl)
    by_stop stops.NoMemory c l = (inl (stops.NoMemory, refl, tt, same, l), refl)
stopped view words u v stop outcome cause same (inr told) = subst (λ o. HasEnded words u v o None) (sym told.0) (inl (stops.NoMemory, refl, tt, same, told.1), refl)

-- memory ran out while a job was written: before any of a text was, or after a front of one
pub no_memory : (words : List Word) (u v : World) (Text : List ℕ → Type 0) (joined : Option JoinedView) → ((text : List ℕ) → Text text → IsWanted words u.files text joined) → v.failed ≡ u.failed
    → (v.out ≡ u.out) ⊎ ((text : List ℕ) × Text text × WritesFront u.out text v.out) → GotLine u.err u.err_faults (codes "fleet: out of memory\n") v.err v.err_faults → HasEnded words u v outcomes.Memory None
no_memory words u v Text joined wanted same (inl nothing) told = (inl (stops.NoMemory, refl, tt, nothing, told), refl)
no_memory words u v Text joined wanted same (inr (text, is, front)) told = (inr record { text = text; joined = joined; wanted = wanted text is; front = front; told = told; no_name = same }, refl)
