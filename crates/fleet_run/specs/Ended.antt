-- What a call of `fleet` leaves, by its outcome.
use Rattle.std.specs.Prelude.{◌≡◌, ℕ, ◌≤◌, ◌⊎◌, ◌++◌, List, [], ◌∷◌, codes, MatchBool, Option, Some, None, Result, Ok, Err}
use Rattle.fleet_base.specs.Terrain.{Terrain}
use Rattle.fleet_io.specs.Counts.{raised}
use Rattle.fleet_io.specs.Files.{NamedFile}
use Rattle.fleet_io.specs.Written.{Writes, WritesFront}
use Rattle.map_text.specs.declared.fault.MapKind.{MapKind}
use Rattle.scen_text.specs.declared.fault.ScenKind.{ScenKind}
use Rattle.order_text.specs.declared.fault.OrderKind.{OrderKind}
use Rattle.book_trait.specs.Passes.{JoinedView}
use Rattle.command_line.specs.declared.command.Command.{Command}
use Rattle.command_line.specs.declared.command.Command.TheVariants.{One, Run, Orders}
use Rattle.command_line.specs.Sorting.{Word}
use Rattle.fleet_run.specs.declared.outcome.Outcome.{Outcome}
use Rattle.fleet_run.specs.declared.outcome.Outcome.TheVariants as outcomes
use Rattle.fleet_run.specs.declared.stop.Stop.{Stop}
use Rattle.fleet_run.specs.declared.stop.Stop.TheVariants as stops
use Rattle.fleet_run.specs.Offered.{is_offered, offered_of}
use Rattle.fleet_run.specs.Stopped.{outcome_of, line_of}
use Rattle.fleet_run.specs.Files.{map_name, second_name, IsMapRead, IsMapRefused, IsScenRefused, IsOrdersRefused}
use Rattle.fleet_run.specs.Due.{AreInside, IsDue}

-- what the shelf and the two sinks tell at one time
pub record World : Type 0 where
  pub files : Option (List NamedFile)
  pub failed : List Word
  pub out : Option (List ℕ)
  pub out_faults : ℕ
  pub err : Option (List ℕ)
  pub err_faults : ℕ

-- a count of faults rose, unless it is at its end
abbrev pub HasRisen : ℕ → ℕ → Type 0
HasRisen before now = raised before ≤ now

-- the line went to `err`, or a front of it where a write of `err` failed
abbrev pub GotLine : Option (List ℕ) → ℕ → List ℕ → Option (List ℕ) → ℕ → Type 0
GotLine old faults line new now = Writes old line new ⊎ (WritesFront old line new × HasRisen faults now)

-- the words are this command
abbrev pub IsAsked : List Word → Command Word → Type 0
IsAsked words c = offered_of words ≡ Some c

-- ---- the causes of stops

-- the map that the command names is refused
pub record HasBadMap (files : Option (List NamedFile)) (c : Command Word) (line : ℕ) (kind : MapKind) : Type 0 where
  pub name : Word
  pub named : map_name c ≡ Some name
  pub refused : IsMapRefused files name line kind

-- a place of `one` is outside the map
pub record HasPlaceOutside (files : Option (List NamedFile)) (c : Command Word) : Type 0 where
  pub name : Word
  pub from : ℕ × ℕ
  pub to : ℕ × ℕ
  pub is_one : c ≡ One name from.0 from.1 to.0 to.1
  pub grid : Terrain
  pub map : IsMapRead files name grid
  pub outside : ¬ (AreInside grid from to)

-- the map was read, and the scenario that the command names is refused
pub record HasBadScenario (files : Option (List NamedFile)) (c : Command Word) (line : ℕ) (kind : ScenKind) : Type 0 where
  pub name : Word
  pub scenario : Word
  pub workers : ℕ
  pub horizon : ℕ
  pub kept : Option ℕ
  pub is_run : c ≡ Run name scenario workers horizon kept
  pub grid : Terrain
  pub map : IsMapRead files name grid
  pub refused : IsScenRefused files scenario grid kept line kind

-- the map was read, and the orders that the command names are refused
pub record HasBadOrders (files : Option (List NamedFile)) (c : Command Word) (line : ℕ) (kind : OrderKind) : Type 0 where
  pub name : Word
  pub orders : Word
  pub workers : ℕ
  pub horizon : ℕ
  pub are_orders : c ≡ Orders name orders workers horizon
  pub grid : Terrain
  pub map : IsMapRead files name grid
  pub refused : IsOrdersRefused files orders grid line kind

-- the command names the file as its map, or, once the map was read, as its second file
abbrev pub IsReadNow : Option (List NamedFile) → Command Word → Word → Type 0
IsReadNow files c name =
    (map_name c ≡ Some name)
    ⊎ ((second_name c ≡ Some name) × (m : Word) × (map_name c ≡ Some m) × (g : Terrain) × IsMapRead files m g)

-- the cause of a stop in a command, of which the files are told, with the names that failed before and now
abbrev pub HasCauseIn : {N : Type 0} → (N → Word) → Option (List NamedFile) → Command Word → List Word → List Word → Stop N → Type 0
HasCauseIn view files c failed now stops.NoCommand = ⊥
HasCauseIn view files c failed now (stops.MapRefused line kind) = HasBadMap files c line kind × (now ≡ failed)
HasCauseIn view files c failed now stops.OutsideMap = HasPlaceOutside files c × (now ≡ failed)
HasCauseIn view files c failed now (stops.ScenRefused line kind) = HasBadScenario files c line kind × (now ≡ failed)
HasCauseIn view files c failed now (stops.OrdersRefused line kind) = HasBadOrders files c line kind × (now ≡ failed)
HasCauseIn view files c failed now (stops.NotFetched name) = IsReadNow files c (view name) × (now ≡ failed ++ view name ∷ [])
HasCauseIn view files c failed now stops.NoMemory = Unit {0}

-- the cause of each stop
abbrev pub HasStopped : {N : Type 0} → (N → Word) → List Word → Option (List NamedFile) → List Word → List Word → Stop N → Type 0
HasStopped view words files failed now stops.NoCommand = (offered_of words ≡ None) × (now ≡ failed)
HasStopped view words files failed now stops.NoMemory = Unit {0}
HasStopped view words files failed now stop = (c : Command Word) × IsAsked words c × HasCauseIn view files c failed now stop

-- ---- outcomes

-- the text that the words ask for, and what was joined
pub record IsWanted (words : List Word) (files : Option (List NamedFile)) (text : List ℕ) (joined : Option JoinedView) : Type 0 where
  pub command : Command Word
  pub asked : IsAsked words command
  pub due : IsDue files command text joined

-- what there is to write, of which each text is wanted, or a stop with its cause
abbrev pub HasPrepared : {N J : Type 0} → (N → Word) → (J → List ℕ → Type 0) → (J → Option JoinedView) → List Word → Option (List NamedFile) → List Word → List Word → Result J (Stop N) → Type 0
HasPrepared view says joined words files failed now (Ok job) = ((text : List ℕ) → says job text → IsWanted words files text (joined job)) × (now ≡ failed)
HasPrepared view says joined words files failed now (Err stop) = HasStopped view words files failed now stop

-- the same for a command
abbrev pub HasPreparedFor : {N J : Type 0} → (N → Word) → (J → List ℕ → Type 0) → (J → Option JoinedView) → Option (List NamedFile) → Command Word → List Word → List Word → Result J (Stop N) → Type 0
HasPreparedFor view says joined files c failed now (Ok job) = ((text : List ℕ) → says job text → IsDue files c text (joined job)) × (now ≡ failed)
HasPreparedFor view says joined files c failed now (Err stop) = HasCauseIn view files c failed now stop

-- the same for a command that may not be offered yet
abbrev pub HasPreparedIfOffered : {N J : Type 0} → (N → Word) → (J → List ℕ → Type 0) → (J → Option JoinedView) → Option (List NamedFile) → Command Word → List Word → List Word → Result J (Stop N) → Type 0
HasPreparedIfOffered view says joined files c failed now result =
    MatchBool (is_offered c) (HasPreparedFor view says joined files c failed now result) ((result ≡ Err stops.NoCommand) × (now ≡ failed))

-- the line of the stop went to `err`, or memory ran out for it
abbrev pub HasReported : {N : Type 0} → (N → Word) → Stop N → Option (List ℕ) → ℕ → Option (List ℕ) → ℕ → Outcome → Type 0
HasReported view stop old faults new now outcome =
    ((outcome ≡ outcome_of stop) × GotLine old faults (line_of view stop) new now)
    ⊎ ((outcome ≡ outcomes.Memory) × GotLine old faults (codes "fleet: out of memory\n") new now)

-- a stop with its cause, nothing on `out`, and its line on `err`
abbrev pub HasStoppedAs : List Word → World → World → Outcome → Type 0
HasStoppedAs words u v outcome = (stop : Stop Word) × (outcome ≡ outcome_of stop) × HasStopped (λ n. n) words u.files u.failed v.failed stop
    × (v.out ≡ u.out) × GotLine u.err u.err_faults (line_of (λ n. n) stop) v.err v.err_faults

-- a front of a text that the words ask for was written, and this line to `err`
pub record HasBrokenOff (words : List Word) (u v : World) (line : List ℕ) : Type 0 where
  pub text : List ℕ
  pub joined : Option JoinedView
  pub wanted : IsWanted words u.files text joined
  pub front : WritesFront u.out text v.out
  pub told : GotLine u.err u.err_faults line v.err v.err_faults
  pub no_name : v.failed ≡ u.failed

-- all of such a text was written, and nothing to `err`; what was joined for it is handed out
pub record IsDone (words : List Word) (u v : World) (joined : Option JoinedView) : Type 0 where
  pub text : List ℕ
  pub wanted : IsWanted words u.files text joined
  pub written : Writes u.out text v.out
  pub silent : v.err ≡ u.err
  pub no_name : v.failed ≡ u.failed

-- an outcome other than that all was done, with all that a call has to have done for it
abbrev pub HasEndedShort : List Word → World → World → Outcome → Type 0
HasEndedShort words u v outcomes.Done = ⊥
HasEndedShort words u v outcomes.WriteFault = HasBrokenOff words u v (codes "fleet: cannot write\n") × HasRisen u.out_faults v.out_faults
HasEndedShort words u v outcomes.Memory = HasStoppedAs words u v outcomes.Memory ⊎ HasBrokenOff words u v (codes "fleet: out of memory\n")
HasEndedShort words u v outcome = HasStoppedAs words u v outcome

-- the outcome, and what was joined: nothing, where not all was done
abbrev pub HasEnded : List Word → World → World → Outcome → Option JoinedView → Type 0
HasEnded words u v outcomes.Done joined = IsDone words u v joined
HasEnded words u v outcome joined = HasEndedShort words u v outcome × (joined ≡ None)
