-- Why there is nothing to write, the outcome that it is, and its line on `err`.
use Rattle.std.specs.Prelude.{ℕ, ◌++◌, List, codes, decimal}
use Rattle.map_text.specs.declared.fault.MapKind.{MapKind}
use Rattle.map_text.specs.declared.fault.MapKind.TheVariants as map_kinds
use Rattle.scen_text.specs.declared.fault.ScenKind.{ScenKind}
use Rattle.scen_text.specs.declared.fault.ScenKind.TheVariants as scen_kinds
use Rattle.order_text.specs.declared.fault.OrderKind.{OrderKind}
use Rattle.order_text.specs.declared.fault.OrderKind.TheVariants as order_kinds
use Rattle.command_line.specs.Sorting.{Word}
use Rattle.fleet_run.specs.declared.outcome.Outcome.{Outcome}
use Rattle.fleet_run.specs.declared.outcome.Outcome.TheVariants as outcomes
use Rattle.fleet_run.specs.declared.stop.Stop.{Stop}
use Rattle.fleet_run.specs.declared.stop.Stop.TheVariants as stops

abbrev pub outcome_of : {N : Type 0} → Stop N → Outcome
outcome_of stops.NoCommand = outcomes.Usage
outcome_of (stops.MapRefused line kind) = outcomes.MapBad
outcome_of stops.OutsideMap = outcomes.OrdersBad
outcome_of (stops.ScenRefused line kind) = outcomes.OrdersBad
outcome_of (stops.OrdersRefused line kind) = outcomes.OrdersBad
outcome_of (stops.NotFetched name) = outcomes.ReadFault
outcome_of stops.NoMemory = outcomes.Memory

-- a kind of fault by its name
abbrev pub map_kind_name : MapKind → List ℕ
map_kind_name map_kinds.BadHeader = codes "BadHeader"
map_kind_name map_kinds.BadNumber = codes "BadNumber"
map_kind_name map_kinds.TooLarge = codes "TooLarge"
map_kind_name map_kinds.ShortRow = codes "ShortRow"
map_kind_name map_kinds.LongRow = codes "LongRow"
map_kind_name map_kinds.BadChar = codes "BadChar"
map_kind_name map_kinds.MissingRows = codes "MissingRows"
map_kind_name map_kinds.TrailingText = codes "TrailingText"

abbrev pub scen_kind_name : ScenKind → List ℕ
scen_kind_name scen_kinds.BadVersion = codes "BadVersion"
scen_kind_name scen_kinds.FieldCount = codes "FieldCount"
scen_kind_name scen_kinds.BadNumber = codes "BadNumber"
scen_kind_name scen_kinds.SizeDiffers = codes "SizeDiffers"
scen_kind_name scen_kinds.Outside = codes "Outside"
scen_kind_name scen_kinds.TooMany = codes "TooMany"

abbrev pub order_kind_name : OrderKind → List ℕ
order_kind_name order_kinds.BadWord = codes "BadWord"
order_kind_name order_kinds.FieldCount = codes "FieldCount"
order_kind_name order_kinds.BadNumber = codes "BadNumber"
order_kind_name order_kinds.Outside = codes "Outside"
order_kind_name order_kinds.BadCancel = codes "BadCancel"
order_kind_name order_kinds.TooMany = codes "TooMany"

-- fleet: FILE line L: KIND
abbrev pub fault_line : List ℕ → ℕ → List ℕ → List ℕ
fault_line file line kind = codes "fleet: " ++ file ++ codes " line " ++ decimal line ++ codes ": " ++ kind ++ codes "\n"

-- the line on `err`
abbrev pub line_of : {N : Type 0} → (N → Word) → Stop N → List ℕ
line_of view stops.NoCommand = codes "fleet: the words are no command\n"
line_of view (stops.MapRefused line kind) = fault_line (codes "map") line (map_kind_name kind)
line_of view stops.OutsideMap = codes "fleet: orders line 0: Outside\n"
line_of view (stops.ScenRefused line kind) = fault_line (codes "orders") line (scen_kind_name kind)
line_of view (stops.OrdersRefused line kind) = fault_line (codes "orders") line (order_kind_name kind)
line_of view (stops.NotFetched name) = codes "fleet: cannot read " ++ view name ++ codes "\n"
line_of view stops.NoMemory = codes "fleet: out of memory\n"
