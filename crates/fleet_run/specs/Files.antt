-- The files that the words name: what was read of them, and why one was refused.
use Rattle.std.specs.Prelude.{◌≡◌, ℕ, ◌⊎◌, List, Option, Some, None, Ok, Err}
use Rattle.fleet_base.specs.declared.request.Request.{Request}
use Rattle.fleet_base.specs.Terrain.{Terrain}
use Rattle.fleet_io.specs.Files.{NamedFile, IsFetched, IsTooLong}
use Rattle.text_lines.specs.Lines.{lines_of}
use Rattle.map_text.specs.declared.fault.MapKind.{MapKind}
use Rattle.map_text.specs.declared.fault.MapKind.TheVariants as map_kinds
use Rattle.map_text.specs.MapGrammar.{map_of}
use Rattle.scen_text.specs.declared.fault.ScenKind.{ScenKind}
use Rattle.scen_text.specs.declared.fault.ScenKind.TheVariants as scen_kinds
use Rattle.scen_text.specs.ScenGrammar.{scenario_of}
use Rattle.order_text.specs.declared.lane.Lane.{Lane}
use Rattle.order_text.specs.declared.fault.OrderKind.{OrderKind}
use Rattle.order_text.specs.declared.fault.OrderKind.TheVariants as order_kinds
use Rattle.order_text.specs.OrderGrammar.{orders_of}
use Rattle.command_line.specs.declared.command.Command.{Command}
use Rattle.command_line.specs.declared.command.Command.TheVariants.{One, Run, Orders, Gen, Check, Long, Turns}
use Rattle.command_line.specs.Sorting.{Word}

-- the greatest numbers of bytes of a map, and of a scenario or orders
abbrev pub map_limit : ℕ
map_limit = 2097152

abbrev pub second_limit : ℕ
second_limit = 16777216

-- the map that a command names
abbrev pub map_name : Command Word → Option Word
map_name (One m a b c d) = Some m
map_name (Run m s w h t) = Some m
map_name (Orders m o w h) = Some m
map_name (Gen w h p n s k l) = None
map_name (Check m o j h) = Some m
map_name (Long m o h) = Some m
map_name (Turns m o h) = Some m

-- the file that is read after the map
abbrev pub second_name : Command Word → Option Word
second_name (One m a b c d) = None
second_name (Run m s w h t) = Some s
second_name (Orders m o w h) = Some o
second_name (Gen w h p n s k l) = None
second_name (Check m o j h) = Some o
second_name (Long m o h) = Some o
second_name (Turns m o h) = Some o

-- ---- maps

-- the file was fetched, and is the map of this grid
pub record IsMapRead (files : Option (List NamedFile)) (name : Word) (g : Terrain) : Type 0 where
  pub bytes : List ℕ
  pub fetched : IsFetched files name map_limit bytes
  pub read : map_of (lines_of bytes) ≡ Ok g

-- the file was fetched, and is too long, or its first fault is this
abbrev pub IsMapRefused : Option (List NamedFile) → Word → ℕ → MapKind → Type 0
IsMapRefused files name line kind =
    (IsTooLong files name map_limit × (line ≡ 0) × (kind ≡ map_kinds.TooLarge))
    ⊎ ((bytes : List ℕ) × IsFetched files name map_limit bytes × (map_of (lines_of bytes) ≡ Err (record { line = line; kind = kind })))

-- ---- scenarios

pub record IsScenRead (files : Option (List NamedFile)) (name : Word) (g : Terrain) (kept : Option ℕ) (requests : List Request) : Type 0 where
  pub bytes : List ℕ
  pub fetched : IsFetched files name second_limit bytes
  pub read : scenario_of g kept (lines_of bytes) ≡ Ok requests

abbrev pub IsScenRefused : Option (List NamedFile) → Word → Terrain → Option ℕ → ℕ → ScenKind → Type 0
IsScenRefused files name g kept line kind =
    (IsTooLong files name second_limit × (line ≡ 0) × (kind ≡ scen_kinds.TooMany))
    ⊎ ((bytes : List ℕ) × IsFetched files name second_limit bytes × (scenario_of g kept (lines_of bytes) ≡ Err (record { line = line; kind = kind })))

-- ---- orders

pub record IsOrdersRead (files : Option (List NamedFile)) (name : Word) (g : Terrain) (lanes : List Lane) : Type 0 where
  pub bytes : List ℕ
  pub fetched : IsFetched files name second_limit bytes
  pub read : orders_of g (lines_of bytes) ≡ Ok lanes

abbrev pub IsOrdersRefused : Option (List NamedFile) → Word → Terrain → ℕ → OrderKind → Type 0
IsOrdersRefused files name g line kind =
    (IsTooLong files name second_limit × (line ≡ 0) × (kind ≡ order_kinds.TooMany))
    ⊎ ((bytes : List ℕ) × IsFetched files name second_limit bytes × (orders_of g (lines_of bytes) ≡ Err (record { line = line; kind = kind })))
