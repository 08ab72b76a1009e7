-- Words and files that are answered.
use Rattle.std.specs.Prelude.{◌≡◌, ℕ, ◌≤◌, ◌⊎◌, List, length, Option, Some, Ok}
use Rattle.fleet_base.specs.declared.request.Request.{Request}
use Rattle.fleet_base.specs.Terrain.{Terrain}
use Rattle.fleet_io.specs.Files.{NamedFile, content_of}
use Rattle.text_lines.specs.Lines.{lines_of}
use Rattle.map_text.specs.MapGrammar.{map_of}
use Rattle.scen_text.specs.ScenGrammar.{scenario_of}
use Rattle.order_text.specs.declared.lane.Lane.{Lane}
use Rattle.order_text.specs.OrderGrammar.{orders_of}
use Rattle.command_line.specs.declared.command.Command.{Command}
use Rattle.command_line.specs.declared.command.Command.TheVariants.{One, Run, Orders, Gen, Check, Long, Turns}
use Rattle.command_line.specs.Sorting.{Word}
use Rattle.fleet_run.specs.declared.outcome.Outcome.{Outcome}
use Rattle.fleet_run.specs.declared.outcome.Outcome.TheVariants as outcomes
use Rattle.fleet_run.specs.Files.{map_limit, second_limit}
use Rattle.fleet_run.specs.Due.{AreInside}
use Rattle.fleet_run.specs.Ended.{World, HasRisen, IsAsked}

-- the file is there within its limit, and holds this
pub record HasFile (files : List NamedFile) (name : Word) (limit : ℕ) (bytes : List ℕ) : Type 0 where
  pub content : content_of files name ≡ Some bytes
  pub short : length bytes ≤ limit

pub record HasMap (files : List NamedFile) (name : Word) (g : Terrain) : Type 0 where
  pub bytes : List ℕ
  pub file : HasFile files name map_limit bytes
  pub read : map_of (lines_of bytes) ≡ Ok g

pub record HasScenario (files : List NamedFile) (name : Word) (g : Terrain) (kept : Option ℕ) : Type 0 where
  pub bytes : List ℕ
  pub file : HasFile files name second_limit bytes
  pub requests : List Request
  pub read : scenario_of g kept (lines_of bytes) ≡ Ok requests

pub record HasOrders (files : List NamedFile) (name : Word) (g : Terrain) : Type 0 where
  pub bytes : List ℕ
  pub file : HasFile files name second_limit bytes
  pub lanes : List Lane
  pub read : orders_of g (lines_of bytes) ≡ Ok lanes

-- the files of the command are there and accepted, and its places are on the map
abbrev pub AreAccepted : List NamedFile → Command Word → Type 0
AreAccepted files (One m a b c d) = (g : Terrain) × HasMap files m g × AreInside g (a, b) (c, d)
AreAccepted files (Run m s w h t) = (g : Terrain) × HasMap files m g × HasScenario files s g t
AreAccepted files (Orders m o w h) = (g : Terrain) × HasMap files m g × HasOrders files o g
AreAccepted files (Gen w h p n s k l) = Unit {0}
AreAccepted files (Check m o j h) = ⊥
AreAccepted files (Long m o h) = ⊥
AreAccepted files (Turns m o h) = ⊥

-- the words are a command, and its files are there and accepted
pub record IsGood (words : List Word) (files : List NamedFile) : Type 0 where
  pub command : Command Word
  pub asked : IsAsked words command
  pub accepted : AreAccepted files command

-- good words and files are answered, unless a fetch or a write of `out` failed or memory ran out
abbrev pub Completes : List Word → World → World → Outcome → Type 0
Completes words u v outcome = (files : List NamedFile) → u.files ≡ Some files → IsGood words files → v.failed ≡ u.failed → ¬ (HasRisen u.out_faults v.out_faults)
    → (outcome ≡ outcomes.Done) ⊎ (outcome ≡ outcomes.Memory)
