-- The grammar of a scenario: the requests that its lines give, or their first fault.
use Rattle.std.specs.Prelude.{ℕ, ◌+◌, ◌<◌, Bool, true, false, ◌==◌, ◌&&◌, ◌||◌, nat_lt, if◌then◌else◌, List, [], ◌∷◌, length, codes, Option, Some, None, is_some, Result, Ok, Err}
use Rattle.std.specs.Option.{ok_or}
use Rattle.std.specs.Str.{bytes_eq}
use Rattle.fleet_base.specs.declared.request.Request.{Request}
use Rattle.fleet_base.specs.Terrain.{Terrain, cell_at}
use Rattle.text_lines.specs.Numbers.{number_of, small}
use Rattle.text_lines.specs.Numbered.{Numbered, numbered_from}
use Rattle.text_lines.specs.Faults.{Fault, at, need, ◌>>=◌}
use Rattle.scen_text.specs.declared.fault.ScenKind.{ScenKind}
use Rattle.scen_text.specs.declared.fault.ScenKind.TheVariants.{BadVersion, FieldCount, BadNumber, SizeDiffers, Outside, TooMany}
use Rattle.scen_text.specs.declared.fault.ScenFault.{ScenFault}
use Rattle.scen_text.specs.declared.fault.ScenFault.TheVariants.{At, Memory}

-- the fault of the text that a reader reports; want of memory is none
abbrev pub fault_of : ScenFault → Option (Fault ScenKind)
fault_of (At line kind) = Some (record { line = line; kind = kind })
fault_of Memory = None

-- ---- one row

-- a field that is a number of at most 32 bits
abbrev pub small_field : List ℕ → Result ℕ ScenKind
small_field field = ok_or (small (number_of field)) BadNumber

-- a column and a row of the grid
abbrev pub is_inside : Terrain → ℕ → ℕ → Bool
is_inside g x y = nat_lt x g.width && nat_lt y g.height

-- nine fields, of which the bucket, the map's name and the optimal length aren't read
unfoldable pub row_of : Terrain → List (List ℕ) → Result Request ScenKind
row_of g (bucket ∷ map ∷ map_width ∷ map_height ∷ start_x ∷ start_y ∷ goal_x ∷ goal_y ∷ optimal ∷ []) = do
  width ← small_field map_width
  height ← small_field map_height
  from_x ← small_field start_x
  from_y ← small_field start_y
  to_x ← small_field goal_x
  to_y ← small_field goal_y
  same ← need ((width == g.width) && (height == g.height)) SizeDiffers
  inside ← need (is_inside g from_x from_y && is_inside g to_x to_y) Outside
  Ok (record { start = cell_at g from_x from_y; goal = cell_at g to_x to_y; depart = 0; stay = false })
row_of g fields = Err FieldCount

-- the start and the goal are cells of the grid
abbrev pub IsOnGrid : Terrain → Request → Type 0
IsOnGrid g request = (request.start.0 < length g.cells) × (request.goal.0 < length g.cells)

-- ---- all rows

-- a row before which so many stand; with no number of rows to take there are at most 32,767
abbrev pub next_row : Terrain → Option ℕ → ℕ → List (List ℕ) → Result Request ScenKind
next_row g take index fields = do
  request ← row_of g fields
  room ← need (is_some take || nat_lt index 32767) TooMany
  Ok request

-- the first rows are kept, or all
abbrev pub is_kept : Option ℕ → ℕ → Bool
is_kept None index = true
is_kept (Some count) index = nat_lt index count

-- the requests of the rows before which so many stand; those that aren't kept are read too
unfoldable pub rows_from : Terrain → Option ℕ → ℕ → List Numbered → Result (List Request) (Fault ScenKind)
rows_from g take index [] = Ok []
rows_from g take index (row ∷ rows) = do
  request ← at row.line (next_row g take index row.fields)
  others ← rows_from g take (index + 1) rows
  Ok (if is_kept take index then request ∷ others else others)

-- ---- the whole

-- the word `version`, and a field that isn't read
abbrev pub is_version : List (List ℕ) → Bool
is_version (word ∷ version ∷ []) = bytes_eq word (codes "version")
is_version fields = false

-- the rows, below the first line that isn't empty; where there is none, the line after the last one is named
abbrev pub after_version : Terrain → Option ℕ → ℕ → List Numbered → Result (List Request) (Fault ScenKind)
after_version g take last [] = Err (record { line = last + 1; kind = BadVersion })
after_version g take last (first ∷ rows) = do
  version ← at first.line (need (is_version first.fields) BadVersion)
  rows_from g take 0 rows

-- empty lines are passed over everywhere, and keep their numbers
unfoldable pub scenario_of : Terrain → Option ℕ → List (List ℕ) → Result (List Request) (Fault ScenKind)
scenario_of g take lines = after_version g take (length lines) (numbered_from 1 lines)
