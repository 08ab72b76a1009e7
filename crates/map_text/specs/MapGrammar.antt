-- The grammar of a map: the grid that its lines give, or their first fault.
use Rattle.std.specs.Prelude.{◌≡◌, ℕ, zero, suc, ◌+◌, ◌-◌, ◌*◌, Bool, ◌==◌, ◌||◌, ◌&&◌, nat_le, nat_lt, if◌then◌else◌, List, [], ◌∷◌, ◌++◌, length, get_or, take, drop, map, codes, Option, Some, None, Result, Ok, Err}
use Rattle.std.specs.List.{list_all}
use Rattle.std.specs.Str.{bytes_eq}
use Rattle.fleet_base.specs.Terrain.{Terrain}
use Rattle.text_lines.specs.Fields.{fields_of}
use Rattle.text_lines.specs.Numbers.{number_of}
use Rattle.text_lines.specs.Numbered.{Numbered, numbered_from}
use Rattle.text_lines.specs.Faults.{Fault, at, ◌>>=◌}
use Rattle.map_text.specs.declared.fault.MapKind.{MapKind}
use Rattle.map_text.specs.declared.fault.MapKind.TheVariants.{BadHeader, BadNumber, TooLarge, ShortRow, LongRow, BadChar, MissingRows, TrailingText}
use Rattle.map_text.specs.declared.fault.MapFault.{MapFault}
use Rattle.map_text.specs.declared.fault.MapFault.TheVariants.{At, Memory}

-- the fault of the text that a reader reports; want of memory is none
abbrev pub fault_of : MapFault → Option (Fault MapKind)
fault_of (At line kind) = Some (record { line = line; kind = kind })
fault_of Memory = None

-- ---- the header, lines 1 to 4

-- a line by its number; one that is missing has no bytes
abbrev pub line_at : List (List ℕ) → ℕ → List ℕ
line_at lines number = get_or lines (number - 1) []

-- the one or two words of a line, and nothing else
abbrev pub header : List (List ℕ) → List (List ℕ) → Result (Unit {0}) MapKind
header (v ∷ []) (w ∷ []) = if bytes_eq w v then Ok tt else Err BadHeader
header (v ∷ u ∷ []) (w ∷ x ∷ []) = if bytes_eq w v && bytes_eq x u then Ok tt else Err BadHeader
header words fields = Err BadHeader

-- a number that fits and isn't 0
abbrev pub size_in : (ℕ → Bool) → Option ℕ → Result ℕ MapKind
size_in fits None = Err BadNumber
size_in fits (Some n) = if n == 0 then Err BadNumber else if fits n then Ok n else Err TooLarge

-- a word, and a number that fits and isn't 0
abbrev pub size_of : List ℕ → (ℕ → Bool) → List (List ℕ) → Result ℕ MapKind
size_of word fits (w ∷ n ∷ []) = if bytes_eq w word then size_in fits (number_of n) else Err BadHeader
size_of word fits fields = Err BadHeader

abbrev pub fits_height : ℕ → Bool
fits_height n = nat_le n 2048

-- the side is limited, and the number of cells
abbrev pub fits_width : ℕ → ℕ → Bool
fits_width height n = nat_le n 2048 && nat_le (n * height) 1048576

pub record Sizes : Type 0 where
  pub width : ℕ
  pub height : ℕ

unfoldable pub sizes_of : List (List ℕ) → Result Sizes (Fault MapKind)
sizes_of lines = do
  title ← at 1 (header (codes "type" ∷ codes "octile" ∷ []) (fields_of (line_at lines 1)))
  height ← at 2 (size_of (codes "height") fits_height (fields_of (line_at lines 2)))
  width ← at 3 (size_of (codes "width") (fits_width height) (fields_of (line_at lines 3)))
  mark ← at 4 (header (codes "map" ∷ []) (fields_of (line_at lines 4)))
  Ok (record { width = width; height = height })

-- ---- the rows, from line 5 on

-- `.`, `G` and `S` are open
abbrev pub is_open_letter : ℕ → Bool
is_open_letter b = (b == 46) || (b == 71) || (b == 83)

-- `@`, `O`, `T` and `W` are closed
abbrev pub is_letter : ℕ → Bool
is_letter b = is_open_letter b || (b == 64) || (b == 79) || (b == 84) || (b == 87)

-- a row has one letter for each cell
abbrev pub row : ℕ → List ℕ → Result (List Bool) MapKind
row width line =
    if list_all is_letter line
    then if nat_lt (length line) width then Err ShortRow
    else if nat_lt width (length line) then Err LongRow
    else Ok (map is_open_letter line)
    else Err BadChar

-- what was read: cells, and the lines after them
pub record Rows : Type 0 where
  pub cells : List Bool
  pub after : List (List ℕ)

-- so many rows, from the line of this number on
unfoldable pub rows : ℕ → ℕ → ℕ → List (List ℕ) → Result Rows (Fault MapKind)
rows width number zero lines = Ok (record { cells = []; after = lines })
rows width number (suc count) [] = Err (record { line = number; kind = MissingRows })
rows width number (suc count) (line ∷ lines) = do
  first ← at number (row width line)
  others ← rows width (number + 1) count lines
  Ok (record { cells = first ++ others.cells; after = others.after })

-- ---- the end, and the whole

-- of the lines after the last row none has a byte
unfoldable pub ending : List Numbered → Result (Unit {0}) (Fault MapKind)
ending [] = Ok tt
ending (found ∷ others) = Err (record { line = found.line; kind = TrailingText })

unfoldable pub map_of : List (List ℕ) → Result Terrain (Fault MapKind)
map_of lines = do
  sizes ← sizes_of lines
  found ← rows sizes.width 5 sizes.height (drop 4 lines)
  end ← ending (numbered_from (4 + sizes.height + 1) found.after)
  Ok (record { width = sizes.width; height = sizes.height; cells = found.cells })

-- a fault that depends on the lines up to its own alone: nothing after them counts
abbrev pub IsOfFirstLines : Fault MapKind → List (List ℕ) → Type 0
IsOfFirstLines fault lines = (others : List (List ℕ)) → take fault.line others ≡ take fault.line lines → map_of others ≡ Err fault
