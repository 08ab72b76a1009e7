-- What a shelf tells: its files by name, and the names whose fetch failed.
use Rattle.std.specs.Prelude.{◌≡◌, ℕ, ◌<◌, ◌≤◌, ◌++◌, List, [], ◌∷◌, length, Option, Some, IfSome, Result, Ok, Err, Vec, String, string_bytes}
use Rattle.std.specs.List.{find}
use Rattle.std.specs.Option.{option_map}
use Rattle.std.specs.Str.{bytes_eq}
use Rattle.fleet_io.specs.declared.shelf.ShelfFault.{ShelfFault}
use Rattle.fleet_io.specs.declared.shelf.ShelfFault.TheVariants.{Failed, TooLong, Memory}

-- a file: the bytes of its name, and what it holds
pub record NamedFile : Type 0 where
  pub name : List ℕ
  pub bytes : List ℕ

-- a pair of a text and bytes, as a file
abbrev pub named : {Z Y : Type 0} → String Z × Vec ℕ Y → NamedFile
named f = record { name = string_bytes f.0; bytes = f.1.items }

-- what the first file of that name holds
abbrev pub content_of : List NamedFile → List ℕ → Option (List ℕ)
content_of files name = option_map (λ f. f.bytes) (find (λ f. bytes_eq f.name name) files)

-- the names that failed, after one fetch more
abbrev pub failed_after : {T : Type 0} → List (List ℕ) → List ℕ → Result T ShelfFault → List (List ℕ)
failed_after names name (Ok x) = names
failed_after names name (Err Failed) = names ++ name ∷ []
failed_after names name (Err TooLong) = names
failed_after names name (Err Memory) = names

-- the bytes are within the limit, and where the files are told they are the whole file of that name
abbrev pub IsFetched : Option (List NamedFile) → List ℕ → ℕ → List ℕ → Type 0
IsFetched told name limit bytes = (length bytes ≤ limit) × IfSome told (λ files. content_of files name ≡ Some bytes)

-- where the files are told, the file of that name is longer than the limit
abbrev pub IsTooLong : Option (List NamedFile) → List ℕ → ℕ → Type 0
IsTooLong told name limit = IfSome told (λ files. (bytes : List ℕ) × (content_of files name ≡ Some bytes) × (limit < length bytes))
