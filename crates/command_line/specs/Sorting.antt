-- The words after a command's name: which are plain, and which give options.
use Rattle.std.specs.Prelude.{ℕ, ◌+◌, Bool, ◌==◌, ◌&&◌, nat_lt, nat_eq, if◌then◌else◌, List, [], ◌∷◌, length, drop, take, position, codes, Option, Some, None}
use Rattle.std.specs.List.{starts_with}
use Rattle.std.specs.Str.{bytes_eq}
use Rattle.command_line.specs.declared.sorting.WordKind.{WordKind}
use Rattle.command_line.specs.declared.sorting.WordKind.TheVariants.{Ends, Gives, Takes, Wrong, Plain}

-- a word of the command line: its bytes
abbrev pub Word : Type 0
Word = List ℕ

-- the plain words, and the options with their values, each in the order of the line
pub record Sorted : Type 0 where
  pub plain : List Word
  pub options : List (Word × Word)

abbrev pub is_equals : ℕ → Bool
is_equals b = b == 61

abbrev pub begins_with_dash : Word → Bool
begins_with_dash w = starts_with nat_eq w (codes "-")

-- a name, or a name and a value where `=` stands at this place
abbrev pub option_kind : Word → Option ℕ → WordKind Word
option_kind name None = Takes name
option_kind name (Some place) = Gives (take place name) (drop (place + 1) name)

-- `--`, `--NAME=VALUE`, `--NAME`, another word that begins with `-` and isn't `-`, any other word
unfoldable pub kind_of : Word → WordKind Word
kind_of w =
    if bytes_eq w (codes "--") then Ends
    else if starts_with nat_eq w (codes "--")
    then option_kind (drop 2 w) (position is_equals (drop 2 w))
    else if nat_lt 1 (length w) && begins_with_dash w then Wrong
    else Plain

abbrev pub and_plain : Word → Option Sorted → Option Sorted
and_plain w None = None
and_plain w (Some s) = Some (record { plain = w ∷ s.plain; options = s.options })

abbrev pub and_option : Word → Word → Option Sorted → Option Sorted
and_option name value None = None
and_option name value (Some s) = Some (record { plain = s.plain; options = (name, value) ∷ s.options })

-- by the kind of the word: what is sorted is what the words after it come to
abbrev pub go_on : Word → WordKind Word → List Word → Option Sorted → (Word → Option Sorted) → Option Sorted
go_on w Ends rest sorted wait = Some (record { plain = rest; options = [] })
go_on w (Gives name value) rest sorted wait = and_option name value sorted
go_on w (Takes name) rest sorted wait = wait name
go_on w Wrong rest sorted wait = None
go_on w Plain rest sorted wait = and_plain w sorted

-- the words from left to right, where an option may wait for its value; none where they are no command's
unfoldable pub sorted_from : List Word → Option Word → Option Sorted
sorted_from [] None = Some (record { plain = []; options = [] })
sorted_from [] (Some name) = None
sorted_from (w ∷ ws) (Some name) = if begins_with_dash w then None else and_option name w (sorted_from ws None)
sorted_from (w ∷ ws) None = go_on w (kind_of w) ws (sorted_from ws None) (λ name. sorted_from ws (Some name))
