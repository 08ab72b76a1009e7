-- The words that the code sorted, seen as bytes.
use Rattle.std.specs.Prelude.{Bool, true, false, List, [], ◌++◌, map, Option, Some, None}
use Rattle.std.specs.Option.{option_map}
use Rattle.command_line.specs.declared.sorting.Given.{Given}
use Rattle.command_line.specs.declared.sorting.SortedWords.{SortedWords}
use Rattle.command_line.specs.declared.sorting.Sorting.{Sorting}
use Rattle.command_line.specs.declared.sorting.WordKind.{WordKind}
use Rattle.command_line.specs.declared.sorting.WordKind.TheVariants.{Ends, Gives, Takes, Wrong, Plain}
use Rattle.command_line.specs.Sorting.{Word, Sorted, sorted_from}

abbrev pub kind_named : {N : Type 0} → (N → Word) → WordKind N → WordKind Word
kind_named view Ends = Ends
kind_named view (Gives name value) = Gives (view name) (view value)
kind_named view (Takes name) = Takes (view name)
kind_named view Wrong = Wrong
kind_named view Plain = Plain

abbrev pub given : Given → Word × Word
given o = (o.name.now, o.value.now)

abbrev pub sorted_view : SortedWords → Sorted
sorted_view s = record { plain = map (λ w. w.now) s.plain.items; options = map given s.options.items }

-- what was read so far, and then what is still read
abbrev pub in_front : List Word → List (Word × Word) → Option Sorted → Option Sorted
in_front plain options None = None
in_front plain options (Some s) = Some (record { plain = plain ++ s.plain; options = options ++ s.options })

-- what the words that are left come to, after `--` or before it
abbrev pub still : Bool → Option Word → List Word → Option Sorted
still false waiting ws = sorted_from ws waiting
still true None ws = Some (record { plain = ws; options = [] })
still true (Some name) ws = None

-- what the words read so far and these come to
abbrev pub sorted_after : Sorting → List Word → Option Sorted
sorted_after s ws = in_front (map (λ w. w.now) s.plain.items) (map given s.options.items) (still s.ended (option_map (λ w. w.now) s.waiting) ws)
