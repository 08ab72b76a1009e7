-- The command that the words of a command line are.
use Rattle.std.specs.Prelude.{◌*◌, nat_le, if◌then◌else◌, List, [], ◌∷◌, codes, Option, Some, None}
use Rattle.std.specs.Str.{bytes_eq}
use Rattle.command_line.specs.declared.command.Command.{Command}
use Rattle.command_line.specs.declared.command.Command.TheVariants.{One, Run, Orders, Gen, Check, Long, Turns}
use Rattle.command_line.specs.Sorting.{Word, Sorted, sorted_from}
use Rattle.command_line.specs.Options.{◌>>=◌, need, number_in, are_among, workers_or, usual_workers, horizon_of, take_of}

-- the options of the commands that run workers, and of those that don't
abbrev pub with_workers : List Word
with_workers = codes "workers" ∷ codes "horizon" ∷ []

abbrev pub with_horizon : List Word
with_horizon = codes "horizon" ∷ []

-- MAP X Y X Y
unfoldable pub one_of : List Word → List (Word × Word) → Option (Command Word)
one_of (m ∷ a ∷ b ∷ c ∷ d ∷ []) options = do
  known ← need (are_among [] options)
  from_x ← number_in 0 2047 a
  from_y ← number_in 0 2047 b
  to_x ← number_in 0 2047 c
  to_y ← number_in 0 2047 d
  Some (One m from_x from_y to_x to_y)
one_of plain options = None

-- MAP SCEN
unfoldable pub run_of : List Word → List (Word × Word) → Option (Command Word)
run_of (m ∷ scenario ∷ []) options = do
  known ← need (are_among (codes "workers" ∷ codes "horizon" ∷ codes "take" ∷ []) options)
  workers ← workers_or usual_workers options
  horizon ← horizon_of options
  kept ← take_of options
  Some (Run m scenario workers horizon kept)
run_of plain options = None

-- MAP ORDERS
unfoldable pub orders_of : List Word → List (Word × Word) → Option (Command Word)
orders_of (m ∷ orders ∷ []) options = do
  known ← need (are_among with_workers options)
  workers ← workers_or usual_workers options
  horizon ← horizon_of options
  Some (Orders m orders workers horizon)
orders_of plain options = None

-- W H PERCENT N START
unfoldable pub gen_of : List Word → List (Word × Word) → Option (Command Word)
gen_of (a ∷ b ∷ c ∷ d ∷ e ∷ []) options = do
  known ← need (are_among with_workers options)
  width ← number_in 1 2048 a
  height ← number_in 1 2048 b
  fits ← need (nat_le (width * height) 1048576)
  percent ← number_in 0 100 c
  orders ← number_in 1 32767 d
  start ← number_in 0 18446744073709551615 e
  workers ← workers_or 1 options
  horizon ← horizon_of options
  Some (Gen width height percent orders start workers horizon)
gen_of plain options = None

-- MAP ORDERS JOURNAL
unfoldable pub check_of : List Word → List (Word × Word) → Option (Command Word)
check_of (m ∷ orders ∷ journal ∷ []) options = do
  known ← need (are_among with_horizon options)
  horizon ← horizon_of options
  Some (Check m orders journal horizon)
check_of plain options = None

-- MAP ORDERS
unfoldable pub long_of : List Word → List (Word × Word) → Option (Command Word)
long_of (m ∷ orders ∷ []) options = do
  known ← need (are_among with_horizon options)
  horizon ← horizon_of options
  Some (Long m orders horizon)
long_of plain options = None

-- MAP ORDERS
unfoldable pub turns_of : List Word → List (Word × Word) → Option (Command Word)
turns_of (m ∷ orders ∷ []) options = do
  known ← need (are_among with_horizon options)
  horizon ← horizon_of options
  Some (Turns m orders horizon)
turns_of plain options = None

-- by the command's name
abbrev pub command_by : Word → Sorted → Option (Command Word)
command_by w s =
    if bytes_eq w (codes "one") then one_of s.plain s.options
    else if bytes_eq w (codes "run") then run_of s.plain s.options
    else if bytes_eq w (codes "orders") then orders_of s.plain s.options
    else if bytes_eq w (codes "gen") then gen_of s.plain s.options
    else if bytes_eq w (codes "check") then check_of s.plain s.options
    else if bytes_eq w (codes "long") then long_of s.plain s.options
    else if bytes_eq w (codes "turns") then turns_of s.plain s.options
    else None

unfoldable pub command_of : List Word → Option (Command Word)
command_of [] = None
command_of (w ∷ ws) = sorted_from ws None >>= command_by w

-- a command whose names are seen as their bytes
abbrev pub named : {N : Type 0} → (N → Word) → Command N → Command Word
named view (One m a b c d) = One (view m) a b c d
named view (Run m s w h t) = Run (view m) (view s) w h t
named view (Orders m o w h) = Orders (view m) (view o) w h
named view (Gen w h p o s k l) = Gen w h p o s k l
named view (Check m o j h) = Check (view m) (view o) (view j) h
named view (Long m o h) = Long (view m) (view o) h
named view (Turns m o h) = Turns (view m) (view o) h
