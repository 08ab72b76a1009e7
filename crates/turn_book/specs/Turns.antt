-- The turn word, the book in its slot, and what each seat knows of the one list of entries.
use Rattle.std.specs.Prelude.{◌≡◌, ◌≢◌, ◌==◌, ℕ, ◌+◌, ◌<◌, ◌≤◌, true, false, List, [], ◌∷◌, ◌++◌, Option, Some, length, take, drop, slice_index, Contains, if◌then◌else◌}
use Rattle.std.specs.List.{range_with_len}
use mathlib.Core.Option.{some}
use lib.ListN.{get_elem?}
use Rattle.atomic_table.specs.Table.{State, Me, Step}
use Rattle.fleet_base.specs.declared.request.Entry.{Entry}
use Rattle.fleet_base.specs.History.{past_of}
use Rattle.plain_book.specs.BookState.{BookState, LeadsTo}
use Rattle.book_trait.specs.Passes.{BookView, entries_of, IsShared}
use Rattle.book_trait.specs.Calls.{GoesOn}
use Rattle.turn_book.specs.declared.rule.Layout.{Layout}
use Rattle.turn_book.specs.declared.rule.Known.{Known}
use Rattle.turn_book.specs.declared.rule.View.{View}

abbrev pub Slot : Type 0
Slot = Option BookState

abbrev pub kind_of : Layout → BookView
kind_of k = record { grid = k.grid; horizon = k.horizon; callers = k.callers }

-- no stamp and no era is higher than the highest
pub record IsInRange (b : BookState) : Type 0 where
  pub stamp : b.stamp ≤ 67108863
  pub era : b.era ≤ 1099511627775

-- the list leads to the book, whose stamp is the number of its replies
pub record IsAfter (k : Layout) (list : List Entry) (b : BookState) : Type 0 where
  pub grid : b.grid ≡ k.grid
  pub horizon : b.horizon ≡ k.horizon
  pub leads : LeadsTo (past_of list) b
  pub counted : b.stamp ≡ length (past_of list).replies
  pub in_range : IsInRange b

-- the list goes on from what was seen, and has no more entries of these callers
pub record IsKnown (x : Known) (list : List Entry) : Type 0 where
  pub begins : GoesOn x.seen list
  pub own : (c : ℕ) → Contains x.callers c → entries_of c list ≡ entries_of c x.seen

-- who has the turn has seen the whole list, and the word names it
pub record HasTurn (k : Layout) (word : ℕ) (list : List Entry) (v : View) : Type 0 where
  pub caller : ℕ
  pub callers : v.mine.callers ≡ caller ∷ []
  pub low : caller < k.callers
  pub word_is : word ≡ caller + 1
  pub seen : v.mine.seen ≡ list

pub record Fits (k : Layout) (word : ℕ) (list : List Entry) (v : View) : Type 0 where
  pub layout : v.of_book ≡ true → v.layout ≡ k
  pub mine : IsKnown v.mine list
  pub heard : IsKnown v.heard list
  pub turn : v.holds ≡ true → HasTurn k word list v

-- how often x stands in the list
abbrev pub times : ℕ → List ℕ → ℕ
times x [] = 0
times x (y ∷ ys) = (if y == x then 1 else 0) + times x ys

-- how often the caller is one of the view's
abbrev pub seats : ℕ → View → ℕ
seats c v = times c v.mine.callers + times c v.heard.callers

abbrev pub total : (View → ℕ) → List View → ℕ
total f [] = 0
total f (v ∷ vs) = f v + total f vs

-- some view has the turn
abbrev pub IsHeld : List View → Type 0
IsHeld vs = (id : ℕ) × (v : View) × (get_elem? vs id ≡ some v) × (v.holds ≡ true)

-- the table as it is where the book's entries are this list
pub record Keeps (k : Layout) (list : List Entry) (s : State Slot View) : Type 0 where
  pub shared : IsShared (kind_of k) list
  pub wide : length s.words ≡ 1
  pub slots : length s.homes ≡ 1
  pub free : slice_index s.words 0 ≡ 0 → (b : BookState) × (get_elem? s.homes 0 ≡ some (some (Some b))) × IsAfter k list b
  pub held : slice_index s.words 0 ≢ 0 → IsHeld s.views
  pub once : (c : ℕ) → total (seats c) s.views ≤ 1
  pub views : (id : ℕ) (v : View) → get_elem? s.views id ≡ some v → Fits k (slice_index s.words 0) list v

-- there is one list of entries
abbrev pub IsKept : Layout → State Slot View → Type 0
IsKept k s = (list : List Entry) × Keeps k list s

-- What the steps tell.
abbrev pub nothing_known : Known
nothing_known = record { callers = []; seen = [] }

abbrev pub first_view : Layout → View
first_view k = record { layout = k; of_book = true; holds = false; mine = record { callers = range_with_len 0 k.callers; seen = [] }; heard = nothing_known; again = 0; full = 0; tries = 0; found = 0 }

-- a beginning of the list that goes on from all that the view knows of it
pub record Looks (v : View) (list : List Entry) : Type 0 where
  pub shared : IsShared (kind_of v.layout) list
  pub mine : IsKnown v.mine list
  pub heard : IsKnown v.heard list

-- the word names another caller of the book
pub record NamesAnother (callers : ℕ) (mine : List ℕ) (word : ℕ) : Type 0 where
  pub other : ℕ
  pub low : other < callers
  pub not_mine : ¬ (Contains mine other)
  pub word_is : word ≡ other + 1

abbrev pub with_turn : View → List Entry → View
with_turn v list = record v { holds = true; mine = record v.mine { seen = list }; tries = v.tries + 1; found = 0 }

abbrev pub without_turn : View → ℕ → View
without_turn v word = record v { again = v.again + 1; tries = v.tries + 1; found = word }

-- the turn was free and was taken, with the book, or the word named another caller
pub record Takes (r : ℕ) (m m' : Me Slot View) : Type 0 where
  pub hit : r ≡ 0 → (b : BookState) × Looks m.0 m'.0.mine.seen × IsAfter m.0.layout m'.0.mine.seen b × (m' ≡ (with_turn m.0 m'.0.mine.seen, (0, Some b) ∷ m.1))
  pub miss : r ≢ 0 → (m' ≡ (without_turn m.0 r, m.1)) × NamesAnother m.0.layout.callers m.0.mine.callers r

abbrev pub takes_turn : Step Slot → Me Slot View → ℕ → Me Slot View → Type 0
takes_turn st m r m' = Takes r m m'

abbrev pub given : View → List Entry → ℕ → View
given v more full = record v { holds = false; mine = record v.mine { seen = v.mine.seen ++ more }; full = v.full + full }

abbrev pub gives_turn : List Entry → ℕ → Step Slot → Me Slot View → ℕ → Me Slot View → Type 0
gives_turn more full st m r m' = m' ≡ (given m.0 more full, [])

abbrev pub looked : View → List Entry → View
looked v list = record v { mine = record { callers = v.mine.callers ++ v.heard.callers; seen = list }; heard = nothing_known }

abbrev pub looks : Step Slot → Me Slot View → ℕ → Me Slot View → Type 0
looks st m r m' = Looks m.0 m'.0.mine.seen × (m' ≡ (looked m.0 m'.0.mine.seen, m.1))

abbrev pub less_one : View → View
less_one v = record v { mine = record v.mine { callers = drop 1 v.mine.callers } }

abbrev pub first_one : View → View
first_one v = record v { mine = record v.mine { callers = take 1 v.mine.callers }; heard = nothing_known }

abbrev pub told_of : View → View
told_of v = record v { mine = record v.mine { callers = [] }; heard = nothing_known; again = 0; full = 0 }

abbrev pub both : View → View → View
both v w = record v { heard = w.mine; again = v.again + w.again; full = v.full + w.full }

abbrev pub spent : View
spent = record { layout = record { grid = record { width = 0; height = 0; cells = [] }; horizon = 0; callers = 0 }; of_book = false; holds = false; mine = nothing_known; heard = nothing_known; again = 0; full = 0; tries = 0; found = 0 }
