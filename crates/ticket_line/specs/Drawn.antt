-- The word that counts the draws, and what the tickets have drawn.
use Rattle.std.specs.Prelude.{◌≡◌, ℕ, ◌+◌, ◌-◌, ◌<◌, ◌≤◌, List, [], ◌∷◌, ◌++◌, length, slice_index, nat_lt, if◌then◌else◌}
use mathlib.Core.Option.{some}
use lib.ListN.{get_elem?}
use Rattle.atomic_table.specs.Table.{State, Me, Step}
use Rattle.ticket_line.specs.declared.hand.Hand.{Hand}
use Rattle.ticket_line.specs.declared.hand.Layout.{Layout}
use Rattle.ticket_line.specs.Numbers.{times, EachOnce}

abbrev pub total : (Hand → ℕ) → List Hand → ℕ
total f [] = 0
total f (v ∷ vs) = f v + total f vs

abbrev pub first_hand : Layout → Hand
first_hand k = record { parts = k.workers; drawn = []; late = 0; count = k.count; workers = k.workers }

abbrev pub less_one : Hand → Hand
less_one v = record v { parts = v.parts - 1 }

abbrev pub one_part : Hand → Hand
one_part v = record { parts = 1; drawn = []; late = 0; count = v.count; workers = v.workers }

abbrev pub both : Hand → Hand → Hand
both v w = record v { parts = v.parts + w.parts; drawn = v.drawn ++ w.drawn; late = v.late + w.late }

abbrev pub spent : Hand
spent = record { parts = 0; drawn = []; late = 0; count = 0; workers = 0 }

-- 1 for a number that a word of n draws has given, and else 0
abbrev pub given : ℕ → ℕ → ℕ → ℕ
given x n count = if nat_lt x n then (if nat_lt x count then 1 else 0) else 0

pub record Fits (k : Layout) (word : ℕ) (v : Hand) : Type 0 where
  pub late : v.late ≤ v.parts
  pub over : 0 < v.late → k.count ≤ word
  pub idle : v.parts ≡ 0 → v.drawn ≡ []
  pub laid : 0 < v.parts → (v.count ≡ k.count) × (v.workers ≡ k.workers)

pub record IsKept (k : Layout) (s : State Unit Hand) : Type 0 where
  pub wide : length s.words ≡ 1
  pub small : (k.count ≤ 32767) × (k.workers ≤ 16)
  pub parts : total (λ v. v.parts) s.views ≡ k.workers
  pub once : (x : ℕ) → total (λ v. times x v.drawn) s.views ≡ given x (slice_index s.words 0) k.count
  pub late : slice_index s.words 0 ≤ k.count + total (λ v. v.late) s.views
  pub drawn : total (λ v. length v.drawn) s.views ≤ slice_index s.words 0
  pub hands : (id : ℕ) (v : Hand) → get_elem? s.views id ≡ some v → Fits k (slice_index s.words 0) v

-- a number below the count was drawn, or none was left; and who has all parts then has all numbers
pub record Draws (v : Hand) (n : ℕ) (w : Hand) : Type 0 where
  pub some : n < v.count → w ≡ record v { drawn = v.drawn ++ n ∷ [] }
  pub few : n < v.count → length w.drawn ≤ v.count
  pub none_left : v.count ≤ n → w ≡ record v { late = v.late + 1 }
  pub all : v.count ≤ n → v.parts ≡ v.workers → EachOnce v.count v.drawn

abbrev pub draws : Step Unit → Me Unit Hand → ℕ → Me Unit Hand → Type 0
draws st m n m' = Draws m.0 n m'.0 × (m'.1 ≡ m.1)

-- who has all parts, and found none left, has all numbers
abbrev pub looks : Step Unit → Me Unit Hand → ℕ → Me Unit Hand → Type 0
looks st m n m' = (m' ≡ m) × (0 < m.0.late → m.0.parts ≡ m.0.workers → EachOnce m.0.count m.0.drawn)
