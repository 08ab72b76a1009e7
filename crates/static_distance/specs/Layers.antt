-- The levels of the cells that are counted, in the layers of the spans.
use Rattle.std.specs.Prelude.{◌≡◌, ◌≢◌, ℕ, zero, suc, ◌+◌, ◌≤◌, List, length, get_or}
use Rattle.std.specs.Int.{bit_at}
use Rattle.row_words.specs.Words.{IsSet}
use Rattle.static_distance.specs.declared.layers.Layer.{Layer}
use Rattle.static_distance.specs.declared.layers.Layers.{Layers}

-- the first number, or the second one where the bit is 0
abbrev pub choose : ℕ → ℕ → ℕ → ℕ
choose zero mine other = other
choose (suc bit) mine other = mine

-- 1 plus the level of the layer where it has the place, else the other number
abbrev pub or_else : Layer → ℕ → ℕ → ℕ
or_else layer place other = choose (bit_at layer.word place) (suc layer.level) other

abbrev pub no_layer : Layer
no_layer = record { word = 0; level = 0; older = 0 }

-- 1 plus the level that the older layers tell of a place, from one of them on, in so many steps at most; 0 where none of them has it
abbrev pub older_told : List Layer → ℕ → ℕ → ℕ → ℕ
older_told older zero from place = 0
older_told older (suc steps) zero place = 0
older_told older (suc steps) (suc before) place = or_else (get_or older before no_layer) place (older_told older steps (get_or older before no_layer).older place)

-- the same from a layer on that leads to them
abbrev pub told_from : List Layer → Layer → ℕ → ℕ
told_from older layer place = or_else layer place (older_told older layer.older layer.older place)

-- the newest layer of a span
abbrev pub newest_of : Layers → ℕ → Layer
newest_of l number = get_or l.newest.items number no_layer

-- 1 plus the level of the cell at a place of a span, or 0 where it isn't counted
abbrev pub told : Layers → ℕ → ℕ → ℕ
told l number place = told_from l.older.items (newest_of l number) place

-- each of the older layers leads to one before it
abbrev pub AreFalling : List Layer → Type 0
AreFalling older = (place : ℕ) → (get_or older place no_layer).older ≤ place

-- the newest layer of the span leads to one that there is
abbrev pub IsLinked : Layers → ℕ → Type 0
IsLinked l number = (newest_of l number).older ≤ length l.older.items

-- The cells that the word has in the span are on that level now, and all others of spans that were begun on theirs.
pub record HasLayer (number word level : ℕ) (old new : Layers) : Type 0 where
  pub mine : (place : ℕ) → IsSet word place → told new number place ≡ suc level
  pub others : (place : ℕ) → ¬ (IsSet word place) → told new number place ≡ told old number place
  pub elsewhere : (n place : ℕ) → n ≢ number → IsLinked old n → told new n place ≡ told old n place
  pub linked : (n : ℕ) → IsLinked old n → IsLinked new n
  pub falling : AreFalling new.older.items
  pub count : length new.newest.items ≡ length old.newest.items
  pub few : length new.older.items ≤ length old.older.items + 1
