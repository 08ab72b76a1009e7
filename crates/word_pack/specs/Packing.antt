-- What packing owes: one word for one form.
use Rattle.std.specs.Prelude.{◌≡◌, ℕ}

-- two forms that fit and have one word are one form
abbrev pub IsOneToOne : {F : Type 0} → (F → Type 0) → (F → ℕ) → Type 0
IsOneToOne {F} Fits word = (first second : F) → Fits first → Fits second → word first ≡ word second → first ≡ second
