-- A view over two lists: a calendar for each cell, and a mark at each loaded one.
use Rattle.std.specs.Prelude.{◌≡◌, ℕ, ◌<◌, Bool, true, false, List, Option, Some, None, IsSome, length, slice_get, unwrap_or, refl, if◌then◌else◌}
use Rattle.std.proofs.Common.{◌∙◌}
use Rattle.std.proofs.lemmas.Bool.{false≢true}
use Rattle.std.proofs.lemmas.Option.{slice_get_within}
use Rattle.fleet_base.specs.declared.request.Record.{Record}

-- what the view knows: the calendars of the marked cells
abbrev pub known_of : List (List Record) → List Bool → ℕ → Option (List Record)
known_of calendars loaded c = if unwrap_or (slice_get loaded c) false then slice_get calendars c else None

-- the laws of a view: what is known is a cell of it, and its calendars never change
within_if_some : {X : Type 0} (xs : List X) (c : ℕ) (o : Option X) → slice_get xs c ≡ o → IsSome o → c < length xs
within_if_some xs c (Some x) e h = slice_get_within xs c x e
within_if_some xs c None e h = absurd (false≢true h)

pub known_below : (calendars : List (List Record)) (loaded : List Bool) (c : ℕ) → IsSome (known_of calendars loaded c) → c < length calendars
known_below calendars loaded c = go (unwrap_or (slice_get loaded c) false)
  where
    go : (b : Bool) → IsSome (if b then slice_get calendars c else None) → c < length calendars
    go true h = within_if_some calendars c (slice_get calendars c) refl h
    go false h = absurd (false≢true h)

pub same_stays : (calendars : List (List Record)) → calendars ≡ calendars
same_stays calendars = refl

pub same_goes_on : (u v w : List (List Record)) → v ≡ u → w ≡ v → w ≡ u
same_goes_on u v w first second = second ∙ first
