-- The laws of a view whose calendars are all known from the beginning.
use Rattle.std.specs.Prelude.{◌≡◌, ℕ, ◌<◌, List, Option, Some, None, IsSome, length, slice_get, refl}
use Rattle.std.proofs.Common.{◌∙◌}
use Rattle.std.proofs.lemmas.Bool.{false≢true}
use Rattle.std.proofs.lemmas.Option.{slice_get_within}
use Rattle.fleet_base.specs.declared.request.Record.{Record}

within_if_some : (xs : List (List Record)) (c : ℕ) (o : Option (List Record)) → slice_get xs c ≡ o → IsSome o → c < length xs
within_if_some xs c (Some x) e h = slice_get_within xs c x e
within_if_some xs c None e h = absurd (false≢true h)

-- what is known is a cell of it
pub known_below : (calendars : List (List Record)) (c : ℕ) → IsSome (slice_get calendars c) → c < length calendars
known_below calendars c h = within_if_some calendars c (slice_get calendars c) refl h

-- and its calendars never change
pub same_stays : (calendars : List (List Record)) → calendars ≡ calendars
same_stays calendars = refl

pub same_goes_on : (u v w : List (List Record)) → v ≡ u → w ≡ v → w ≡ u
same_goes_on u v w first second = second ∙ first
