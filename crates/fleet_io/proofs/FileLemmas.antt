-- Looking a file up by its name.
use Rattle.std.proofs.Common.{◌≡◌, ℕ, List, [], ◌∷◌, map, true, false, cond, refl, Some, Vec, String}
use Rattle.std.specs.List.{find}
use Rattle.std.specs.Option.{option_map}
use Rattle.std.specs.Str.{bytes_eq}
use Rattle.fleet_io.specs.Files.{named, content_of}

-- what a lookup in the told files gives is what the file found among the pairs holds
pub content_of_named : {Z Y : Type 0} (files : List (String Z × Vec ℕ Y)) (name : List ℕ)
    → content_of (map named files) name ≡ option_map (λ f. (named f).bytes) (find (λ f. bytes_eq (named f).name name) files)
content_of_named [] name = refl
content_of_named (f ∷ fs) name =
    elim (bytes_eq (named f).name name)
    as (λ b. option_map (λ g. g.bytes) (cond b (Some (named f)) (find (λ g. bytes_eq g.name name) (map named fs)))
    ≡ option_map (λ g. (named g).bytes) (cond b (Some f) (find (λ g. bytes_eq (named g).name name) fs)))
    [ true ↦ refl | false ↦ content_of_named fs name ]
