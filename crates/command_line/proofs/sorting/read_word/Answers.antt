use Rattle.std.proofs.Common.{◌≡◌, ◌∙◌, ap, refl, map, true, false, List, ◌++◌, ◌∷◌, []}
use Rattle.std.specs.Option.{option_map}
use Rattle.std.proofs.lemmas.List.{map_push}
use Rattle.command_line.specs.Sorting.{Word, begins_with_dash}
use Rattle.command_line.specs.SortingView.{given}
use Rattle.command_line.proofs.SortingLemmas.{no_value, value}
use Rattle.command_line.proofs.sorting.read_word.Goals as goal

same_end : (o : List (Word × Word)) (n v w : Word) → v ≡ w → o ++ (n, v) ∷ [] ≡ o ++ (n, w) ∷ []
same_end o n v w e = rw e refl

pub returns-then-begins_with_dash-clause-stops : goal.returns-then-begins_with_dash-clause-stops
returns-then-begins_with_dash-clause-stops c =
    let dash : begins_with_dash c.args.text.now ≡ true = cc in
    λ bad ws. no_value _ [] _ [] _ _ c.args.text.now ws c.in-Some.name.now c.if-sorting.false (ap (option_map (λ w. w.now)) c.in-Some.is) dash

pub returns-in_ok-push-in-Some-clause-goes_on : goal.returns-in_ok-push-in-Some-clause-goes_on
returns-in_ok-push-in-Some-clause-goes_on c =
    let dash : begins_with_dash c.args.text.now ≡ false = cc in
    λ good ws. value _ _ _ _ _ _ c.args.text.now ws c.in-Some.name.now c.if-sorting.false (ap (option_map (λ w. w.now)) c.in-Some.is) dash refl (ap (map given) c.in_ok-push-in-Some.ensures.items ∙ map_push given _ _ ∙ same_end (map given c.args.sorting.now.options.items) c.in-Some.name.now c.as_bytes-value.result.now c.args.text.now c.as_bytes-value.ensures.value)
