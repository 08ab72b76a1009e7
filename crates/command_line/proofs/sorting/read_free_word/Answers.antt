use Rattle.std.proofs.Common.{◌∙◌, sym, ap, map, []}
use Rattle.std.specs.Option.{option_map}
use Rattle.std.proofs.lemmas.List.{map_push}
use Rattle.command_line.specs.Sorting.{kind_of}
use Rattle.command_line.specs.SortingView.{given}
use Rattle.command_line.proofs.SortingLemmas.{wrong, ends, gives, takes, plain}
use Rattle.command_line.proofs.sorting.read_free_word.Goals as goal

pub returns-in-Wrong-clause-stops : goal.returns-in-Wrong-clause-stops
returns-in-Wrong-clause-stops c =
    λ bad ws. wrong _ [] _ [] _ _ c.args.text.now ws c.requires.before (ap (option_map (λ w. w.now)) c.requires.free) (ap kind_of (sym c.as_bytes.ensures.value) ∙ sym c.in-Wrong.ensures)

pub returns-in-Ends-clause-goes_on : goal.returns-in-Ends-clause-goes_on
returns-in-Ends-clause-goes_on c =
    λ good ws. ends _ [] _ [] _ _ c.args.text.now ws c.requires.before (ap (option_map (λ w. w.now)) c.requires.free) (ap kind_of (sym c.as_bytes.ensures.value) ∙ sym c.in-Ends.ensures)

pub returns-in_ok-push-in-Gives-clause-goes_on : goal.returns-in_ok-push-in-Gives-clause-goes_on
returns-in_ok-push-in-Gives-clause-goes_on c =
    λ good ws. gives _ [] _ _ _ _ c.args.text.now ws c.in-Gives.name.now c.in-Gives.value.now c.requires.before (ap (option_map (λ w. w.now)) c.requires.free) (ap kind_of (sym c.as_bytes.ensures.value) ∙ sym c.in-Gives.ensures) (ap (map given) c.in_ok-push-in-Gives.ensures.items ∙ map_push given _ _)

pub returns-in-Takes-clause-goes_on : goal.returns-in-Takes-clause-goes_on
returns-in-Takes-clause-goes_on c =
    λ good ws. takes _ [] _ [] _ _ c.args.text.now ws c.in-Takes.name.now c.requires.before (ap (option_map (λ w. w.now)) c.requires.free) (ap kind_of (sym c.as_bytes.ensures.value) ∙ sym c.in-Takes.ensures)

pub returns-in_ok-push-in-Plain-clause-goes_on : goal.returns-in_ok-push-in-Plain-clause-goes_on
returns-in_ok-push-in-Plain-clause-goes_on c =
    λ good ws. plain _ _ _ [] _ _ c.args.text.now ws c.requires.before (ap (option_map (λ w. w.now)) c.requires.free) (ap kind_of (sym c.as_bytes.ensures.value) ∙ sym c.in-Plain.ensures) (ap (map (λ w. w.now)) c.in_ok-push-in-Plain.ensures.items ∙ map_push (λ w. w.now) _ _)
