use Rattle.std.proofs.Common.{ap, map}
use Rattle.std.specs.Prelude.{string_bytes}
use Rattle.std.specs.Option.{option_map}
use Rattle.std.proofs.lemmas.List.{drop_all}
use Rattle.command_line.proofs.SortingLemmas.{finished, unfinished}
use Rattle.command_line.proofs.sorting.sort_words.Goals as goal

pub returns-in-Some : goal.returns-in-Some
returns-in-Some c =
    unfinished _ _ _ _ _ _ c.in-Some.field-0.now (ap (map string_bytes) (drop_all _ c.args.words.now c.loop-text-test.false)) (ap (option_map (λ w. w.now)) c.in-Some.is) c.loop-text.invariant

pub returns : goal.returns
returns c =
    finished _ _ _ _ _ _ (ap (map string_bytes) (drop_all _ c.args.words.now c.loop-text-test.false)) (ap (option_map (λ w. w.now)) c.in-None.is) c.loop-text.invariant
