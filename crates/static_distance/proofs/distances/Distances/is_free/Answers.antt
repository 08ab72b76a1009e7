use Rattle.std.proofs.Common.{◌≡◌, ◌-◌, ◌∙◌, Some, rules, arith, ap, sym}
use Rattle.std.specs.Prelude.{slice_get, vec_len}
use Rattle.std.proofs.lemmas.Bool.Decides.{nat_tests}
use Rattle.std.proofs.lemmas.Option.{slice_get_read, same_Some}
use Rattle.static_distance.proofs.FloodLemmas.{unknown_free, word_free}
use Rattle.static_distance.proofs.distances.Distances.is_free.Goals as goal

pub returns-then-get-ne1 : goal.returns-then-get-ne1
returns-then-get-ne1 c =
    let s = c.span_at-span.result in
    let free = unknown_free c.args.grid.now c.args.self.now s (c.args.place.column - s.column) c.args.cell c.requires.spans c.span_at-span.ensures.span c.span_at-span.ensures.held c.requires.cell
    (λ known. c.if-get-ne1.true (same_Some c.get.result 1 (sym c.get.ensures ∙ known))) in
    (λ yes. free, λ none. grind (arith, nat_tests))

pub returns-else-get-ne1 : goal.returns-else-get-ne1
returns-else-get-ne1 c =
    let s = c.span_at-span.result in
    let now = c.args.self.now in
    let at : slice_get now.free.items s.number ≡ Some c.index.result.now = slice_get_read now.free.items (vec_len now.free) s.number c.index.result.now (search rules) (search rules) c.index.ensures in
    let known : slice_get now.known s.number ≡ Some 1 = c.get.ensures ∙ ap Some c.if-get-ne1.false in
    let free = word_free c.args.grid.now now s (c.args.place.column - s.column) c.args.cell c.requires.spans c.span_at-span.ensures.span c.span_at-span.ensures.held c.requires.cell known c.index.result.now at in
    (λ yes. free.0 (c.is_set.ensures.0 yes), λ none. c.is_set.ensures.1 (free.1 none))
