use Rattle.std.proofs.Common.{rules, arith, ◌≡◌, ◌+◌, ◌∙◌, ap, [], length, reverse}
use Rattle.std.specs.Prelude.{vec_len}
use Rattle.std.proofs.lemmas.Bool.Decides.{nat_tests}
use Rattle.static_distance.specs.declared.waiting.Waiting.{Waiting}
use Rattle.static_distance.proofs.FloodLemmas.{no_items, risen_spans}
use Rattle.static_distance.proofs.OrderLemmas.{turned_spans}
use Rattle.static_distance.proofs.distances.Distances.rise.Goals as goal

pub returns-clause-flood : goal.returns-clause-flood
returns-clause-flood c = λ g spans flood.
    (let zero_len : vec_len c.args.self.now.here.spans ≡ 0 = grind (arith, nat_tests) in
    let len : vec_len c.args.self.now.here.spans ≡ length c.args.self.now.here.spans.items = search rules in
    let none : c.args.self.now.here.spans.items ≡ [] = no_items c.args.self.now.here.spans.items (omega arith) in
    risen_spans g c.args.self.now c.turn.new.self c.swap.new.y spans none (c.turn.ensures.words ∙ ap (λ (w : Waiting). w.words) c.swap.ensures.x_after)
    (ap (λ (w : Waiting). w.words) c.swap.ensures.y_after) flood)

pub returns-clause-spans : goal.returns-clause-spans
returns-clause-spans c = λ g spans.
    turned_spans g c.args.self.now (c.args.self.now.level + 2) c.turn.new.self c.swap.new.y spans (c.turn.ensures.words ∙ ap (λ (w : Waiting). w.words) c.swap.ensures.x_after)
    (c.turn.ensures.spans ∙ ap (λ (w : Waiting). reverse w.spans.items) c.swap.ensures.x_after) c.swap.ensures.y_after
