use Rattle.std.proofs.Common.{rules, ◌∙◌, None, ap, map, subst, Vec, Global}
use Rattle.std.specs.Borrow.{Bor}
use Rattle.lane_runs.specs.declared.answer.Answer.{Answer}
use Rattle.std.specs.Prelude.{IsPermutation}
use Rattle.std.proofs.lemmas.Result.{IfOk-weaker}
use Rattle.journal_lines.specs.Places.{places_from}
use Rattle.journal_lines.proofs.PrintLemmas.{printed_lines, sorted_by_line, print_order_ends}
use Rattle.journal_lines.proofs.order.print_order.Goals as goal

pub returns : goal.returns
returns c =
    let places = c.sort_unstable_by_key.new.self.items in
    let moved = subst (λ l. IsPermutation l places) (c.in_ok-places.ensures ∙ ap (places_from None) c.as_slice.ensures.value) c.sort_unstable_by_key.ensures.permutation in
    let sorted = sorted_by_line places c.sort_unstable_by_key.ensures.sorted (λ a r q k. search rules) in
    let printed = printed_lines c.args.answers.now c.in_ok-numbered.numbered.items places c.requires.run c.in_ok-numbered.ensures.same c.in_ok-numbered.ensures.rising moved sorted in
    IfOk-weaker c.answers_of.result _ _ (λ (answers : Vec (Bor Answer) Global). λ is. print_order_ends c.args.answers.now places answers.items (is ∙ ap (map (λ p. p.answer)) c.as_slice-2.ensures.value) printed) c.answers_of.ensures
