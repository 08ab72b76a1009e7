use Rattle.std.proofs.Common.{rules, map, subst}
use Rattle.std.specs.List.Sorted.{IsPermutation}
use Rattle.std.proofs.lemmas.List.Sorted.{IsPermutation-map, IsNonDecreasingBy-from_sort_by_key}
use Rattle.lane_runs.specs.Answers.{order_of}
use Rattle.journal_lines.proofs.order.by_number.Goals as goal

pub returns-clause-same : goal.returns-clause-same
returns-clause-same c =
    subst (λ xs. IsPermutation xs (map (λ a. a.now) c.sort_unstable_by_key.new.self.items)) c.in_ok-numbered.ensures
    (IsPermutation-map (λ a. a.now) _ _ c.sort_unstable_by_key.ensures.permutation)

pub returns-clause-rising : goal.returns-clause-rising
returns-clause-rising c = IsNonDecreasingBy-from_sort_by_key (λ a. order_of a.now) _ c.sort_unstable_by_key.ensures.sorted (λ a r q k. search rules)
