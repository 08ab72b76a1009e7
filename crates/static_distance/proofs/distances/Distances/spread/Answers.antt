use Rattle.std.proofs.Common.{◌≡◌, ◌∙◌, ℕ, Some, sym, subst, rules, vec_len}
use Rattle.std.specs.Prelude.{slice_get}
use Rattle.std.proofs.lemmas.Option.{slice_get_read, same_Some}
use Rattle.row_words.specs.Words.{IsSet}
use Rattle.row_words.proofs.WordLemmas.{set_below}
use Rattle.static_distance.proofs.RowLemmas.{free_inside, spread_row}
use Rattle.static_distance.proofs.FloodLemmas.{batch_free, batch_low, passed_spans, shut_left, shut_right, spread_spans}
use Rattle.static_distance.proofs.distances.Distances.spread.Goals as goal

pub returns-then-batch-eq0-clause-flood : goal.returns-then-batch-eq0-clause-flood
returns-then-batch-eq0-clause-flood c =
    let g = c.args.grid.now in
    let now = c.args.self.now in
    let free = c.index-free.result.now in
    let at : slice_get now.free.items c.args.span.number ≡ Some free = slice_get_read now.free.items (vec_len now.free) c.args.span.number free (search rules) (search rules) c.index-free.ensures in
    passed_spans g c.args.span c.args.seeds free c.rising-rising.result c.falling-falling.result c.filled-batch.result now c.requires.span c.requires.known c.requires.spans at (λ i set. set_below free i (search rules) set)
    c.rising-rising.ensures c.falling-falling.ensures c.filled-batch.ensures c.requires.flood c.if-batch-eq0.true

pub count-requires-clause-free : goal.count-requires-clause-free
count-requires-clause-free c =
    let g = c.args.grid.now in
    let now = c.args.self.now in
    let free = c.index-free.result.now in
    let at : slice_get now.free.items c.args.span.number ≡ Some free = slice_get_read now.free.items (vec_len now.free) c.args.span.number free (search rules) (search rules) c.index-free.ensures in
    (λ i set w at_w. subst (λ (z : ℕ). IsSet z i) (same_Some free w (sym at ∙ at_w)) (batch_free g c.args.span c.args.seeds free c.rising-rising.result c.falling-falling.result c.filled-batch.result now c.requires.span c.requires.known c.requires.spans at (λ i set. set_below free i (search rules) set)
    c.rising-rising.ensures c.falling-falling.ensures c.filled-batch.ensures c.requires.flood i set))

pub count-requires-clause-on_level : goal.count-requires-clause-on_level
count-requires-clause-on_level c =
    let g = c.args.grid.now in
    let now = c.args.self.now in
    let free = c.index-free.result.now in
    let at : slice_get now.free.items c.args.span.number ≡ Some free = slice_get_read now.free.items (vec_len now.free) c.args.span.number free (search rules) (search rules) c.index-free.ensures in
    batch_low g c.args.span c.args.seeds free c.rising-rising.result c.falling-falling.result c.filled-batch.result now c.requires.span c.requires.known c.requires.spans at (λ i set. set_below free i (search rules) set)
    c.rising-rising.ensures c.falling-falling.ensures c.filled-batch.ensures c.requires.flood

pub spread_within-requires-clause-inside : goal.spread_within-requires-clause-inside
spread_within-requires-clause-inside c =
    let g = c.args.grid.now in
    let now = c.args.self.now in
    let free = c.index-free.result.now in
    let at : slice_get now.free.items c.args.span.number ≡ Some free = slice_get_read now.free.items (vec_len now.free) c.args.span.number free (search rules) (search rules) c.index-free.ensures in
    free_inside g c.args.span c.filled-batch.result free now c.requires.span c.requires.spans c.requires.known at (search rules) (batch_free g c.args.span c.args.seeds free c.rising-rising.result c.falling-falling.result c.filled-batch.result now c.requires.span c.requires.known c.requires.spans at (λ i set. set_below free i (search rules) set)
    c.rising-rising.ensures c.falling-falling.ensures c.filled-batch.ensures c.requires.flood)

pub spread_within-requires-clause-shut_left : goal.spread_within-requires-clause-shut_left
spread_within-requires-clause-shut_left c =
    let g = c.args.grid.now in
    let now = c.args.self.now in
    let free = c.index-free.result.now in
    let at : slice_get now.free.items c.args.span.number ≡ Some free = slice_get_read now.free.items (vec_len now.free) c.args.span.number free (search rules) (search rules) c.index-free.ensures in
    shut_left g c.args.span c.args.seeds free c.rising-rising.result c.falling-falling.result c.filled-batch.result now c.requires.span c.requires.known c.requires.spans at (λ i set. set_below free i (search rules) set)
    c.rising-rising.ensures c.falling-falling.ensures c.filled-batch.ensures c.requires.flood
    c.count.new.self c.spread_down.new.self c.in_ok-count.ensures.counted (c.spread_down.ensures.marks ∙ c.spread_up.ensures.marks)
    (c.in_ok-spread_down.ensures.spread.kept.toward ∙ (c.in_ok-spread_up.ensures.spread.kept.toward ∙ c.in_ok-count.ensures.counted.toward))

pub spread_within-requires-clause-shut_right : goal.spread_within-requires-clause-shut_right
spread_within-requires-clause-shut_right c =
    let g = c.args.grid.now in
    let now = c.args.self.now in
    let free = c.index-free.result.now in
    let at : slice_get now.free.items c.args.span.number ≡ Some free = slice_get_read now.free.items (vec_len now.free) c.args.span.number free (search rules) (search rules) c.index-free.ensures in
    shut_right g c.args.span c.args.seeds free c.rising-rising.result c.falling-falling.result c.filled-batch.result now c.requires.span c.requires.known c.requires.spans at (λ i set. set_below free i (search rules) set)
    c.rising-rising.ensures c.falling-falling.ensures c.filled-batch.ensures c.requires.flood
    c.count.new.self c.spread_down.new.self c.in_ok-count.ensures.counted (c.spread_down.ensures.marks ∙ c.spread_up.ensures.marks)
    (c.in_ok-spread_down.ensures.spread.kept.toward ∙ (c.in_ok-spread_up.ensures.spread.kept.toward ∙ c.in_ok-count.ensures.counted.toward))

pub returns-clause-flood : goal.returns-clause-flood
returns-clause-flood c =
    let g = c.args.grid.now in
    let now = c.args.self.now in
    let free = c.index-free.result.now in
    let at : slice_get now.free.items c.args.span.number ≡ Some free = slice_get_read now.free.items (vec_len now.free) c.args.span.number free (search rules) (search rules) c.index-free.ensures in
    spread_spans g c.args.span c.args.seeds free c.rising-rising.result c.falling-falling.result c.filled-batch.result now c.requires.span c.requires.known c.requires.spans at (λ i set. set_below free i (search rules) set)
    c.rising-rising.ensures c.falling-falling.ensures c.filled-batch.ensures c.requires.flood
    c.count.new.self c.spread_up.new.self c.spread_down.new.self c.spread_right.new.self c.in_ok-count.ensures.counted
    c.in_ok-spread_up.ensures.spread c.in_ok-spread_down.ensures.spread
    (spread_row g c.args.span c.filled-batch.result c.spread_down.new.self c.spread_within.new.self c.spread_left.new.self c.spread_right.new.self
    c.in_ok-spread_within.ensures.spread c.in_ok-spread_left.ensures.spread c.in_ok-spread_right.ensures.spread)
    c.in_ok-count.ensures.spans.marks_fit
