use Rattle.std.proofs.Common.{◌≡◌, ℕ, ◌+◌, ◌-◌, ◌%◌, ◌<◌, length, true, sym, ap, subst, ◌∙◌, arith}
use Rattle.std.proofs.lemmas.Option.{slice_get_within}
use Rattle.static_distance.specs.Levels.{IsCounted, gap, apart}
use Rattle.static_distance.specs.Marks.{marks_of}
use Rattle.static_distance.proofs.Places.{at_place}
use Rattle.static_distance.proofs.SpanLemmas.{span_inside}
use Rattle.static_distance.proofs.FloodLemmas.{counted_span, counted_level, counted_moves}
use Rattle.static_distance.proofs.distances.Distances.moves_of.Goals as goal

pub level_at-level-requires-clause-inside : goal.level_at-level-requires-clause-inside
level_at-level-requires-clause-inside c = (
  omega (arith, (c.requires.spans.layered c.requires.many).fit, span_inside c.args.grid.now c.span_at-span.result c.span_at-span.ensures.span),
  c.span_at-span.ensures.held.0,
)

pub level_at-level-requires-clause-linked : goal.level_at-level-requires-clause-linked
level_at-level-requires-clause-linked c =
    let s = c.span_at-span.result in
    (c.requires.spans.layered c.requires.many).linked s.number
    (counted_span c.args.grid.now c.args.self.now s (c.args.place.column - s.column) c.args.cell c.requires.spans c.span_at-span.ensures.span c.span_at-span.ensures.held c.requires.cell c.requires.many c.requires.counted)

pub level_at-level-requires-clause-counted : goal.level_at-level-requires-clause-counted
level_at-level-requires-clause-counted c =
    let s = c.span_at-span.result in
    counted_level c.args.grid.now c.args.self.now s (c.args.place.column - s.column) c.args.cell c.requires.spans c.span_at-span.ensures.span c.span_at-span.ensures.held c.requires.cell c.requires.many c.requires.counted

pub moves_between-requires-clause-from : goal.moves_between-requires-clause-from
moves_between-requires-clause-from c =
    let inside : c.args.cell.0 < length c.args.grid.now.cells = slice_get_within c.args.grid.now.cells c.args.cell.0 true c.requires.cell in
    let limits = c.cells-limits.ensures.limits in
    let at = at_place c.args.grid.now c.args.cell c.args.place limits inside c.requires.place in
    (omega (arith, at.0, limits.wide), omega (arith, at.1, limits.high))

pub returns : goal.returns
returns c =
    let g = c.args.grid.now in
    let d = c.args.self.now in
    let s = c.span_at-span.result in
    let toward = d.toward in
    let away : c.moves_between.result ≡ apart g toward c.args.cell =
    c.moves_between.ensures.moves
    ∙ (ap (λ (n : ℕ). gap n toward.column + gap c.args.place.row toward.row) c.requires.place.0
    ∙ ap (λ (n : ℕ). gap (c.args.cell.0 % g.width) toward.column + gap n toward.row) c.requires.place.1) in
    let moves : c.level_at-level.result - apart g toward c.args.cell ≡ c.saturating_sub.result = ap (λ (n : ℕ). c.level_at-level.result - n) (sym away) ∙ sym c.saturating_sub.ensures in
    subst (λ (k : ℕ). IsCounted (marks_of g d) c.args.cell k) moves
    (counted_moves g d s (c.args.place.column - s.column) c.args.cell c.requires.spans c.span_at-span.ensures.span c.span_at-span.ensures.held c.requires.cell c.requires.many c.requires.counted c.level_at-level.result c.level_at-level.ensures)

pub level_at-level-requires-clause-falling : goal.level_at-level-requires-clause-falling
level_at-level-requires-clause-falling c = (c.requires.spans.layered c.requires.many).falling
