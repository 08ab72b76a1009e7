use Rattle.std.proofs.Common.{◌-◌, ◌≤◌, refl, sym, ◌∙◌, arith}
use Rattle.std.specs.Vec.{with_item}
use Rattle.std.proofs.lemmas.Bool.{false≢true}
use Rattle.std.proofs.lemmas.Result.{on_ok_weaker}
use Rattle.static_distance.specs.declared.distances.Distances.{Distances}
use Rattle.static_distance.specs.Levels.{gap}
use Rattle.static_distance.specs.Marks.{marks_of}
use Rattle.static_distance.specs.Layers.{HasLayer}
use Rattle.static_distance.proofs.SpanLemmas.{span_inside}
use Rattle.static_distance.proofs.CountLemmas.{HasMarked, first_number, low_row, list_has, list_marked, layer_marked, has_counted, fewer_left, layers_after, spans_after}
use Rattle.static_distance.proofs.distances.Distances.count.Goals as goal
use Rattle.static_distance.proofs.distances.Distances.count.Goals.{After-add, After-mark_each}

pub add-requires-clause-inside : goal.add-requires-clause-inside
add-requires-clause-inside c = omega (arith, (c.requires.spans.layered c.if-not-self.true).fit, span_inside c.args.grid.now c.args.span c.requires.span)

pub add-requires-clause-few : goal.add-requires-clause-few
add-requires-clause-few c = omega (arith, (c.requires.spans.layered c.if-not-self.true).few, c.cells-limits.ensures.limits.area, c.cells-limits.ensures.limits.full)

pub add-requires-clause-falling : goal.add-requires-clause-falling
add-requires-clause-falling c = (c.requires.spans.layered c.if-not-self.true).falling

pub add-requires-clause-linked : goal.add-requires-clause-linked
add-requires-clause-linked c = (c.requires.spans.layered c.if-not-self.true).linked c.args.span.number c.requires.known

pub overflow_sub-reach : goal.overflow_sub-reach
overflow_sub-reach c =
    let low : gap c.args.span.row c.args.self.now.toward.row ≤ c.args.self.now.level =
    low_row _ _ _ _ c.requires.span c.requires.spans c.requires.known c.ranges.word.fits c.requires.free c.requires.on_level _ refl c.requires.some in
    omega arith

pub mark_each-requires-clause-inside : goal.mark_each-requires-clause-inside
mark_each-requires-clause-inside c =
    list_has _ _ _ _ c.requires.span c.requires.spans c.requires.known c.ranges.word.fits c.requires.free c.requires.on_level _ (first_number c.args.grid.now c.args.span _ c.width.ensures) c.if-not-self.false

-- as it is when the cells of the word are in a layer
module _ (c : After-add) where
  abbrev layered : Distances
  layered = record c.args.self.now { free = with_item c.args.self.now.free c.args.span.number c.without.result; layers = c.add.new.self }

  layered_marked : HasLayer c.args.span.number c.args.word c.args.self.now.level c.args.self.now.layers c.add.new.self → HasMarked c.args.grid.now c.args.span c.args.word c.args.self.now (marks_of c.args.grid.now layered)
  layered_marked layer = layer_marked _ _ _ _ c.requires.span c.requires.spans c.requires.known c.ranges.word.fits c.requires.free c.requires.on_level c.if-not-self.true c.add.new.self layer layered refl refl refl refl

pub returns-then-not-self-clause-counted : goal.returns-then-not-self-clause-counted
returns-then-not-self-clause-counted c =
    let w = (goal.at.returns-then-not-self-clause-counted c).After-add in
    on_ok_weaker c.add.result (λ layer. has_counted _ _ _ _ c.requires.span c.requires.spans c.requires.known c.ranges.word.fits c.requires.free c.requires.on_level (layered w) (layered_marked w layer)) c.add.ensures

pub returns-then-not-self-clause-spans : goal.returns-then-not-self-clause-spans
returns-then-not-self-clause-spans c =
    let w = (goal.at.returns-then-not-self-clause-spans c).After-add in
    on_ok_weaker c.add.result
    (λ layer. spans_after _ _ _ _ c.requires.span c.requires.spans c.requires.known c.ranges.word.fits c.requires.free c.requires.on_level (layered w) (layered_marked w layer) _ _ c.index.ensures c.without.ensures refl
    (λ many. layers_after _ _ _ _ c.requires.span c.requires.spans c.requires.known c.ranges.word.fits c.requires.free c.requires.on_level (layered w) (layered_marked w layer) many c.requires.some layer))
    c.add.ensures

pub returns-then-not-self-clause-less : goal.returns-then-not-self-clause-less
returns-then-not-self-clause-less c =
    let w = (goal.at.returns-then-not-self-clause-less c).After-add in
    on_ok_weaker c.add.result (λ layer. fewer_left _ _ _ _ c.requires.span c.requires.spans c.requires.known c.ranges.word.fits c.requires.free c.requires.on_level (layered w) (layered_marked w layer) c.requires.some) c.add.ensures

-- as it is when they are marked in the list
module _ (c : After-mark_each) where
  abbrev listed : Distances
  listed = record c.args.self.now { free = with_item c.args.self.now.free c.args.span.number c.without.result; by_cell = c.mark_each.new.marks }

  listed_marked : HasMarked c.args.grid.now c.args.span c.args.word c.args.self.now (marks_of c.args.grid.now listed)
  listed_marked =
      let now = c.args.self.now in
      let low : gap c.args.span.row now.toward.row ≤ now.level = low_row _ _ _ _ c.requires.span c.requires.spans c.requires.known c.ranges.word.fits c.requires.free c.requires.on_level _ refl c.requires.some in
      list_marked _ _ _ _ c.requires.span c.requires.spans c.requires.known c.ranges.word.fits c.requires.free c.requires.on_level _ (first_number c.args.grid.now c.args.span _ c.width.ensures) c.if-not-self.false listed
      (now.level - c.abs_diff.result) refl (omega arith) c.mark_each.ensures.count c.mark_each.ensures.marked c.mark_each.ensures.others

pub returns-clause-counted : goal.returns-clause-counted
returns-clause-counted c = (let w = (goal.at.returns-clause-counted c).After-mark_each in has_counted _ _ _ _ c.requires.span c.requires.spans c.requires.known c.ranges.word.fits c.requires.free c.requires.on_level (listed w) (listed_marked w))

pub returns-clause-spans : goal.returns-clause-spans
returns-clause-spans c =
    let w = (goal.at.returns-clause-spans c).After-mark_each in
    spans_after _ _ _ _ c.requires.span c.requires.spans c.requires.known c.ranges.word.fits c.requires.free c.requires.on_level (listed w) (listed_marked w) _ _ c.index.ensures c.without.ensures refl (λ many. absurd (false≢true (sym many ∙ c.if-not-self.false)))

pub returns-clause-less : goal.returns-clause-less
returns-clause-less c = (let w = (goal.at.returns-clause-less c).After-mark_each in fewer_left _ _ _ _ c.requires.span c.requires.spans c.requires.known c.ranges.word.fits c.requires.free c.requires.on_level (listed w) (listed_marked w) c.requires.some)
