use Rattle.std.specs.Prelude.{Vec, ◌-◌, ◌<◌}
use Rattle.std.specs.Global.{Global}
use Rattle.std.proofs.Common.{arith, ap, sym, subst, ◌∙◌, ◌≡◌, ℕ, ◌*◌, Bool, true, length, replicate, refl}
use Rattle.std.proofs.lemmas.List.{length-replicate}
use Rattle.static_distance.specs.declared.distances.Distances.{Distances}
use Rattle.static_distance.specs.declared.layers.Layer.{Layer}
use Rattle.static_distance.specs.Levels.{apart, uncounted}
use Rattle.static_distance.specs.Marks.{marks_of}
use Rattle.static_distance.specs.declared.place.Place.{Place}
use Rattle.static_distance.specs.declared.span.Span.{Span}
use Rattle.static_distance.specs.Spans.{IsCellAt, AreSpans}
use Rattle.static_distance.specs.Aim.{room_of, AreFitting, HasLooked}
use Rattle.static_distance.proofs.MarkLemmas.{cleared_marks}
use Rattle.static_distance.proofs.AimLemmas.{all_left, fresh_spans, closed_flood, open_spans, open_flood}
use Rattle.static_distance.proofs.distances.Distances.aim.Goals as goal
use Rattle.static_distance.proofs.distances.Distances.aim.Goals.{After-clear-5}

-- as it is when all is cleared
module _ (c : After-clear-5) where
  abbrev cleared : Distances
  cleared = record {
    alloc = c.fit.new.self.alloc;
    goal = c.args.goal;
    toward = c.place_of-self.result;
    cells = c.fit.new.self.cells;
    known = c.clear-3.new.self;
    free = c.fit.new.self.free;
    few = c.fit.new.self.few;
    by_cell = c.clear.new.self;
    layers = c.clear-2.new.self;
    level = c.moves_between-self.result;
    here = record { words = c.fit.new.self.here.words; spans = c.clear-4.new.self };
    next = record { words = c.fit.new.self.next.words; spans = c.clear-5.new.self };
  }

  none_marked : marks_of c.args.grid.now cleared ≡ replicate (length c.args.grid.now.cells) 0
  none_marked =
      let now = c.args.self.now in
      cleared_marks c.args.grid.now cleared (length c.fit.new.self.known) c.clear-3.ensures
      (λ few.
      (let few_cells : now.few ≡ true = sym c.fit.ensures.few ∙ few in
      let cells : length c.fit.new.self.by_cell ≡ length c.args.grid.now.cells =
      ap length c.fit.ensures.listed ∙ (sym (ap (λ (b : Bool). room_of b now.by_cell now.cells) few_cells) ∙ c.requires.room) in
      c.clear.ensures ∙ ap (λ (n : ℕ). replicate n 0) cells))

  cleared_spans : AreSpans c.args.grid.now cleared
  cleared_spans =
      let g = c.args.grid.now in
      let spans = length c.fit.new.self.known in
      let known_fit : length c.clear-3.new.self ≡ spans = ap length c.clear-3.ensures ∙ length-replicate spans 0 in
      let layers_fit : length c.clear-2.new.self.newest.items ≡ length c.fit.new.self.layers.newest.items = ap (λ (v : Vec Layer Global). length v.items) c.clear-2.ensures.newest in
      let words = subst (λ (n : ℕ). AreFitting n c.fit.new.self) (ap (λ (n : ℕ). n * c.stride.result) c.height.ensures ∙ ap (λ (n : ℕ). g.height * n) c.stride.ensures.value) c.in_ok-fit.ensures.fit in
      fresh_spans g cleared spans c.clear-3.ensures none_marked (record { known = known_fit ∙ words.known; free = words.free; here = words.here; next = words.next; layers = λ many. layers_fit ∙ words.layers many })
      c.clear-2.ensures.older c.clear-4.ensures.items c.clear-5.ensures.items

pub look_at-requires-clause-spans : goal.look_at-requires-clause-spans
look_at-requires-clause-spans c = cleared_spans (goal.at.look_at-requires-clause-spans c).After-clear-5

pub returns-in_ok-add-clause-aimed : goal.returns-in_ok-add-clause-aimed
returns-in_ok-add-clause-aimed c =
    let g = c.args.grid.now in
    let w = (goal.at.returns-in_ok-add-clause-aimed c).After-clear-5 in
    let spans = length c.fit.new.self.known in
    let d = cleared w in
    let looked : HasLooked g c.span_at-span.result d c.look_at.new.self = c.look_at.ensures.looked in
    let place : IsCellAt g c.span_at-span.result (c.place_of-place.result.column - c.span_at-span.result.column) c.args.goal = c.span_at-span.ensures.held in
    let on_level : c.moves_between-self.result ≡ apart g c.place_of-self.result c.args.goal = omega (arith, c.moves_between-self.ensures.moves, c.place_of-place.ensures.place) in
    let all : uncounted (marks_of g c.look_at.new.self) ≡ length g.cells = ap uncounted looked.kept.marks ∙ all_left g d spans c.clear-3.ensures (none_marked w) in
    let none : length c.look_at.new.self.next.spans.items ≡ 0 = ap (λ (v : Vec Span Global). length v.items) looked.next_spans ∙ ap length c.clear-5.ensures.items in
    let none_here : length c.look_at.new.self.here.spans.items ≡ 0 = ap (λ (v : Vec Span Global). length v.items) looked.here_spans ∙ ap length c.clear-4.ensures.items in
    record {
      near = subst (λ (p : Place). (p.column < 2048) × (p.row < 2048)) (sym looked.kept.toward) c.place_of-self.ensures.near;
      bounded = omega (arith, c.moves_between-self.ensures.few, c.cells-limits.ensures.limits.area, c.cells-limits.ensures.limits.full, looked.kept.level, c.in_ok-add.ensures.more);
      spans = open_spans g d c.look_at.new.self c.span_at-span.result c.single.result (c.place_of-place.result.column - c.span_at-span.result.column) c.add.new.self spans c.clear-3.ensures (none_marked w)
          c.span_at-span.ensures.span looked c.in_ok-add.ensures.added c.add.ensures.words place c.single.ensures (c.if-is_open.ensures.0 refl);
      flood = open_flood g d c.look_at.new.self c.span_at-span.result c.single.result (c.place_of-place.result.column - c.span_at-span.result.column) c.add.new.self spans c.clear-3.ensures (none_marked w)
          c.span_at-span.ensures.span looked c.in_ok-add.ensures.added c.add.ensures.words place c.single.ensures (c.if-is_open.ensures.0 refl) on_level;
    }

pub returns-else-is_open-clause-aimed : goal.returns-else-is_open-clause-aimed
returns-else-is_open-clause-aimed c =
    let g = c.args.grid.now in
    let w = (goal.at.returns-else-is_open-clause-aimed c).After-clear-5 in
    let spans = length c.fit.new.self.known in
    let d = cleared w in
    let on_level : c.moves_between-self.result ≡ apart g c.place_of-self.result c.args.goal = omega (arith, c.moves_between-self.ensures.moves, c.place_of-place.ensures.place) in
    let all : uncounted (marks_of g d) ≡ length g.cells = all_left g d spans c.clear-3.ensures (none_marked w) in
    let count : length c.clear-4.new.self.items ≡ 0 = ap length c.clear-4.ensures.items in
    let none : length c.clear-5.new.self.items ≡ 0 = ap length c.clear-5.ensures.items in
    record {
      near = c.place_of-self.ensures.near;
      bounded = omega (arith, c.moves_between-self.ensures.few, c.cells-limits.ensures.limits.area, c.cells-limits.ensures.limits.full);
      spans = cleared_spans w;
      flood = closed_flood g d spans c.clear-3.ensures (none_marked w) on_level (λ opened. (let bad = c.if-is_open.ensures.1 opened in absurd (cc)));
    }
