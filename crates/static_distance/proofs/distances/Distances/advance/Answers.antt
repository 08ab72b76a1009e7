use Rattle.std.proofs.Common.{◌≡◌, ◌∙◌, ◌<◌, [], length, Some, List, sym, ap, subst, refl, rules, arith, vec_len, append-nil}
use Rattle.std.specs.Prelude.{slice_get}
use Rattle.std.specs.Vec.{with_item}
use Rattle.std.proofs.lemmas.Option.{slice_get_read}
use Rattle.static_distance.specs.declared.span.Span.{Span}
use Rattle.static_distance.specs.declared.place.Place.{Place}
use Rattle.static_distance.specs.Levels.{uncounted}
use Rattle.static_distance.specs.Marks.{marks_of}
use Rattle.static_distance.proofs.FloodLemmas.{no_items}
use Rattle.static_distance.proofs.TakeLemmas.{same_lists, taken_span, taken_known, taken_within, taken_spans, taken_flood}
use Rattle.static_distance.proofs.distances.Distances.advance.Goals as goal

pub index-seeds-requires : goal.index-seeds-requires
index-seeds-requires c =
    let r = c.rise.new.self in
    let within = taken_within c.args.grid.now r c.in-Some.span c.pop.new.self.items (c.rise.ensures.spans c.args.grid.now c.requires.spans) c.in-Some.ensures.items in
    let len : vec_len r.here.words ≡ length r.here.words.items = search rules in
    omega arith

pub index_mut-requires : goal.index_mut-requires
index_mut-requires c =
    let r = c.rise.new.self in
    let within = taken_within c.args.grid.now r c.in-Some.span c.pop.new.self.items (c.rise.ensures.spans c.args.grid.now c.requires.spans) c.in-Some.ensures.items in
    let len : vec_len r.here.words ≡ length r.here.words.items = search rules in
    omega arith

pub spread-requires-clause-span : goal.spread-requires-clause-span
spread-requires-clause-span c =
    taken_span c.args.grid.now c.rise.new.self c.in-Some.span c.pop.new.self.items (c.rise.ensures.spans c.args.grid.now c.requires.spans) c.in-Some.ensures.items

pub spread-requires-clause-known : goal.spread-requires-clause-known
spread-requires-clause-known c =
    taken_known c.args.grid.now c.rise.new.self c.in-Some.span c.pop.new.self.items (c.rise.ensures.spans c.args.grid.now c.requires.spans) c.in-Some.ensures.items

pub spread-requires-clause-spans : goal.spread-requires-clause-spans
spread-requires-clause-spans c =
    let r = c.rise.new.self in
    taken_spans c.args.grid.now r c.in-Some.span (record { words = with_item r.here.words c.in-Some.span.number 0; spans = c.pop.new.self }) (c.rise.ensures.spans c.args.grid.now c.requires.spans) c.in-Some.ensures.items refl

pub spread-requires-clause-flood : goal.spread-requires-clause-flood
spread-requires-clause-flood c =
    let r = c.rise.new.self in
    let within = taken_within c.args.grid.now r c.in-Some.span c.pop.new.self.items (c.rise.ensures.spans c.args.grid.now c.requires.spans) c.in-Some.ensures.items in
    let len : vec_len r.here.words ≡ length r.here.words.items = search rules in
    let at : slice_get r.here.words.items c.in-Some.span.number ≡ Some c.index-seeds.result.now =
    slice_get_read r.here.words.items (vec_len r.here.words) c.in-Some.span.number c.index-seeds.result.now len (omega arith) c.index-seeds.ensures in
    taken_flood c.args.grid.now r c.in-Some.span (record { words = with_item r.here.words c.in-Some.span.number 0; spans = c.pop.new.self }) (c.rise.ensures.spans c.args.grid.now c.requires.spans) c.in-Some.ensures.items refl
    c.index-seeds.result.now at (c.rise.ensures.flood c.args.grid.now c.requires.spans c.requires.flood)

pub returns-in_default-clause-aimed : goal.returns-in_default-clause-aimed
returns-in_default-clause-aimed c =
    let g = c.args.grid.now in
    let r = c.rise.new.self in
    let same : c.pop.new.self.items ≡ r.here.spans.items = sym (c.in_default.ensures.items ∙ append-nil c.pop.new.self.items) in
    let count : length c.pop.new.self.items ≡ length r.here.spans.items = ap (λ (xs : List Span). length xs) same in
    let len : vec_len r.here.spans ≡ length r.here.spans.items = search rules in
    let none : r.here.spans.items ≡ [] = no_items r.here.spans.items (sym len ∙ c.in_default.ensures.cases.0) in
    let more = c.rise.ensures.none none in
    let marks : uncounted (marks_of g r) ≡ uncounted (marks_of g c.args.self.now) = ap uncounted (c.rise.ensures.marks g) in
    record {
      near = subst (λ (p : Place). (p.column < 2048) × (p.row < 2048)) (sym c.rise.ensures.aim.toward) c.requires.near;
      bounded = omega (arith, c.requires.bounded, c.rise.ensures.count, more.level);
      spans = same_lists g r (record { words = r.here.words; spans = c.pop.new.self }) (c.rise.ensures.spans g c.requires.spans) refl same;
      flood = c.rise.ensures.flood g c.requires.spans c.requires.flood;
    }

pub returns-in_default-clause-none : goal.returns-in_default-clause-none
returns-in_default-clause-none c =
    let r = c.rise.new.self in
    let len : vec_len r.here.spans ≡ length r.here.spans.items = search rules in
    let none : r.here.spans.items ≡ [] = no_items r.here.spans.items (sym len ∙ c.in_default.ensures.cases.0) in
    let more = c.rise.ensures.none none in
    record { level = more.level; here = more.here; next = more.next }
