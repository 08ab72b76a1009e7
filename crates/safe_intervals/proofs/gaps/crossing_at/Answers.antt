use Rattle.std.proofs.Common.{arith, sym, ap, length, ◌∙◌}
use Rattle.std.proofs.lemmas.Bool.{eqb-true}
use Rattle.std.specs.Prelude.{List}
use Rattle.fleet_base.specs.declared.request.Record.{Record}
use Rattle.calendars.proofs.PlaceLemmas.{place_within}
use Rattle.safe_intervals.proofs.Exchange.{none_leaves, nobody_comes, told_by_ids, none_by_begins, none_by_ends}
use Rattle.safe_intervals.proofs.gaps.crossing_at.Goals.{then-leaves-time, else-leaves-time, then-begun-eq0-via-then-begun-eq0, then-begun-eq0-via-else-begun-eq0+then-before-comers}
use Rattle.safe_intervals.proofs.gaps.crossing_at.Goals as goal

pub returns-then-begun-eq0 : goal.returns-then-begun-eq0
returns-then-begun-eq0 c = elim c.then-begun-eq0.branch [
  | then-begun-eq0-via-then-begun-eq0 w ↦
      sym (none_leaves c.args.from.now c.args.to.now c.args.time c.records-leavers.ensures.ordered (omega (arith, w.if-begun-eq0.true, c.requires.begun)))
  | then-begun-eq0-via-else-begun-eq0+then-before-comers w ↦
      sym (nobody_comes c.args.from.now c.args.to.now c.args.time (omega (arith, w.if-before-comers.true, c.requires.before, ap (λ (rs : List Record). length rs) c.records-comers.ensures.value)))
]

pub offset_bounds-leavers-begun : goal.offset_bounds-leavers-begun
offset_bounds-leavers-begun c =
    omega (arith, c.requires.begun, place_within c.args.time c.args.to.now, ap (λ (rs : List Record). length rs) c.records-leavers.ensures.value, c.records-leavers.type_inv)

pub bounds-leavers-begun : goal.bounds-leavers-begun
bounds-leavers-begun c =
    omega (arith, c.requires.begun, c.if-begun-eq0.false, place_within c.args.time c.args.to.now, ap (λ (rs : List Record). length rs) c.records-leavers.ensures.value)

pub returns-then-comes-time : goal.returns-then-comes-time
returns-then-comes-time c = elim c.if-leaves-time.branch [
  | then-leaves-time w ↦
      c.eq.ensures ∙ told_by_ids c.args.from.now c.args.to.now _ _ c.args.time c.args.before c.args.begun c.records-comers.ensures.value c.records-leavers.ensures.value
      c.records-comers.ensures.ordered c.records-leavers.ensures.ordered c.requires.before c.requires.begun c.if-begun-eq0.false c.if-before-comers.false
      _ _ w.if-leaves-time.true (sym w.value-is ∙ c.if-comes-time.true)
  | else-leaves-time w ↦ absurd (w.if-leaves-time.false (eqb-true _ c.args.time (sym w.value-is ∙ c.if-comes-time.true)))
]

pub returns-else-comes-time : goal.returns-else-comes-time
returns-else-comes-time c = elim c.if-leaves-time.branch [
  | then-leaves-time w ↦
      c.if-comes-time.false ∙ sym (none_by_begins c.args.from.now c.args.to.now _ _ c.args.time c.args.before c.args.begun c.records-comers.ensures.value c.records-leavers.ensures.value
      c.records-comers.ensures.ordered c.records-leavers.ensures.ordered c.requires.before c.requires.begun c.if-begun-eq0.false c.if-before-comers.false
      _ (sym w.value-is ∙ c.if-comes-time.false))
  | else-leaves-time w ↦
      c.if-comes-time.false ∙ sym (none_by_ends c.args.from.now c.args.to.now _ _ c.args.time c.args.before c.args.begun c.records-comers.ensures.value c.records-leavers.ensures.value
      c.records-comers.ensures.ordered c.records-leavers.ensures.ordered c.requires.before c.requires.begun c.if-begun-eq0.false c.if-before-comers.false
      _ (sym w.value-is ∙ c.if-comes-time.false))
]
