use Rattle.std.proofs.Common.{rules, arith, ap, sym, ◌∙◌, ◌≡◌, ◌<◌, ◌-◌, length, vec_len, Some}
use Rattle.std.proofs.lemmas.Option.{slice_get_within, get_or_from_slice_get}
use Rattle.safe_intervals.specs.Safe.{IsIn}
use Rattle.sipp_search.specs.declared.states.State.{State}
use Rattle.sipp_search.specs.declared.states.Spot.{Spot}
use Rattle.sipp_search.specs.Marks.{spots_of}
use Rattle.sipp_search.proofs.Chains.{along_first, along_none, along_state, along_past, older_less}
use Rattle.sipp_search.proofs.chain.place_at.Goals as goal

pub loop-next-init : goal.loop-next-init
loop-next-init c =
    along_first (spots_of c.args.arena.now.states.items) c.args.arena.now.newest c.args.cell (λ (p : Spot). IsIn c.args.time p.interval) c.requires.chained _ c.get-next.ensures

pub index-state-requires : goal.index-state-requires
index-state-requires c =
    let some : 0 < c.loop-next.next = omega (arith, c.loop-next-test.true) in
    let state = along_state c.args.arena.now.states.items c.args.arena.now.newest c.args.cell c.requires.chained (λ (p : Spot). IsIn c.args.time p.interval) c.loop-next.next some c.loop-next.invariant in
    let len : vec_len c.args.arena.now.states ≡ length c.args.arena.now.states.items = search rules in
    omega (arith, slice_get_within c.args.arena.now.states.items (c.loop-next.next - 1) state.0 state.1)

pub returns-then-holds-clause-some : goal.returns-then-holds-clause-some
returns-then-holds-clause-some c =
    let some : 0 < c.loop-next.next = omega (arith, c.loop-next-test.true) in
    let state = along_state c.args.arena.now.states.items c.args.arena.now.newest c.args.cell c.requires.chained (λ (p : Spot). IsIn c.args.time p.interval) c.loop-next.next some c.loop-next.invariant in
    let mine : c.index-state.result.now ≡ state.0 = c.index-state.ensures ∙ get_or_from_slice_get c.args.arena.now.states.items (c.loop-next.next - 1) state.0 c.index-state.result.now state.1 in (
      c.index-state.result.now,
      state.1 ∙ ap (λ (z : State). Some z) (sym mine),
      ap (λ (z : State). z.spot.cell) mine ∙ state.2,
      c.if-holds.ensures.yes,
    )

pub loop-next-smaller : goal.loop-next-smaller
loop-next-smaller c =
    let some : 0 < c.loop-next.next = omega (arith, c.loop-next-test.true) in
    let state = along_state c.args.arena.now.states.items c.args.arena.now.newest c.args.cell c.requires.chained (λ (p : Spot). IsIn c.args.time p.interval) c.loop-next.next some c.loop-next.invariant in
    let mine : c.index-state.result.now ≡ state.0 = c.index-state.ensures ∙ get_or_from_slice_get c.args.arena.now.states.items (c.loop-next.next - 1) state.0 c.index-state.result.now state.1 in
    older_less c.args.arena.now.states.items c.args.arena.now.newest c.args.cell c.requires.chained c.loop-next.next c.index-state.result.now some (state.1 ∙ ap (λ (z : State). Some z) (sym mine))

pub loop-next-preserved : goal.loop-next-preserved
loop-next-preserved c =
    let some : 0 < c.loop-next.next = omega (arith, c.loop-next-test.true) in
    let state = along_state c.args.arena.now.states.items c.args.arena.now.newest c.args.cell c.requires.chained (λ (p : Spot). IsIn c.args.time p.interval) c.loop-next.next some c.loop-next.invariant in
    let mine : c.index-state.result.now ≡ state.0 = c.index-state.ensures ∙ get_or_from_slice_get c.args.arena.now.states.items (c.loop-next.next - 1) state.0 c.index-state.result.now state.1 in
    along_past c.args.arena.now.states.items c.args.arena.now.newest c.args.cell c.requires.chained (λ (p : Spot). IsIn c.args.time p.interval) c.loop-next.next c.index-state.result.now some c.loop-next.invariant
    (state.1 ∙ ap (λ (z : State). Some z) (sym mine)) c.if-holds.ensures.no

pub returns-clause-none : goal.returns-clause-none
returns-clause-none c =
    along_none (spots_of c.args.arena.now.states.items) c.args.arena.now.newest c.args.cell (λ (p : Spot). IsIn c.args.time p.interval) c.requires.chained c.loop-next.next (omega (arith, c.loop-next-test.false)) c.loop-next.invariant
