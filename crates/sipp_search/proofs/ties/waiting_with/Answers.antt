use Rattle.std.proofs.Common.{arith, sym, ap, ◌∙◌, ◌≡◌, ◌+◌, Some}
use Rattle.std.proofs.lemmas.Option.{same_Some}
use Rattle.sipp_search.specs.declared.states.State.{State}
use Rattle.sipp_search.specs.Marks.{queued}
use Rattle.sipp_search.proofs.Nearby.{state_there, state_inside}
use Rattle.sipp_search.proofs.ties.waiting_with.Goals as goal

pub returns-in_err-arrival-clause-none : goal.returns-in_err-arrival-clause-none
returns-in_err-arrival-clause-none c =
    let at = state_there c.args.arena.now.states.items c.args.id c.index-state.result.now c.index-state.result.now c.index-state.ensures (omega (arith, c.if-id-len.false, c.len.ensures)) in
    rw c.from_residual.ensures (λ p r is.
    (let same : c.index-state.result.now ≡ queued p r = same_Some c.index-state.result.now (queued p r) (sym at ∙ is) in
    λ key. c.in_err-arrival.ensures.none r (same ∙ ap (λ (z : State). queued z.spot r) (sym same)) (ap (λ (z : State). r + z.spot.left) same ∙ key)))

pub place_of-requires : goal.place_of-requires
place_of-requires c =
    state_inside c.args.task.now.grid.now c.args.task.now.request c.args.task.now.horizon c.requires.sound.0 c.requires.sound.1 c.args.arena.now c.args.id c.index-state.result.now c.requires.sound.2
    (state_there c.args.arena.now.states.items c.args.id c.index-state.result.now c.index-state.result.now c.index-state.ensures (omega (arith, c.if-id-len.false, c.len.ensures)))

pub returns-clause-some : goal.returns-clause-some
returns-clause-some c =
    let at = state_there c.args.arena.now.states.items c.args.id c.index-state.result.now c.index-state.result.now c.index-state.ensures (omega (arith, c.if-id-len.false, c.len.ensures)) in
    (c.index-state.result.now.spot, at ∙ ap (λ (z : State). Some z) c.in_ok-arrival.ensures.some.0, c.in_ok-arrival.ensures.some.1, c.place_of.ensures.place, c.place_of.ensures.near.0, c.place_of.ensures.near.1)
