use Rattle.std.proofs.Common.{rules, arith, subst, sym, ap, ◌∙◌, ◌≡◌, length, vec_len, Some, slice_get}
use Rattle.std.proofs.lemmas.Option.{slice_get_within, get_or_from_slice_get}
use Rattle.safe_intervals.specs.Safe.{IsIn}
use Rattle.sipp_search.specs.declared.states.State.{State}
use Rattle.sipp_search.proofs.Backward.{none_final, none_holds, arrival_some, arrival_none}
use Rattle.sipp_search.proofs.back.last_arrival.Goals as goal

pub returns-in_err-place-clause-none : goal.returns-in_err-place-clause-none
returns-in_err-place-clause-none c =
    none_holds c.from_residual.result _ (λ known size sound has.
    none_final c.args.arena.now.states.items c.args.cell c.args.time c.in_err-place.ensures.none has)

pub index-requires : goal.index-requires
index-requires c =
    let there = c.in_ok-place.ensures.some in
    let len : vec_len c.args.arena.now.states ≡ length c.args.arena.now.states.items = search rules in
    omega (arith, slice_get_within c.args.arena.now.states.items c.in_ok-place.place there.0 there.1)

pub returns-clause-some : goal.returns-clause-some
returns-clause-some c =
    let there = c.in_ok-place.ensures.some in
    let mine : c.index.result.now ≡ there.0 = c.index.ensures ∙ get_or_from_slice_get c.args.arena.now.states.items c.in_ok-place.place there.0 c.index.result.now there.1 in
    let at : slice_get c.args.arena.now.states.items c.in_ok-place.place ≡ Some c.index.result.now = there.1 ∙ ap (λ (z : State). Some z) (sym mine) in
    arrival_some c.args.arena.now.states.items c.args.cell c.args.time c.in_ok-place.place c.index.result.now c.arrival_until.result at (ap (λ (z : State). z.spot.cell) mine ∙ there.2)
    c.arrival_until.ensures.some

pub returns-clause-none : goal.returns-clause-none
returns-clause-none c =
    let there = c.in_ok-place.ensures.some in
    let mine : c.index.result.now ≡ there.0 = c.index.ensures ∙ get_or_from_slice_get c.args.arena.now.states.items c.in_ok-place.place there.0 c.index.result.now there.1 in
    let at : slice_get c.args.arena.now.states.items c.in_ok-place.place ≡ Some c.index.result.now = there.1 ∙ ap (λ (z : State). Some z) (sym mine) in
    arrival_none c.args.task.now.grid.now c.args.task.now.request c.args.task.now.horizon c.args.arena.now c.args.cell c.args.time c.in_ok-place.place c.index.result.now c.arrival_until.result at
    (ap (λ (z : State). z.spot.cell) mine ∙ there.2) (subst (λ (z : State). IsIn c.args.time z.spot.interval) (sym mine) there.3) c.arrival_until.ensures.none
