use Rattle.std.proofs.Common.{subst, sym, ap, ◌∙◌, refl, ◌≡◌, List, Some, slice_get, slice_set}
use Rattle.sipp_search.specs.declared.states.Spot.{Spot}
use Rattle.sipp_search.specs.declared.states.State.{State}
use Rattle.sipp_search.specs.Marks.{spots_of, unseen, final, final_count, offered}
use Rattle.sipp_search.specs.Progress.{IsUnderWay}
use Rattle.sipp_search.proofs.Marking.{count-unseen, offered_improves}
use Rattle.sipp_search.proofs.Blocks.{spots_right}
use Rattle.sipp_search.proofs.Chains.{stands_added}
use Rattle.sipp_search.proofs.Beginning.{start_spot, start_of_arena, first_state, one_unseen, no_spot, unseen_not_final, begun_way}
use Rattle.sipp_search.proofs.Serving.{sound_added, sound_offered}
use Rattle.sipp_search.proofs.begin.begin_in.Goals as goal

pub returns-clause-sound : goal.returns-clause-sound
returns-clause-sound g c =
    let terrain = c.args.task.now.grid.now in
    let q = c.args.task.now.request in
    let horizon = c.args.task.now.horizon in
    let known = g.V.CalendarView.known c.args.view.now in
    let size = g.V.CalendarView.size c.args.view.now in
    let spot : Spot = start_spot q c.args.interval c.args.left c.args.place in
    let added = c.in_ok-id.ensures.states in
    let s : State = unseen (record spot { older = added.0 }) in
    let at : slice_get c.add_state.new.arena.states.items c.in_ok-id.id ≡ Some s =
    stands_added c.args.arena.now.states.items c.add_state.new.arena.states.items s c.in_ok-id.id added.2 c.in_ok-id.ensures.place in
    let states : c.offer.new.states.items ≡ slice_set c.add_state.new.arena.states.items c.in_ok-id.id (offered s q.depart) = c.in_ok-offer.ensures.states s at in
    let sound = sound_added terrain q horizon known size c.args.arena.now c.add_state.new.arena spot added.0 c.requires.sound
    (start_of_arena terrain q horizon known c.args.interval c.args.left c.args.place c.requires.known c.requires.safe c.requires.distance c.requires.place)
    (λ i r there cell same. no_spot c.args.arena.now.states.items c.requires.none i r there) added.1 added.2 c.in_ok-id.ensures.newest c.in_ok-id.ensures.queue c.in_ok-id.ensures.distances in
    sound_offered terrain q horizon known size c.add_state.new.arena (record c.add_state.new.arena { states = c.offer.new.states; queue = c.offer.new.queue }) c.in_ok-id.id q.depart s
    sound at states c.in_ok-offer.ensures.queue refl refl

pub returns-clause-none_final : goal.returns-clause-none_final
returns-clause-none_final g c = λ i r p there.
    (let q = c.args.task.now.request in
    let spot : Spot = start_spot q c.args.interval c.args.left c.args.place in
    let added = c.in_ok-id.ensures.states in
    let s : State = unseen (record spot { older = added.0 }) in
    let at : slice_get c.add_state.new.arena.states.items c.in_ok-id.id ≡ Some s =
    stands_added c.args.arena.now.states.items c.add_state.new.arena.states.items s c.in_ok-id.id added.2 c.in_ok-id.ensures.place in
    let states : c.offer.new.states.items ≡ slice_set c.add_state.new.arena.states.items c.in_ok-id.id (offered s q.depart) = c.in_ok-offer.ensures.states s at in
    let none = one_unseen c.add_state.new.arena.states.items s.spot (first_state c.args.arena.now.states.items c.add_state.new.arena.states.items s c.requires.none added.2) in
    unseen_not_final c.add_state.new.arena.states.items none i r p
    ((offered_improves c.add_state.new.arena.states.items c.in_ok-id.id q.depart s at).no_more i r p (subst (λ (xs : List State). slice_get xs i ≡ Some (final p r)) states there)))

pub returns-clause-none_counted : goal.returns-clause-none_counted
returns-clause-none_counted g c =
    let q = c.args.task.now.request in
    let spot : Spot = start_spot q c.args.interval c.args.left c.args.place in
    let added = c.in_ok-id.ensures.states in
    let s : State = unseen (record spot { older = added.0 }) in
    let at : slice_get c.add_state.new.arena.states.items c.in_ok-id.id ≡ Some s =
    stands_added c.args.arena.now.states.items c.add_state.new.arena.states.items s c.in_ok-id.id added.2 c.in_ok-id.ensures.place in
    let states : c.offer.new.states.items ≡ slice_set c.add_state.new.arena.states.items c.in_ok-id.id (offered s q.depart) = c.in_ok-offer.ensures.states s at in
    let none = one_unseen c.add_state.new.arena.states.items s.spot (first_state c.args.arena.now.states.items c.add_state.new.arena.states.items s c.requires.none added.2) in
    ap final_count states
    ∙ ((offered_improves c.add_state.new.arena.states.items c.in_ok-id.id q.depart s at).count ∙ count-unseen c.add_state.new.arena.states.items none)

pub returns-clause-way : goal.returns-clause-way
returns-clause-way g c = λ a x agrees.
    (let terrain = c.args.task.now.grid.now in
    let q = c.args.task.now.request in
    let horizon = c.args.task.now.horizon in
    let known = g.V.CalendarView.known c.args.view.now in
    let size = g.V.CalendarView.size c.args.view.now in
    let spot : Spot = start_spot q c.args.interval c.args.left c.args.place in
    let added = c.in_ok-id.ensures.states in
    let s : State = unseen (record spot { older = added.0 }) in
    let at : slice_get c.add_state.new.arena.states.items c.in_ok-id.id ≡ Some s =
    stands_added c.args.arena.now.states.items c.add_state.new.arena.states.items s c.in_ok-id.id added.2 c.in_ok-id.ensures.place in
    let states : c.offer.new.states.items ≡ slice_set c.add_state.new.arena.states.items c.in_ok-id.id (offered s q.depart) = c.in_ok-offer.ensures.states s at in
    let sound = sound_added terrain q horizon known size c.args.arena.now c.add_state.new.arena spot added.0 c.requires.sound
    (start_of_arena terrain q horizon known c.args.interval c.args.left c.args.place c.requires.known c.requires.safe c.requires.distance c.requires.place)
    (λ i r there cell same. no_spot c.args.arena.now.states.items c.requires.none i r there) added.1 added.2 c.in_ok-id.ensures.newest c.in_ok-id.ensures.queue c.in_ok-id.ensures.distances in
    let none = one_unseen c.add_state.new.arena.states.items s.spot (first_state c.args.arena.now.states.items c.add_state.new.arena.states.items s c.requires.none added.2) in
    let way = begun_way terrain q horizon a c.add_state.new.arena.states.items x c.in_ok-id.id s c.requires.ready.bound none
    (spots_right terrain q.goal horizon known (spots_of c.add_state.new.arena.states.items) c.add_state.new.arena.newest q a refl sound.arranged agrees) at refl c.requires.inside c.requires.in_time in
    subst (λ (xs : List State). IsUnderWay terrain q horizon a xs 0 x) (sym states) way)
