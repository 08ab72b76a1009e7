use Rattle.std.proofs.Common.{rules, arith, subst, sym, ap, ◌∙◌, refl, ◌≡◌, ◌≤◌, ◌+◌, ℕ, List, Option, length, vec_len, Some, set}
use Rattle.std.proofs.lemmas.Option.{slice_get_within, get_or_from_slice_get}
use Rattle.sipp_search.specs.declared.states.Spot.{Spot}
use Rattle.sipp_search.specs.declared.states.State.{State}
use Rattle.sipp_search.specs.declared.states.Mark.TheVariants.{Queued}
use Rattle.sipp_search.specs.Marks.{keys_of, queued, final}
use Rattle.sipp_search.proofs.Marking.{took_least, took_none}
use Rattle.sipp_search.proofs.run.settle_next.Goals as goal

pub returns-in_default-clause-above : goal.returns-in_default-clause-above
returns-in_default-clause-above c = took_none c.args.arena.now.states.items c.args.arena.now.queue c.take.new.self c.args.limit c.requires c.in_default.ensures.none

pub index-state-requires : goal.index-state-requires
index-state-requires c =
    let took = took_least c.args.arena.now.states.items c.args.arena.now.queue c.take.new.self c.args.limit c.in-Some.id c.requires c.in-Some.ensures.some in
    let len : vec_len c.args.arena.now.states ≡ length c.args.arena.now.states.items = search rules in
    omega (arith, slice_get_within c.args.arena.now.states.items c.in-Some.id (queued took.spot took.arrival) took.was)

pub unreachable-requires : goal.unreachable-requires
unreachable-requires c =
    let took = took_least c.args.arena.now.states.items c.args.arena.now.queue c.take.new.self c.args.limit c.in-Some.id c.requires c.in-Some.ensures.some in
    let same : c.index-state.result.now ≡ queued took.spot took.arrival = c.index-state.ensures ∙ get_or_from_slice_get c.args.arena.now.states.items c.in-Some.id (queued took.spot took.arrival) c.index-state.result.now took.was in
    c.in_default-mark.not-Queued took.arrival (ap (λ (z : State). z.mark) same)

pub index_mut-requires : goal.index_mut-requires
index_mut-requires c =
    let took = took_least c.args.arena.now.states.items c.args.arena.now.queue c.take.new.self c.args.limit c.in-Some.id c.requires c.in-Some.ensures.some in
    let len : vec_len c.args.arena.now.states ≡ length c.args.arena.now.states.items = search rules in
    omega (arith, slice_get_within c.args.arena.now.states.items c.in-Some.id (queued took.spot took.arrival) took.was)

pub returns-clause-some : goal.returns-clause-some
returns-clause-some c =
    let took = took_least c.args.arena.now.states.items c.args.arena.now.queue c.take.new.self c.args.limit c.in-Some.id c.requires c.in-Some.ensures.some in
    let same : c.index-state.result.now ≡ queued took.spot took.arrival = c.index-state.ensures ∙ get_or_from_slice_get c.args.arena.now.states.items c.in-Some.id (queued took.spot took.arrival) c.index-state.result.now took.was in
    let spot : took.spot ≡ c.index-state.result.now.spot = sym (ap (λ (z : State). z.spot) same) in
    let time : took.arrival ≡ c.in-Queued.arrival = (let marks : Queued took.arrival ≡ Queued c.in-Queued.arrival = sym (ap (λ (z : State). z.mark) same) ∙ c.in-Queued.is in cc) in
    let key : took.arrival + took.spot.left ≡ c.in-Queued.arrival + c.index-state.result.now.spot.left = ap (λ (n : ℕ). n + took.spot.left) time ∙ ap (λ (z : Spot). c.in-Queued.arrival + z.left) spot in
    record {
      was = took.was ∙ (ap (λ (z : Spot). Some (queued z took.arrival)) spot ∙ ap (λ (n : ℕ). Some (queued c.index-state.result.now.spot n)) time);
      least = λ j s o at. subst (λ (n : ℕ). n ≤ s + o.left) key (took.least j s o at);
      in_limit = subst (λ (n : ℕ). n ≤ c.args.limit) key took.in_limit;
      rises = subst (λ (n : ℕ). c.args.arena.now.queue.floor ≤ n) key took.rises;
      states_are = refl;
      newest_are = refl;
      distances_are = refl;
      queue_is = took.taken
          ∙ (ap (λ (xs : List (Option ℕ)). record { keys = xs; floor = took.arrival + took.spot.left; bound = c.args.arena.now.queue.bound })
          (took.keys c.in-Queued.arrival ∙ ap (λ (z : Spot). keys_of (set c.args.arena.now.states.items c.in-Some.id (final z c.in-Queued.arrival))) spot)
          ∙ ap (λ (n : ℕ). record { keys = keys_of (set c.args.arena.now.states.items c.in-Some.id (final c.index-state.result.now.spot c.in-Queued.arrival)); floor = n; bound = c.args.arena.now.queue.bound }) key);
    }
