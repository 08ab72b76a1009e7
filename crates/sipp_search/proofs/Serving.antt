-- What an arena keeps from one search to the next, and what its distances keep.
use Rattle.std.proofs.Common.{subst, sym, ap, ◌∙◌, append-nil}
use Rattle.std.proofs.lemmas.Option.{none-some}
use Rattle.std.proofs.lemmas.List.{length-replicate, length-map, length-set, map-append}
use Rattle.std.specs.Prelude.{◌≡◌, ◌≢◌, ℕ, suc, ◌≤◌, ◌++◌, ◌∷◌, [], List, Option, Some, None, length, slice_get, slice_set, replicate}
use Rattle.fleet_base.specs.declared.grid.Cell.{Cell}
use Rattle.fleet_base.specs.declared.request.Record.{Record}
use Rattle.fleet_base.specs.declared.request.Request.{Request}
use Rattle.fleet_base.specs.Terrain.{Terrain}
use Rattle.static_distance.specs.declared.distances.Distances.{Distances}
use Rattle.static_distance.specs.Distance.{IsWay, IsDistance}
use Rattle.static_distance.specs.Aim.{room, IsAimed, AnswersDistance}
use Rattle.bucket_queue.specs.Queue.{Queue}
use Rattle.sipp_search.specs.declared.states.Spot.{Spot}
use Rattle.sipp_search.specs.declared.states.State.{State}
use Rattle.sipp_search.specs.declared.states.Arena.{Arena}
use Rattle.sipp_search.specs.declared.states.Mark.{Mark}
use Rattle.sipp_search.specs.declared.states.Mark.TheVariants.{Unseen}
use Rattle.sipp_search.specs.Marks.{spots_of, keys_of, unseen, offered, offered_mark}
use Rattle.sipp_search.specs.Arena.{IsOfArena, IsArena}
use Rattle.sipp_search.proofs.Beginning.{bound_of, empty_arena_right}
use Rattle.sipp_search.specs.Running.{IsReady, IsSound, Serves, HasGrown}
use Rattle.sipp_search.proofs.Marking.{marked, spots-set}
use Rattle.sipp_search.proofs.Chains.{arena_added}

module _ (g : Terrain) (q : Request) (horizon : ℕ) (known : ℕ → Option (List Record)) (size : ℕ) (arena : Arena) where
  -- a sound arena serves the grid
  pub serves_of : IsReady g q horizon size → IsSound g q horizon known size arena → Serves horizon (length g.cells) arena
  serves_of ready sound = record { bound = sound.bound; count = sound.count ∙ ready.size_is; room_is = sound.room_is }

  -- more distances are known
  pub sound_counted : (d : Distances) → IsSound g q horizon known size arena → IsAimed g d → d.goal ≡ arena.distances.goal → room d ≡ room arena.distances
      → IsSound g q horizon known size (record arena { distances = d })
  sound_counted d sound aimed goal_is room_is = record {
    paired = sound.paired;
    bound = sound.bound;
    count = sound.count;
    arranged = sound.arranged;
    aimed = aimed;
    goal_is = goal_is ∙ sound.goal_is;
    room_is = room_is ∙ sound.room_is;
  }

pub grown_by_none : (states : List State) → HasGrown states states
grown_by_none states = record { fresh = []; unseen = λ k s at. absurd (none-some s at); grown = sym (append-nil states) }

-- what was answered for a cell
pub distance_told : (g : Terrain) (aim goal c : Cell) (o : Option ℕ) (left : ℕ) → aim ≡ goal → AnswersDistance g aim c o → o ≡ Some left → IsDistance g goal c left
distance_told g aim goal c o left aims told is = subst (λ (z : Cell). IsDistance g z c left) aims (rw is at told)

pub no_way_told : (g : Terrain) (aim goal c : Cell) (o : Option ℕ) → aim ≡ goal → AnswersDistance g aim c o → o ≡ None → (k : ℕ) → IsWay g goal c k → ⊥
no_way_told g aim goal c o aims told is k way = (rw is at told) k (subst (λ (z : Cell). IsWay g z c k) (sym aims) way)

-- a state is added whose interval has none, with any mark
pub sound_marked : (g : Terrain) (q : Request) (horizon : ℕ) (known : ℕ → Option (List Record)) (size : ℕ) (old new : Arena) (p : Spot) (older : ℕ) (m : Mark) → IsSound g q horizon known size old
    → IsOfArena g q.goal horizon known p → ((i : ℕ) (r : Spot) → slice_get (spots_of old.states.items) i ≡ Some r → r.cell ≡ p.cell → r.interval ≢ p.interval)
    → slice_get old.newest p.cell.0 ≡ Some older → new.states.items ≡ old.states.items ++ marked (record p { older = older }) m ∷ []
    → new.newest ≡ slice_set old.newest p.cell.0 (suc (length old.states.items)) → new.queue ≡ record old.queue { keys = keys_of new.states.items } → new.distances ≡ old.distances
    → IsSound g q horizon known size new
sound_marked g q horizon known size old new p older m sound of new_here newest_is states newest queue distances =
    let spots : spots_of new.states.items ≡ spots_of old.states.items ++ record p { older = older } ∷ [] =
    ap spots_of states ∙ map-append (λ (z : State). z.spot) old.states.items (marked (record p { older = older }) m ∷ []) in
    let count : length (spots_of old.states.items) ≡ length old.states.items = length-map old.states.items (λ (z : State). z.spot) in
    let places : new.newest ≡ slice_set old.newest p.cell.0 (suc (length (spots_of old.states.items))) =
    newest ∙ ap (λ (n : ℕ). slice_set old.newest p.cell.0 (suc n)) (sym count) in
    record {
      paired = ap (λ (z : Queue). z.keys) queue;
      bound = ap (λ (z : Queue). z.bound) queue ∙ sound.bound;
      count = ap length newest ∙ (length-set old.newest p.cell.0 (suc (length old.states.items)) ∙ sound.count);
      arranged = subst (λ (ns : List ℕ). IsArena g q.goal horizon known (spots_of new.states.items) ns) (sym places)
          (subst (λ (xs : List Spot). IsArena g q.goal horizon known xs (slice_set old.newest p.cell.0 (suc (length (spots_of old.states.items))))) (sym spots)
          (arena_added g q.goal horizon known (spots_of old.states.items) old.newest p older sound.arranged of newest_is new_here));
      aimed = subst (λ (d : Distances). IsAimed g d) (sym distances) sound.aimed;
      goal_is = ap (λ (d : Distances). d.goal) distances ∙ sound.goal_is;
      room_is = ap room distances ∙ sound.room_is;
    }

-- one that nobody has seen
pub sound_added : (g : Terrain) (q : Request) (horizon : ℕ) (known : ℕ → Option (List Record)) (size : ℕ) (old new : Arena) (p : Spot) (older : ℕ) → IsSound g q horizon known size old
    → IsOfArena g q.goal horizon known p → ((i : ℕ) (r : Spot) → slice_get (spots_of old.states.items) i ≡ Some r → r.cell ≡ p.cell → r.interval ≢ p.interval)
    → slice_get old.newest p.cell.0 ≡ Some older → new.states.items ≡ old.states.items ++ unseen (record p { older = older }) ∷ []
    → new.newest ≡ slice_set old.newest p.cell.0 (suc (length old.states.items)) → new.queue ≡ record old.queue { keys = keys_of new.states.items } → new.distances ≡ old.distances
    → IsSound g q horizon known size new
sound_added g q horizon known size old new p older sound of new_here newest_is states newest queue distances =
    sound_marked g q horizon known size old new p older Unseen sound of new_here newest_is states newest queue distances

-- an arrival is offered to a state
pub sound_offered : (g : Terrain) (q : Request) (horizon : ℕ) (known : ℕ → Option (List Record)) (size : ℕ) (old new : Arena) (j e : ℕ) (s : State) → IsSound g q horizon known size old
    → slice_get old.states.items j ≡ Some s → new.states.items ≡ slice_set old.states.items j (offered s e) → new.queue ≡ record old.queue { keys = keys_of new.states.items }
    → new.newest ≡ old.newest → new.distances ≡ old.distances → IsSound g q horizon known size new
sound_offered g q horizon known size old new j e s sound at states queue newest distances =
    let spots : spots_of new.states.items ≡ spots_of old.states.items = ap spots_of states ∙ spots-set old.states.items j s (offered_mark s.mark e) at in
    record {
      paired = ap (λ (z : Queue). z.keys) queue;
      bound = ap (λ (z : Queue). z.bound) queue ∙ sound.bound;
      count = ap length newest ∙ sound.count;
      arranged = subst (λ (ns : List ℕ). IsArena g q.goal horizon known (spots_of new.states.items) ns) (sym newest)
          (subst (λ (xs : List Spot). IsArena g q.goal horizon known xs old.newest) (sym spots) sound.arranged);
      aimed = subst (λ (d : Distances). IsAimed g d) (sym distances) sound.aimed;
      goal_is = ap (λ (d : Distances). d.goal) distances ∙ sound.goal_is;
      room_is = ap room distances ∙ sound.room_is;
    }

-- no cell is entered, and the distances are aimed
pub sound_begun : (g : Terrain) (q : Request) (horizon : ℕ) (arena : Arena) → arena.states.items ≡ [] → arena.queue.keys ≡ [] → arena.newest ≡ replicate (length g.cells) 0
    → arena.queue.bound ≡ horizon → room arena.distances ≡ length g.cells → IsAimed g arena.distances → arena.distances.goal ≡ q.goal
    → (known : ℕ → Option (List Record)) → IsSound g q horizon known (length g.cells) arena
sound_begun g q horizon arena none unqueued untouched bound room_is aimed goal_is known = record {
  paired = unqueued ∙ sym (ap keys_of none);
  bound = bound;
  count = ap length untouched ∙ length-replicate (length g.cells) 0;
  arranged = empty_arena_right g q.goal horizon known (length g.cells) (spots_of arena.states.items) arena.newest (ap spots_of none) untouched;
  aimed = aimed;
  goal_is = goal_is;
  room_is = room_is;
}

pub ready_for : (g : Terrain) (q : Request) (horizon size : ℕ) → size ≡ length g.cells → horizon ≤ 8000 → IsReady g q horizon size
ready_for g q horizon size size_is in_range = record { bound = bound_of g q.goal; size_is = size_is; in_range = in_range }
