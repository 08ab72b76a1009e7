use Rattle.std.proofs.Common.{arith, sym, ◌∙◌, ◌≡◌, Some, slice_get, slice_index_or}
use Rattle.std.proofs.lemmas.Option.{slice_get-get_or}
use Rattle.sipp_search.proofs.Nearby.{none_listed, all_listed, one_listed, same_listed}
use Rattle.sipp_search.proofs.ties.list_waiting.Goals.{in-Some+else-len-eq-SHORT+in_ok-push, in_default}
use Rattle.sipp_search.proofs.ties.list_waiting.Goals as goal

pub loop-id-init : goal.loop-id-init
loop-id-init c = none_listed _ _ _ _ _ c.clear.ensures.items

pub returns-then-len-eq-SHORT-clause-only : goal.returns-then-len-eq-SHORT-clause-only
returns-then-len-eq-SHORT-clause-only c = c.loop-id.invariant.only

pub loop-id-preserved : goal.loop-id-preserved
loop-id-preserved c =
    let id = slice_index_or c.at_floor-id-items.result.now c.loop-id.id-index 0 in
    let at : slice_get c.at_floor-id-items.result.now c.loop-id.id-index ≡ Some id = slice_get-get_or c.at_floor-id-items.result.now c.loop-id.id-index 0 c.loop-id-test.true in
    elim c.match-waiting_with.branch [
      | in-Some+else-len-eq-SHORT+in_ok-push w ↦
          let more = one_listed c.args.task.now.grid.now c.args.arena.now.states.items c.args.arena.now.queue.floor c.at_floor-id-items.result.now c.loop-id.id-index id
          c.loop-id.waiting.items c.loop-id.invariant at w.in-Some.one (rw (sym c.floor-floor.ensures.value) w.in-Some.ensures.some) in
          rw (w.waiting-is, w.in_ok-push.ensures.items) more
      | in_default w ↦
          rw w.waiting-is (same_listed c.args.task.now.grid.now c.args.arena.now.states.items c.args.arena.now.queue.floor c.at_floor-id-items.result.now c.loop-id.id-index id
          c.loop-id.waiting.items c.loop-id.invariant at
          (λ p r is key. w.in_default.ensures.none p r is (key ∙ sym c.floor-floor.ensures.value)))
    ]

pub returns-clause-all : goal.returns-clause-all
returns-clause-all c =
    all_listed c.args.task.now.grid.now c.args.arena.now.states.items c.args.arena.now.queue.floor c.at_floor-id-items.result.now c.loop-id.id-index
    c.args.arena.now.queue.keys c.loop-id.waiting.items (omega (arith, c.loop-id-test.false)) c.requires.sound.2.paired c.at_floor-id-items.ensures.all c.loop-id.invariant

pub returns-clause-only : goal.returns-clause-only
returns-clause-only c = c.loop-id.invariant.only
