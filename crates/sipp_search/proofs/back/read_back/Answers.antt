use Rattle.std.proofs.Common.{arith, subst, sym, refl, ◌++◌, ◌∷◌, []}
use Rattle.std.specs.Prelude.{reverse, unwrap_or, List}
use Rattle.fleet_base.specs.declared.grid.Cell.{Cell}
use Rattle.fleet_base.specs.Canonical.{ReadsBack}
use Rattle.calendars.specs.Assignments.{traffic_by}
use Rattle.sipp_search.specs.Back.{ReadsOn}
use Rattle.sipp_search.proofs.Backward.{reads_nothing, reads_step, reads_done, hop_cells}
use Rattle.sipp_search.proofs.back.read_back.Goals as goal

pub loop-hop-init : goal.loop-hop-init
loop-hop-init g c = record {
  on = c.requires.on;
  in_time = c.requires.time;
  reads = λ a agrees. reads_nothing c.args.task.now.grid.now c.args.task.now.request a c.args.arrival c.in_ok-cells.cells.items c.in_ok-cells.ensures.items;
}

pub loop-hop-preserved : goal.loop-hop-preserved
loop-hop-preserved g c =
    let known = g.V.CalendarView.known c.args.view.now in
    record {
      on = (c.in-Some.ensures.hop (λ n. unwrap_or (known n) []) c.args.arrival (λ n records is. rw is refl) (c.requires.over (λ n. unwrap_or (known n) []) (λ n records is. rw is refl))).on;
      in_time = omega (arith, c.in-Some.ensures.earlier, c.loop-hop.invariant.in_time);
      reads = λ a agrees.
          (let hop = c.in-Some.ensures.hop a c.args.arrival agrees (c.requires.over a agrees) in
          let more = reads_step c.args.task.now.grid.now c.args.task.now.request a c.args.arrival c.loop-hop.at c.in-Some.hop.cell c.loop-hop.time hop.before c.in-Some.hop.time _ (reverse c.loop-hop.cells.items)
          (c.loop-hop.invariant.reads a agrees) hop.time_is hop.first hop.earliest refl in
          subst (λ (xs : List Cell). ReadsOn c.args.task.now.grid.now c.args.task.now.request a c.args.arrival c.in-Some.hop.cell c.in-Some.hop.time xs)
          (hop_cells c.loop-hop.cells.items (c.loop-hop.cells.items ++ c.loop-hop.at ∷ []) c.push_hop.new.cells.items c.loop-hop.at c.in-Some.hop.cell _ refl c.in_ok-push_hop.ensures) more);
    }

pub returns : goal.returns
returns g c = λ a agrees.
    (let start = c.in_default.ensures.none a c.args.arrival agrees (c.requires.over a agrees) in
    subst (λ (xs : List Cell). ReadsBack c.args.task.now.grid.now (traffic_by a) c.args.task.now.request c.args.task.now.request.goal c.args.arrival xs) (sym c.reverse.ensures.items)
    (reads_done c.args.task.now.grid.now c.args.task.now.request a c.args.arrival c.loop-hop.at c.loop-hop.time c.loop-hop.cells.items c.push.new.self.items
    (c.loop-hop.invariant.reads a agrees) start.0 start.1 c.in_ok-push.ensures.items))
