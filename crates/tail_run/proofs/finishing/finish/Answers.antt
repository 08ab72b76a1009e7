use Rattle.std.proofs.Common.{rules, List, length, sym, subst, Vec, Global}
use Rattle.std.proofs.lemmas.Result.{IfOk-weaker}
use Rattle.fleet_base.specs.Terrain.{Terrain}
use Rattle.lane_runs.specs.declared.answer.Answer.{Answer}
use Rattle.lane_runs.specs.declared.answer.Left.{Left}
use Rattle.order_text.specs.Lanes.{AreLanes}
use Rattle.tail_run.specs.Tails.{IsGoing}
use Rattle.tail_run.proofs.LanesLemmas.{finished_none, finished}
use Rattle.tail_run.proofs.finishing.finish.Goals as goal

pub returns-then-is_empty : goal.returns-then-is_empty
returns-then-is_empty c =
    finished_none c.args.grid c.args.horizon (length c.args.grid.cells) c.args.lanes.now c.requires.lanes c.args.made.items c.args.caller c.args.left.now (search rules) c.requires.begun

pub finish_lanes-requires-clause-lanes : goal.finish_lanes-requires-clause-lanes
finish_lanes-requires-clause-lanes c =
    subst (λ (g : Terrain). AreLanes (length g.cells) c.args.lanes.now)
    (sym (c.in_ok-tail.ensures c.args.caller c.args.left.now c.in_ok-left.left.items c.requires.begun c.in_ok-left.ensures).grid) c.requires.lanes

pub finish_lanes-requires-clause-going : goal.finish_lanes-requires-clause-going
finish_lanes-requires-clause-going c = (
  c.args.grid,
  c.args.horizon,
  c.args.made.items,
  c.in_ok-left.left.items,
  subst (λ (ls : List Left). IsGoing c.args.grid c.args.horizon c.args.caller c.args.lanes.now c.args.made.items c.in_ok-left.left.items ls c.in_ok-tail.tail) (sym c.deref.ensures.value)
      (c.in_ok-tail.ensures c.args.caller c.args.left.now c.in_ok-left.left.items c.requires.begun c.in_ok-left.ensures),
)

pub returns : goal.returns
returns c =
    IfOk-weaker c.finish_lanes.result _ _ (λ (answers : Vec Answer Global) end.
    finished c.args.grid c.args.horizon (length c.args.grid.cells) c.args.lanes.now c.requires.lanes c.args.made.items c.args.caller c.args.left.now c.in_ok-left.left.items answers.items
    c.in_ok-left.ensures (end c.args.grid c.args.horizon c.args.made.items c.in_ok-left.left.items
    (subst (λ (ls : List Left). IsGoing c.args.grid c.args.horizon c.args.caller c.args.lanes.now c.args.made.items c.in_ok-left.left.items ls c.in_ok-tail.tail) (sym c.deref.ensures.value)
    (c.in_ok-tail.ensures c.args.caller c.args.left.now c.in_ok-left.left.items c.requires.begun c.in_ok-left.ensures)))) c.finish_lanes.ensures
