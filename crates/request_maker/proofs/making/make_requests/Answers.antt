use Rattle.std.proofs.Common.{◌+◌, ◌<◌, refl, sym, subst, ap, length, ◌∙◌, arith}
use Rattle.std.specs.Prelude.{All}
use Rattle.std.proofs.lemmas.List.{length-append}
use Rattle.std.proofs.lemmas.List.Elements.{All-nil, All-push}
use Rattle.fleet_base.specs.declared.request.Request.{Request}
use Rattle.request_maker.specs.Making.{state_after}
use Rattle.request_maker.proofs.MakingLemmas.{requests_more}
use Rattle.request_maker.proofs.making.make_requests.Goals as goal

pub loop-order-init : goal.loop-order-init
loop-order-init c = record {
  made = λ start is. c.in_ok-requests.ensures.items;
  so_many = ap length c.in_ok-requests.ensures.items;
  drawn = λ start is. is ∙ ap (state_after start) (omega arith);
  on_grid = subst (λ rows. All (λ (q : Request). (q.start.0 < c.args.area) × (q.goal.0 < c.args.area)) rows) (sym c.in_ok-requests.ensures.items) (All-nil (λ (q : Request). (q.start.0 < c.args.area) × (q.goal.0 < c.args.area)));
  same = (refl, refl);
}

pub loop-order-preserved : goal.loop-order-preserved
loop-order-preserved c =
    record {
      made = λ start is. (requests_more c.args.area start c.loop-order.order _ _ _ c.draw.result c.draw-in-loop-order.result c.loop-order.requests.items _ _ (c.loop-order.invariant.made start is) (c.loop-order.invariant.drawn start is)
          c.draw.ensures.state c.draw.ensures.value c.draw-in-loop-order.ensures.state c.draw-in-loop-order.ensures.value refl c.in_ok-push.ensures.items).0;
      so_many = ap length c.in_ok-push.ensures.items ∙ length-append c.loop-order.requests.items _ ∙ ap (λ n. n + 1) c.loop-order.invariant.so_many;
      drawn = λ start is. (requests_more c.args.area start c.loop-order.order _ _ _ c.draw.result c.draw-in-loop-order.result c.loop-order.requests.items _ _ (c.loop-order.invariant.made start is) (c.loop-order.invariant.drawn start is)
          c.draw.ensures.state c.draw.ensures.value c.draw-in-loop-order.ensures.state c.draw-in-loop-order.ensures.value refl c.in_ok-push.ensures.items).1;
      on_grid = subst (λ rows. All (λ (q : Request). (q.start.0 < c.args.area) × (q.goal.0 < c.args.area)) rows) (sym c.in_ok-push.ensures.items)
          (All-push (λ (q : Request). (q.start.0 < c.args.area) × (q.goal.0 < c.args.area)) c.loop-order.requests.items _ c.loop-order.invariant.on_grid (c.draw.ensures.below, c.draw-in-loop-order.ensures.below));
      same = (refl, refl);
    }
