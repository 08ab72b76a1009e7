use Rattle.std.proofs.Common.{◌≡◌, ◌++◌, ◌∷◌, ◌∙◌, [], List, ap, sym, append_assoc}
use Rattle.fleet_base.specs.declared.request.Live.{Live}
use Rattle.plain_book.proofs.Resuming.{next_may_enter, next_entered}
use Rattle.plain_book.proofs.book.PlainBook.resume.Goals as goal

pub enter-requires : goal.enter-requires
enter-requires c =
    next_may_enter c.args.grid c.args.horizon c.args.stamp c.args.era c.args.routes.items c.loop-live.yielded c.next.new.self.rest.items c.in-Some.live c.loop-live.book c.requires.live
    (ap (λ (rest : List Live). c.loop-live.yielded ++ rest) (sym c.in-Some.ensures.steps.0) ∙ c.loop-live.invariant.1) c.loop-live.invariant.0

pub loop-live-preserved : goal.loop-live-preserved
loop-live-preserved c =
    let parts : c.loop-live.yielded ++ c.in-Some.live ∷ c.next.new.self.rest.items ≡ c.args.routes.items =
    ap (λ (rest : List Live). c.loop-live.yielded ++ rest) (sym c.in-Some.ensures.steps.0) ∙ c.loop-live.invariant.1 in (
      next_entered c.args.grid c.args.horizon c.args.stamp c.args.era c.args.routes.items c.loop-live.yielded c.next.new.self.rest.items c.in-Some.live c.loop-live.book c.requires.live parts
          c.loop-live.invariant.0 c.enter.new.self c.in_ok-enter.ensures.ok,
      append_assoc c.loop-live.yielded (c.in-Some.live ∷ []) c.next.new.self.rest.items ∙ parts,
      tt,
      tt,
    )
