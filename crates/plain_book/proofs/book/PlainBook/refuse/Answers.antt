use Rattle.std.proofs.Common.{◌+◌, refl, subst}
use Rattle.fleet_base.specs.Planned.{NoneFree}
use Rattle.plain_book.specs.BookState.{BookState}
use Rattle.plain_book.proofs.Answering.{refusal_answers}
use Rattle.plain_book.proofs.book.PlainBook.refuse.Goals as goal
use Rattle.std.proofs.Common.{sym}

pub returns-clause-reply : goal.returns-clause-reply
returns-clause-reply c = rw (← c.self.view_is) (record {
  stamp_is = refl;
  caller_is = refl;
  in_era = refl;
  request_is = refl;
  none_free = subst (λ (s : BookState). NoneFree s.grid s.horizon c.args.request s.routes) (sym c.self.view_is) c.requires.none_free;
  rest_is = refl;
})

pub returns-clause-history : goal.returns-clause-history
returns-clause-history c =
    refusal_answers c.args.self.now c.args.caller c.args.request (c.self.inside.stamp + 1) c.args.caller c.self.inside.era c.args.request _ (returns-clause-reply c) c.requires.room
