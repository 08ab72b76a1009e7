use Rattle.std.proofs.Common.{refl, subst, List}
use Rattle.std.proofs.lemmas.List.Sorted.{IsPermutation-refl}
use Rattle.std.specs.Prelude.{IsPermutation}
use Rattle.fleet_base.specs.declared.request.Live.{Live}
use Rattle.plain_book.specs.Kept.{routes_of}
use Rattle.plain_book.proofs.Answering.{end_answers}
use Rattle.plain_book.proofs.Books.{kept_same, kept_ended}
use Rattle.plain_book.proofs.book.PlainBook.cancel.Goals as goal

pub invariant_of-self : goal.invariant_of-self
invariant_of-self c =
    kept_same c.self.inside.grid c.self.inside.horizon c.self.inside.stamp c.self.inside.routes.entries c.end_route.new.routes.entries c.self.inside.calendars
    c.end_route.new.calendars c.self.inside.searcher c.self.invariant c.end_route.ensures.size c.end_route.ensures.ordered c.end_route.ensures.calendars
    (c.end_route.ensures.refused c.if-not-end_route.true)

pub returns-then-not-end_route-clause-refused : goal.returns-then-not-end_route-clause-refused
returns-then-not-end_route-clause-refused c = rw (c.end_route.ensures.refused c.if-not-end_route.true, ← c.self.view_is) refl

pub invariant_of-self-2 : goal.invariant_of-self-2
invariant_of-self-2 c =
    kept_ended c.self.inside.grid c.self.inside.horizon c.self.inside.stamp c.self.inside.routes.entries c.end_route.new.routes.entries c.self.inside.calendars
    c.end_route.new.calendars c.self.inside.searcher c.self.invariant c.end_route.ensures.size c.end_route.ensures.ordered c.end_route.ensures.calendars
    c.args.id c.end_route.ensures.routes

pub returns-clause-ok : goal.returns-clause-ok
returns-clause-ok c = rw (← c.self.view_is) (record {
  entry_is = refl;
  was_live = c.end_route.ensures.was_live.0 c.if-not-end_route.false;
  routes_are = subst (λ (rs : List Live). IsPermutation (routes_of c.end_route.new.routes.entries) rs) c.end_route.ensures.routes (IsPermutation-refl (routes_of c.end_route.new.routes.entries));
  rest_is = refl;
})

pub returns-clause-history : goal.returns-clause-history
returns-clause-history c = end_answers c.args.self.now c.args.id _ _ (returns-clause-ok c)
