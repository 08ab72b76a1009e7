use Rattle.std.proofs.Common.{◌+◌, ap, subst, ℕ, ◌≤◌}
use Rattle.std.specs.Prelude.{All}
use Rattle.fleet_base.specs.declared.request.RouteId.{RouteId}
use Rattle.fleet_base.specs.declared.request.Live.{Live}
use Rattle.plain_book.specs.BookState.{BookState}
use Rattle.plain_book.specs.Replies.{IsCommit}
use Rattle.plain_book.proofs.Answering.{commit_answers}
use Rattle.plain_book.proofs.Entering.{still_canonical, planned_may_enter, commit_of_entering}
use Rattle.plain_book.proofs.book.PlainBook.plan.Goals as goal

id_at : ℕ → BookState → RouteId
id_at caller s = record { stamp = s.stamp + 1; caller = caller }

pub enter-requires : goal.enter-requires
enter-requires c =
    planned_may_enter c.find_walk.new.self c.args.request c.in-Some.walk c.in_ok-copy.copy (record { stamp = c.self.inside.stamp + 1; caller = c.args.caller })
    (subst (λ (s : BookState). All (λ (r : Live). r.id.stamp ≤ s.stamp) s.routes) c.self.view_is c.self.invariant.stamps)
    (still_canonical c.args.self.now c.find_walk.new.self c.args.request c.in_ok-walk.field-0 c.in-Some.walk c.in_ok-walk.ensures.same c.in-Some.is c.in_ok-walk.ensures.found) c.in_ok-copy.ensures
    (ap (λ (s : BookState). s.stamp + 1) c.self.view_is)

pub returns-clause-reply : goal.returns-clause-reply
unfolding id_at
returns-clause-reply c =
    subst
    (λ (s : BookState). IsCommit s c.args.caller c.args.request (record { stamp = c.self.inside.stamp + 1; caller = c.args.caller }) c.self-2.inside.era c.args.request c.in-Some.walk c.enter.new.self)
    c.in_ok-walk.ensures.same
    (commit_of_entering c.find_walk.new.self c.enter.new.self c.args.caller c.args.request (record { stamp = c.self.inside.stamp + 1; caller = c.args.caller }) c.self-2.inside.era c.in-Some.walk
    c.in_ok-copy.copy
    (still_canonical c.args.self.now c.find_walk.new.self c.args.request c.in_ok-walk.field-0 c.in-Some.walk c.in_ok-walk.ensures.same c.in-Some.is c.in_ok-walk.ensures.found)
    c.in_ok-copy.ensures (ap (id_at c.args.caller) c.self.view_is) c.in_ok-enter.ensures.ok (ap (λ (s : BookState). s.era) c.self-2.view_is))

pub returns-clause-history : goal.returns-clause-history
returns-clause-history c =
    commit_answers c.args.self.now c.args.caller c.args.request (record { stamp = c.self.inside.stamp + 1; caller = c.args.caller }) c.self-2.inside.era c.args.request c.in-Some.walk
    c.enter.new.self (returns-clause-reply c) c.requires.room
