use Rattle.std.proofs.Common.{rules, ◌≡◌, ℕ, ◌+◌, ◌++◌, ◌||◌, List, Bool, true, sym, ap, ap₂, ◌∙◌, subst}
use Rattle.book_trait.specs.Passes.{JoinedView}
use Rattle.ticket_line.specs.Tickets.{parts, has_ended}
use Rattle.lane_runs.specs.declared.answer.Answer.{Answer}
use Rattle.lane_runs.specs.declared.answer.Left.{Left}
use Rattle.planner_pool.specs.Parts.{HasWorked}
use Rattle.planner_pool.proofs.CrewLemmas.{Apart, callers_append, callers_apart, worked_both}
use Rattle.planner_pool.proofs.crew.both.Goals as goal

pub returns : goal.returns
returns g c from m n a b =
    let view = g.B.SharedBook.joined_view in
    let answers : c.append.new.self.items ≡ c.args.first.answers.items ++ c.args.second.answers.items = search rules in
    let left : c.append-2.new.self.items ≡ c.args.first.left.items ++ c.args.second.left.items = search rules in
    let share : parts c.gather.result ≡ m + n = c.gather.ensures.of.1 ∙ ap₂ ◌+◌ a.share b.share in
    let ended : has_ended c.gather.result ≡ true = c.gather.ensures.ended ∙ ap (λ (t : Bool). t || has_ended c.args.second.ticket) a.ended in
    let apart : Apart (view c.args.first.joined).callers (view c.args.second.joined).callers = subst (λ (z : List ℕ × List ℕ). Apart z.0 z.1) (λ i. (sym a.callers i, sym b.callers i)) (callers_apart from m n) in
    let worked = worked_both c.args.lanes.now _ _ _ _ _ _ (view c.args.first.joined) (view c.args.second.joined) (view c.join.result) apart c.join.ensures.view a.worked b.worked in
    record {
      of_book = c.join.ensures.joined;
      is_joined = c.join.ensures.is_joined;
      callers = ap (λ (x : JoinedView). x.callers) c.join.ensures.view.counts ∙ (ap₂ ◌++◌ a.callers b.callers ∙ sym (callers_append m n from));
      of_line = c.gather.ensures.of.0;
      share = share;
      ended = ended;
      all = λ whole. c.gather.ensures.all (share ∙ sym whole) ended;
      worked = subst (λ (z : List ℕ × List Answer × List Left). HasWorked c.args.lanes.now z.0 z.1 z.2 (view c.join.result)) (λ i. (sym c.gather.ensures.drawn i, sym answers i, sym left i)) worked;
    }
