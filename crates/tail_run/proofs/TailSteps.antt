-- One answer more of a lane that goes on in a book of one thread.
use Rattle.std.proofs.Common.{◌≡◌, ◌≢◌, ℕ, ◌+◌, ◌-◌, ◌<◌, ◌≤◌, inl, inr, Bool, true, false, not, List, [], ◌∷◌, ◌++◌, length, Some, refl, sym, ap, ◌∙◌, subst, arith}
use Rattle.std.specs.Prelude.{All, IsPermutation, filter, fold, slice_get}
use Rattle.std.proofs.lemmas.List.{length-append, append_assoc}
use Rattle.std.proofs.lemmas.List.Sums.{fold-append}
use Rattle.std.proofs.lemmas.List.Elements.{All-push}
use Rattle.std.proofs.lemmas.List.Sorted.{list_any-IsPermutation}
use Rattle.fleet_base.specs.declared.request.Request.{Request}
use Rattle.fleet_base.specs.declared.request.RouteId.{RouteId}
use Rattle.fleet_base.specs.declared.request.Live.{Live}
use Rattle.fleet_base.specs.declared.request.Entry.{Entry}
use Rattle.fleet_base.specs.declared.request.Entry.TheVariants as E
use Rattle.fleet_base.specs.Terrain.{Terrain}
use Rattle.fleet_base.specs.TimedWalk.{TimedWalk}
use Rattle.fleet_base.specs.History.{Past, followed_by, reply_of, era_of, same_id, IsLive, IsStronglyAllowed, EachFollows}
use Rattle.fleet_base.specs.Journal.{Precedes, IsInOrder}
use Rattle.fleet_base.proofs.HistoryLemmas.{follows_push}
use Rattle.order_text.specs.declared.lane.Lane.{Lane}
use Rattle.order_text.specs.declared.order.Order.TheVariants.{Plan, Cancel}
use Rattle.lane_runs.specs.declared.answer.Answer.{Answer}
use Rattle.lane_runs.specs.declared.answer.Answer.TheVariants.{Made, Gone}
use Rattle.lane_runs.specs.Answers.{entries_made, Committed, Refused}
use Rattle.lane_runs.specs.Answering.{NamePlans, AreBeingAnswered}
use Rattle.lane_runs.proofs.AnswerLemmas.{get_longer, answers_commit, answers_refusal, answers_gone, answers_cancel}
use Rattle.plain_book.specs.BookState.{BookState, LeadsTo, IsOnSameGrid}
use Rattle.plain_book.specs.Replies.{IsCommit, IsRefusal, IsReplyTo, EndsRoute}
use Rattle.plain_book.specs.History.{AnswersBook}
use Rattle.plain_book.proofs.Members.{same_id-true}
use Rattle.plain_run.specs.Underway.{IsBehind}
use Rattle.plain_run.proofs.StepLemmas.{made_more, gone_more, same_some, behind_first, order_more, behind_still, all_still, live_new, live_still, any_filter, live_others}
use Rattle.tail_run.specs.declared.lane.Tail.{Tail}
use Rattle.tail_run.specs.Ids.{noted}
use Rattle.tail_run.specs.Tails.{IsReplyBy, HasKept, HasPlanned, HasEnded, GoesOn}

-- a route that is not the ended one is still live
live_apart : (id other : RouteId) (old new : List Live) → IsPermutation new (filter (λ r. not (same_id r.id id)) old) → other ≢ id → IsLive other old → IsLive other new
live_apart id other old new same apart lives =
    list_any-IsPermutation (λ r. same_id r.id other) new (filter (λ r. not (same_id r.id id)) old) same
    ∙ any_filter (λ r. same_id r.id other) (λ r. not (same_id r.id id)) old (λ r test. by_test (same_id r.id id) (λ t. apart (sym (same_id-true r.id other test) ∙ same_id-true r.id id t))) lives
  where
    by_test : (x : Bool) → (x ≡ true → ⊥) → not x ≡ true
    by_test true off = absurd (off refl)
    by_test false off = refl

module _ (caller : ℕ) (lane : Lane) (xs : List Answer) (old : Tail) (more : List Answer) (now : Tail) (was : GoesOn caller lane xs old more now) where
  -- the answers of the lane with one more
  longer : (a : Answer) → (xs ++ more) ++ a ∷ [] ≡ xs ++ (more ++ a ∷ [])
  longer a = append_assoc xs more (a ∷ [])

  kept_answers : (a : Answer) (new : Tail) → HasKept now new a → new.answers.items ≡ old.answers.items ++ (more ++ a ∷ [])
  kept_answers a new kept = kept.answers ∙ ap (λ (l : List Answer). l ++ a ∷ []) was.answers ∙ append_assoc old.answers.items more (a ∷ [])

  kept_ids : (a : Answer) (new : Tail) → HasKept now new a → new.ids.items ≡ fold noted old.ids.items (more ++ a ∷ [])
  kept_ids a new kept = kept.ids ∙ ap (λ ids. noted ids a) was.ids ∙ sym (fold-append noted old.ids.items more (a ∷ []))

  -- an entry that the book answers
  pub record IsOneMore (n : ℕ) (e : Entry) (new : Tail) : Type 0 where
    pub kept : HasKept now new (Made n e)
    pub history : AnswersBook now.book new.book e
    pub same : IsOnSameGrid now.book new.book
    pub eras : (now.book.era ≤ new.book.era) × (new.book.era ≤ now.book.era + 1)
    pub stamps : (now.book.stamp ≤ new.book.stamp) × (new.book.stamp ≤ now.book.stamp + 1)
    pub era : era_of e ≡ now.book.era
    pub above : (id : RouteId) → reply_of e ≡ Some id → now.book.stamp < id.stamp
    pub behind : IsBehind new.book e
    pub by : IsReplyBy caller e
    pub answering : AreBeingAnswered lane.first lane.orders ((xs ++ more) ++ Made n e ∷ []) new.book.stamp (λ id. IsLive id new.book.routes)
    pub others : (id : RouteId) → IsLive id now.book.routes → ((j : ℕ) → ¬ (Committed (xs ++ more) j id)) → IsLive id new.book.routes

  shorter : (a : Answer) (id : RouteId) → ((j : ℕ) → ¬ (Committed (xs ++ (more ++ a ∷ [])) j id)) → (j : ℕ) → ¬ (Committed (xs ++ more) j id)
  shorter a id none j c = none j (subst (λ l. Committed l j id) (longer a) record { order = c.order; era = c.era; request = c.request; walk = c.walk; at = get_longer (xs ++ more) (a ∷ []) j _ c.at })

  follows_more : (e : Entry) (new : Tail) → AnswersBook now.book new.book e → (p : Past) → LeadsTo p old.book
      → EachFollows (IsStronglyAllowed old.book.grid old.book.horizon) p (entries_made more ++ e ∷ []) × LeadsTo (fold followed_by p (entries_made more ++ e ∷ [])) new.book
  follows_more e new history p leads =
      let before = was.follows p leads in
      let grid = was.same.grid in
      let horizon = was.same.horizon in
      let middle : Past = fold followed_by p (entries_made more) in
      let here : IsStronglyAllowed old.book.grid old.book.horizon middle e =
      subst (λ (z : Terrain × ℕ). IsStronglyAllowed z.0 z.1 middle e) (λ j. (grid j, horizon j)) (history.follows middle before.1) in (
        follows_push (IsStronglyAllowed old.book.grid old.book.horizon) p (entries_made more) e before.0 here,
        subst (λ q. LeadsTo q new.book) (sym (fold-append followed_by p (entries_made more) (e ∷ []))) (history.leads middle before.1),
      )

  pub entry_more : (n : ℕ) (e : Entry) (new : Tail) → IsOneMore n e new → GoesOn caller lane xs old (more ++ Made n e ∷ []) new
  entry_more n e new is =
      let a : Answer = Made n e in
      let long = length-append more (a ∷ []) in
      let made = made_more more n e in
      let eras = was.eras in
      let stamps = was.stamps in
      let new_eras = is.eras in
      let new_stamps = is.stamps in
      record {
        answers = kept_answers a new is.kept;
        ids = kept_ids a new is.kept;
        answering = subst (λ l. AreBeingAnswered lane.first lane.orders l new.book.stamp (λ id. IsLive id new.book.routes)) (longer a) is.answering;
        others = λ id lives none. is.others id (was.others id lives (shorter a id none)) (shorter a id none);
        same = record { grid = is.same.grid ∙ was.same.grid; horizon = is.same.horizon ∙ was.same.horizon };
        follows = λ p leads. subst (λ (es : List Entry). EachFollows (IsStronglyAllowed old.book.grid old.book.horizon) p es × LeadsTo (fold followed_by p es) new.book) (sym made) (follows_more e new is.history p leads);
        by = subst (λ (es : List Entry). All (IsReplyBy caller) es) (sym made) (All-push (IsReplyBy caller) (entries_made more) e was.by is.by);
        in_order = subst IsInOrder (sym made) (order_more now.book (entries_made more) e was.in_order was.behind is.era is.above);
        before = λ x h. subst (λ (es : List Entry). All (Precedes x) es) (sym made)
            (All-push (Precedes x) (entries_made more) e (was.before x h) (behind_first now.book e x is.era is.above (behind_still old.book now.book x eras.0 stamps.0 h)));
        behind = subst (λ (es : List Entry). All (IsBehind new.book) es) (sym made)
            (All-push (IsBehind new.book) (entries_made more) e (all_still now.book new.book (entries_made more) new_eras.0 new_stamps.0 was.behind) is.behind);
        eras = (omega (arith, eras, new_eras), omega (arith, eras, new_eras, long));
        stamps = (omega (arith, stamps, new_stamps), omega (arith, stamps, new_stamps, long));
      }

  -- ---- a plan

  commit_more : (n : ℕ) (q : Request) (id : RouteId) (era : ℕ) (asked : Request) (w : TimedWalk) (new : Tail) → slice_get lane.orders (length (xs ++ more)) ≡ Some (Plan q) → n ≡ lane.first + length (xs ++ more)
      → IsCommit now.book caller q id era asked w new.book → AnswersBook now.book new.book (E.Commit id era asked w) → IsOnSameGrid now.book new.book → HasKept now new (Made n (E.Commit id era asked w))
      → IsOneMore n (E.Commit id era asked w) new
  commit_more n q id era asked w new at number is history same kept =
      let stamp : id.stamp ≡ now.book.stamp + 1 = ap (λ (r : RouteId). r.stamp) is.id_is in
      let new_stamp : new.book.stamp ≡ now.book.stamp + 1 = ap (λ (s : BookState). s.stamp) is.rest_is in
      let new_era : new.book.era ≡ now.book.era = ap (λ (s : BookState). s.era) is.rest_is in
      let stays : (other : RouteId) → IsLive other now.book.routes → IsLive other new.book.routes = λ other lives. live_still id w other now.book.routes new.book.routes is.routes_are lives in
      record {
        kept = kept;
        history = history;
        same = same;
        eras = (omega arith, omega arith);
        stamps = (omega arith, omega arith);
        era = is.in_era;
        above = λ other r. let e : id ≡ other = same_some id other r in omega (arith, ap (λ (r : RouteId). r.stamp) e);
        behind = inr (is.in_era ∙ sym new_era, (id, refl, omega arith));
        by = ap (λ (r : RouteId). r.caller) is.id_is;
        answering = subst (λ (r : Request). AreBeingAnswered lane.first lane.orders ((xs ++ more) ++ Made n (E.Commit id era r w) ∷ []) new.book.stamp (λ other. IsLive other new.book.routes)) (sym is.request_is)
            (answers_commit lane.first lane.orders (xs ++ more) now.book.stamp (λ other. IsLive other now.book.routes) (λ other. IsLive other new.book.routes) was.answering n new.book.stamp era id q w at number
            (omega arith) (omega arith) (live_new id w now.book.routes new.book.routes is.routes_are) stays);
        others = λ other lives none. stays other lives;
      }

  refusal_more : (n : ℕ) (q : Request) (stamp c era : ℕ) (asked : Request) (new : Tail) → slice_get lane.orders (length (xs ++ more)) ≡ Some (Plan q) → n ≡ lane.first + length (xs ++ more)
      → IsRefusal now.book caller q stamp c era asked new.book → AnswersBook now.book new.book (E.NoRoute stamp c era asked) → IsOnSameGrid now.book new.book → HasKept now new (Made n (E.NoRoute stamp c era asked))
      → IsOneMore n (E.NoRoute stamp c era asked) new
  refusal_more n q stamp c era asked new at number is history same kept =
      let stamp_is = is.stamp_is in
      let new_stamp : new.book.stamp ≡ now.book.stamp + 1 = ap (λ (s : BookState). s.stamp) is.rest_is in
      let new_era : new.book.era ≡ now.book.era = ap (λ (s : BookState). s.era) is.rest_is in
      let routes : new.book.routes ≡ now.book.routes = ap (λ (s : BookState). s.routes) is.rest_is in
      let stays : (other : RouteId) → IsLive other now.book.routes → IsLive other new.book.routes = λ other lives. subst (IsLive other) (sym routes) lives in
      record {
        kept = kept;
        history = history;
        same = same;
        eras = (omega arith, omega arith);
        stamps = (omega arith, omega arith);
        era = is.in_era;
        above = λ other r. let e : record { stamp = stamp; caller = c } ≡ other = same_some (record { stamp = stamp; caller = c }) other r in omega (arith, ap (λ (r : RouteId). r.stamp) e);
        behind = inr (is.in_era ∙ sym new_era, (record { stamp = stamp; caller = c }, refl, omega arith));
        by = is.caller_is;
        answering = subst (λ (r : Request). AreBeingAnswered lane.first lane.orders ((xs ++ more) ++ Made n (E.NoRoute stamp c era r) ∷ []) new.book.stamp (λ other. IsLive other new.book.routes)) (sym is.request_is)
            (answers_refusal lane.first lane.orders (xs ++ more) now.book.stamp (λ other. IsLive other now.book.routes) (λ other. IsLive other new.book.routes) was.answering n new.book.stamp stamp c era q at number
            (omega arith) stays);
        others = λ other lives none. stays other lives;
      }

  pub plan_more : (n : ℕ) (q : Request) (new : Tail) → slice_get lane.orders (length (xs ++ more)) ≡ Some (Plan q) → n ≡ lane.first + length (xs ++ more) → (p : HasPlanned caller n q now new) → IsOneMore n p.entry new
  plan_more n q new at number p = by_entry p.entry p.reply p.history p.kept
    where
      by_entry : (e : Entry) → IsReplyTo now.book caller q e new.book → AnswersBook now.book new.book e → HasKept now new (Made n e) → IsOneMore n e new
      by_entry (E.Commit id era asked w) is history kept = commit_more n q id era asked w new at number is history p.same kept
      by_entry (E.Cancel id era) is history kept = absurd is
      by_entry (E.NoRoute stamp c era asked) is history kept = refusal_more n q stamp c era asked new at number is history p.same kept

  -- ---- a cancel

  cancel_more : (n target : ℕ) (id : RouteId) (new : Tail) → NamePlans lane.first lane.orders → slice_get lane.orders (length (xs ++ more)) ≡ Some (Cancel target) → n ≡ lane.first + length (xs ++ more)
      → Committed (xs ++ more) (target - lane.first) id → EndsRoute now.book id (E.Cancel id now.book.era) new.book → AnswersBook now.book new.book (E.Cancel id now.book.era) → IsOnSameGrid now.book new.book
      → HasKept now new (Made n (E.Cancel id now.book.era)) → IsOneMore n (E.Cancel id now.book.era) new
  cancel_more n target id new names at number there is history same kept =
      let new_stamp : new.book.stamp ≡ now.book.stamp = ap (λ (s : BookState). s.stamp) is.rest_is in
      let new_era : new.book.era ≡ now.book.era + 1 = ap (λ (s : BookState). s.era) is.rest_is in
      record {
        kept = kept;
        history = history;
        same = same;
        eras = (omega arith, omega arith);
        stamps = (omega arith, omega arith);
        era = refl;
        above = λ other r. absurd (cc);
        behind = inl (omega arith);
        by = tt;
        answering = subst (λ (s : ℕ). AreBeingAnswered lane.first lane.orders ((xs ++ more) ++ Made n (E.Cancel id now.book.era) ∷ []) s (λ other. IsLive other new.book.routes)) (sym new_stamp)
            (answers_cancel lane.first lane.orders (xs ++ more) now.book.stamp (λ other. IsLive other now.book.routes) (λ other. IsLive other new.book.routes) was.answering n target now.book.era id names at number there
            (λ other apart lives. live_others id other now.book.routes new.book.routes is.routes_are apart lives));
        others = λ other lives none. live_apart id other now.book.routes new.book.routes is.routes_are (λ e. none (target - lane.first) (subst (λ z. Committed (xs ++ more) (target - lane.first) z) (sym e) there)) lives;
      }

  pub ended_more : (n target : ℕ) (new : Tail) → NamePlans lane.first lane.orders → slice_get lane.orders (length (xs ++ more)) ≡ Some (Cancel target) → n ≡ lane.first + length (xs ++ more)
      → (h : HasEnded n target now new) → Committed (xs ++ more) (target - lane.first) h.id → IsOneMore n h.entry new
  ended_more n target new names at number h there =
      let is : h.entry ≡ E.Cancel h.id now.book.era = h.ends.entry_is in
      subst (λ (e : Entry). IsOneMore n e new) (sym is)
      (cancel_more n target h.id new names at number there (subst (λ e. EndsRoute now.book h.id e new.book) is h.ends) (subst (AnswersBook now.book new.book) is h.history) h.same
      (subst (λ e. HasKept now new (Made n e)) is h.kept))

  pub gone_one_more : (n target : ℕ) (new : Tail) → slice_get lane.orders (length (xs ++ more)) ≡ Some (Cancel target) → n ≡ lane.first + length (xs ++ more) → new.book ≡ now.book → HasKept now new (Gone n target)
      → Refused (xs ++ more) (target - lane.first) → GoesOn caller lane xs old (more ++ Gone n target ∷ []) new
  gone_one_more n target new at number book kept there =
      let a : Answer = Gone n target in
      let long = length-append more (a ∷ []) in
      let same = gone_more more n target in
      let eras = was.eras in
      let stamps = was.stamps in
      let era : new.book.era ≡ now.book.era = ap (λ (s : BookState). s.era) book in
      let stamp : new.book.stamp ≡ now.book.stamp = ap (λ (s : BookState). s.stamp) book in
      record {
        answers = kept_answers a new kept;
        ids = kept_ids a new kept;
        answering = subst (λ (z : List Answer × BookState). AreBeingAnswered lane.first lane.orders z.0 z.1.stamp (λ id. IsLive id z.1.routes)) (λ j. (longer a j, sym book j))
            (answers_gone lane.first lane.orders (xs ++ more) now.book.stamp (λ id. IsLive id now.book.routes) (λ id. IsLive id now.book.routes) was.answering n target at number there (λ id lives. lives));
        others = λ id lives none. subst (λ (s : BookState). IsLive id s.routes) (sym book) (was.others id lives (shorter a id none));
        same = subst (λ (s : BookState). IsOnSameGrid old.book s) (sym book) was.same;
        follows = λ p leads. subst (λ (z : List Entry × BookState). EachFollows (IsStronglyAllowed old.book.grid old.book.horizon) p z.0 × LeadsTo (fold followed_by p z.0) z.1) (λ j. (sym same j, sym book j)) (was.follows p leads);
        by = subst (λ (es : List Entry). All (IsReplyBy caller) es) (sym same) was.by;
        in_order = subst IsInOrder (sym same) was.in_order;
        before = λ x h. subst (λ (es : List Entry). All (Precedes x) es) (sym same) (was.before x h);
        behind = subst (λ (z : List Entry × BookState). All (IsBehind z.1) z.0) (λ j. (sym same j, sym book j)) was.behind;
        eras = (omega (arith, eras, era), omega (arith, eras, era, long));
        stamps = (omega (arith, stamps, stamp), omega (arith, stamps, stamp, long));
      }
