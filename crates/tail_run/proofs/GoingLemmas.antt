-- The tail begins, goes on by one lane, and ends.
use Rattle.std.proofs.Common.{◌≡◌, ◌≢◌, ℕ, suc, ◌+◌, ◌≤◌, inl, inr, List, [], ◌∷◌, ◌++◌, length, set, replicate, Option, Some, None, refl, sym, ap, ◌∙◌, subst, arith, append_assoc, append-nil}
use Rattle.std.specs.Prelude.{All, fold, slice_get, IsPermutation}
use Rattle.std.proofs.lemmas.List.{length-append}
use Rattle.std.proofs.lemmas.List.Sums.{fold-append}
use Rattle.std.proofs.lemmas.List.Elements.{All-nil, All-append, All-weaker}
use Rattle.std.proofs.lemmas.List.Sorted.{All-permutation, Contains-permutation, IsPermutation-sym, IsPermutation-trans, list_any-IsPermutation}
use Rattle.std.proofs.lemmas.Option.{slice_get_within}
use Rattle.fleet_base.specs.declared.request.RouteId.{RouteId}
use Rattle.fleet_base.specs.declared.request.Entry.{Entry}
use Rattle.fleet_base.specs.declared.request.Entry.TheVariants as E
use Rattle.fleet_base.specs.Terrain.{Terrain}
use Rattle.fleet_base.specs.History.{Past, nothing, followed_by, past_of, book_after, same_id, IsLive, IsLegal, IsStrong, IsStronglyAllowed, EachFollows}
use Rattle.fleet_base.specs.Journal.{Precedes, IsInOrder}
use Rattle.fleet_base.proofs.HistoryLemmas.{follows_append, of_replies}
use Rattle.fleet_base.proofs.JournalLaw.{legal-from_strong, journal_keeps}
use Rattle.fleet_base.proofs.TailLemmas.{IsPast, AllPairs-append}
use Rattle.order_text.specs.declared.lane.Lane.{Lane}
use Rattle.order_text.specs.Lanes.{all_orders, AreLanes}
use Rattle.lane_runs.specs.declared.answer.Answer.{Answer}
use Rattle.lane_runs.specs.declared.answer.Left.{Left}
use Rattle.lane_runs.specs.Answers.{entries_made, order_of}
use Rattle.lane_runs.specs.Answering.{AreBeingAnswered}
use Rattle.plain_book.specs.BookState.{BookState, LeadsTo}
use Rattle.plain_book.specs.Resuming.{HasRoutes}
use Rattle.plain_run.specs.Underway.{IsBehind}
use Rattle.journal_lines.specs.Printing.{ArePrinted, AreAJournal}
use Rattle.journal_lines.proofs.Numbering.{All-at, All-among, All-from_each}
use Rattle.planner_pool.specs.Runs.{IsRunUpTo, IsLeftOf, lanes_left}
use Rattle.planner_pool.specs.PoolRun.{StandsIn, Holds, replies_in}
use Rattle.planner_pool.proofs.StandLemmas.{stands_all}
use Rattle.planner_pool.proofs.RunLemmas.{whole_run, lane_done}
use Rattle.planner_pool.proofs.IdLemmas.{ids_apart}
use Rattle.planner_pool.proofs.LaneLemmas.{answering_weaker}
use Rattle.tail_run.specs.declared.lane.Tail.{Tail}
use Rattle.tail_run.specs.Ids.{noted, ids_of, AreIdsOf}
use Rattle.tail_run.specs.Leaving.{live_after, top_stamp, ended_count}
use Rattle.tail_run.specs.Finished.{HasBegun, IsOfLeft, IsFinished}
use Rattle.tail_run.specs.Tails.{IsReplyBy, IsStart, GoesOn, IsGoing}
use Rattle.tail_run.proofs.JournalLemmas.{has_journal, part_in_order}
use Rattle.tail_run.proofs.LeavingLemmas.{leads, stamps_under, top_few, replies_few, ended_few}
use Rattle.tail_run.proofs.KeepingLemmas.{each_list, same_some, made_among, order_at, lanes_in_order}
use Rattle.tail_run.proofs.PrintedLemmas.{journal_of}
use Rattle.tail_run.proofs.GivenLemmas.{ids_at, set_here}
use Rattle.tail_run.proofs.BehindLemmas.{HasStampIn, made_append, made_permutation, of_one, all_entries, get_later, set_cases, all_past, is_behind, behind_more}

-- ---- the tail begins

module _ (g : Terrain) (horizon caller cells : ℕ) (lanes : List Lane) (are : AreLanes cells lanes) where
  parts_in_order : (by_lane : List (List Answer)) (answers : List Answer) (list : List Entry) → Holds lanes by_lane answers list → (k : ℕ) (xs : List Answer)
      → slice_get by_lane k ≡ Some xs → IsInOrder (entries_made xs)
  parts_in_order by_lane answers list holds k xs at =
      let j = has_journal list in
      part_in_order (entries_made xs) j.0 (All-at (λ (ys : List Answer). StandsIn (entries_made ys) j.0) by_lane k xs (holds.in_journal j.0 j.1) at) j.1.in_order

  pub going_begins : (made : List Answer) (left all : List Left) (t : Tail) → HasBegun g horizon lanes made left → IsPermutation left all
      → HasRoutes t.book g horizon (live_after made) (top_stamp made) (ended_count made) → t.ids.items ≡ ids_of (length (all_orders lanes)) made → t.answers.items ≡ made → IsGoing g horizon caller lanes made all all t
  going_begins made left all t begun same has ids_are answers_are =
      let list = begun.list in
      let by_lane = begun.by_lane in
      let holds = begun.holds in
      let run = begun.run in
      let legal : IsLegal g horizon list = legal-from_strong g horizon list nothing begun.strong in
      let lead : LeadsTo (past_of list) t.book = leads g horizon made list legal holds.entries t.book has in
      let top : top_stamp made ≡ t.book.stamp = ap (λ (b : BookState). b.stamp) (sym has.rest_is) in
      let era : ended_count made ≡ t.book.era = ap (λ (b : BookState). b.era) (sym has.rest_is) in
      let under : All (HasStampIn (top_stamp made)) list = (of_replies (λ id. id.stamp ≤ top_stamp made) list nothing (stamps_under made list holds.entries)).0 in
      let past : All (IsPast (past_of list).era) list = all_past g horizon list nothing legal in
      let behind : All (IsBehind t.book) list = λ k d within. is_behind t.book (past_of list).era (top_stamp made) _ lead.era top (past k d within) (under k d within) in
      let whole : list ≡ list ++ [] = sym (append-nil list) in
      record {
        by_lane = by_lane;
        list = list;
        tail = [];
        grid = ap (λ (b : BookState). b.grid) has.rest_is;
        horizon_is = ap (λ (b : BookState). b.horizon) has.rest_is;
        answers_are = answers_are ∙ sym (append-nil made);
        entries = holds.entries;
        strong = subst (λ (es : List Entry). IsStrong g horizon es) whole begun.strong;
        leads = subst (λ (es : List Entry). LeadsTo (past_of es) t.book) whole lead;
        run = subst (λ (l : List Answer). IsRunUpTo lanes by_lane l all) (sym answers_are)
            record { long = run.long; each = run.each; answers_are = run.answers_are; left_are = IsPermutation-trans (lanes_left 0 lanes by_lane) left all run.left_are same };
        among = λ l here. here;
        each = λ k lane xs at answered.
            answering_weaker lane.first lane.orders xs (replies_in list) t.book.stamp (λ id. IsLive id (book_after list)) (λ id. IsLive id t.book.routes) (holds.goes_on k lane xs at answered)
            (λ j id c.
            let low : id.stamp ≤ top_stamp made =
            All-among (HasStampIn (top_stamp made)) (E.Commit id c.era c.request c.walk) (entries_made xs)
            (stands_all (HasStampIn (top_stamp made)) (entries_made xs) list (All-at (λ (ys : List Answer). StandsIn (entries_made ys) list) by_lane k xs holds.in_order answered) under)
            (made_among xs j c.order (E.Commit id c.era c.request c.walk) c.at) in
            omega arith)
            (λ id low live. sym (list_any-IsPermutation (λ r. same_id r.id id) (book_after list) t.book.routes lead.routes) ∙ live);
        in_order = parts_in_order by_lane made list holds;
        behind = subst (λ (es : List Entry). All (IsBehind t.book) es) whole behind;
        by = All-nil (IsReplyBy caller);
        of_left = All-nil (λ a. IsOfLeft lanes all (order_of a));
        ids = ids_are ∙ ap (ids_of (length (all_orders lanes))) (sym answers_are);
        stamps = omega (arith, top, ap length answers_are, top_few made list holds.entries (replies_in list) holds.stamps, replies_few made list holds.entries);
        eras = omega (arith, era, ap length answers_are, ended_few made);
      }

  -- ---- it ends

  -- a run of which no lane is left, with the entries of a strong history, is printed as a journal
  ends_printed : (by_lane : List (List Answer)) (answers : List Answer) (es : List Entry) → IsRunUpTo lanes by_lane answers []
      → ((k : ℕ) (xs : List Answer) → slice_get by_lane k ≡ Some xs → IsInOrder (entries_made xs))
      → IsStrong g horizon es → IsPermutation (entries_made answers) es → (printed : List Answer) → ArePrinted answers printed → AreAJournal g horizon lanes printed
  ends_printed by_lane answers es run in_order strong entries printed order =
      let same : IsPermutation es (entries_made printed) =
      IsPermutation-trans es (entries_made answers) (entries_made printed) (IsPermutation-sym (entries_made answers) es entries) (made_permutation answers printed order.same) in
      journal_of g horizon cells lanes answers printed are (whole_run cells lanes by_lane answers are run)
      (journal_keeps g horizon es (entries_made printed) strong record { same = same; in_order = order.in_order }).legal
      (lanes_in_order cells lanes by_lane answers [] are run in_order) order

  pub going_ends : (made : List Answer) (left all : List Left) (t : Tail) → IsGoing g horizon caller lanes made all [] t → IsPermutation left all
      → IsFinished g horizon caller lanes made left t.answers.items
  going_ends made left all t going same = record {
    tail = going.tail;
    all_are = going.answers_are;
    run = whole_run cells lanes going.by_lane t.answers.items are going.run;
    journal = ends_printed going.by_lane t.answers.items (going.list ++ entries_made going.tail) going.run going.in_order going.strong
        (all_entries made going.tail t.answers.items going.list going.answers_are going.entries);
    by = going.by;
    of_left = All-weaker (λ a. IsOfLeft lanes all (order_of a)) (λ a. IsOfLeft lanes left (order_of a))
        (λ a of. record {
          which = of.which;
          lane = of.lane;
          was_left = Contains-permutation all left of.which (IsPermutation-sym left all same) of.was_left;
          at = of.at;
          from = of.from;
          before_end = of.before_end;
        })
        going.tail going.of_left;
  }

  -- where no lane was left there is no tail
  pub nothing_left : (made : List Answer) → HasBegun g horizon lanes made [] → IsFinished g horizon caller lanes made [] made
  nothing_left made begun = record {
    tail = [];
    all_are = sym (append-nil made);
    run = whole_run cells lanes begun.by_lane made are begun.run;
    journal = ends_printed begun.by_lane made begun.list begun.run (parts_in_order begun.by_lane made begun.list begun.holds) begun.strong begun.holds.entries;
    by = All-nil (IsReplyBy caller);
    of_left = All-nil (λ a. IsOfLeft lanes [] (order_of a));
  }

  -- ---- it goes on by one lane

  module _ (made : List Answer) (all left : List Left) (l : Left) (t : Tail) (going : IsGoing g horizon caller lanes made all (l ∷ left) t) (is : IsLeftOf lanes going.by_lane l) where
    pub going_start : IsStart is.lane is.answers l.from t
    going_start = record {
      answering = going.each l.lane is.lane is.answers is.at is.answered;
      ids = subst (λ (ids : List (Option RouteId)). AreIdsOf is.lane is.answers ids) (sym going.ids)
          (ids_at cells lanes going.by_lane t.answers.items (l ∷ left) are going.run l.lane is.lane is.answers is.at is.answered);
      place = is.from;
    }

    module _ (t' : Tail) (more : List Answer) (goes : GoesOn caller is.lane is.answers t more t') (whole : length (is.answers ++ more) ≡ length is.lane.orders) where
      abbrev full : List Answer
      full = is.answers ++ more

      abbrev after : List (List Answer)
      after = set going.by_lane l.lane full

      abbrev old_entries : List Entry
      old_entries = going.list ++ entries_made going.tail

      abbrev new_entries : List Entry
      new_entries = going.list ++ entries_made (going.tail ++ more)

      entries_more : old_entries ++ entries_made more ≡ new_entries
      entries_more = append_assoc going.list (entries_made going.tail) (entries_made more) ∙ ap (λ (es : List Entry). going.list ++ es) (sym (made_append going.tail more))

      answers_more : t'.answers.items ≡ made ++ (going.tail ++ more)
      answers_more = goes.answers ∙ (ap (λ (xs : List Answer). xs ++ more) going.answers_are ∙ append_assoc made going.tail more)

      follow : EachFollows (IsStronglyAllowed t.book.grid t.book.horizon) (past_of old_entries) (entries_made more) × LeadsTo (fold followed_by (past_of old_entries) (entries_made more)) t'.book
      follow = goes.follows (past_of old_entries) going.leads

      strong_more : IsStrong g horizon new_entries
      strong_more =
          subst (λ (es : List Entry). IsStrong g horizon es) entries_more
          (follows_append (IsStronglyAllowed g horizon) nothing old_entries (entries_made more) going.strong
          (subst (λ (z : Terrain × ℕ). EachFollows (IsStronglyAllowed z.0 z.1) (past_of old_entries) (entries_made more)) (λ i. (going.grid i, going.horizon_is i)) follow.0))

      leads_more : LeadsTo (past_of new_entries) t'.book
      leads_more =
          subst (λ (es : List Entry). LeadsTo (past_of es) t'.book) entries_more
          (subst (λ (p : Past). LeadsTo p t'.book) (sym (fold-append followed_by nothing old_entries (entries_made more))) follow.1)

      run_more : IsRunUpTo lanes after t'.answers.items left
      run_more = subst (λ (xs : List Answer). IsRunUpTo lanes after xs left) (sym goes.answers) (lane_done lanes going.by_lane t.answers.items more l left is going.run goes.answering.right whole)

      -- commits of this lane have ids of their own, so what is live of other lanes still is
      other_lane : (k : ℕ) (lane : Lane) (xs : List Answer) → k ≢ l.lane → slice_get lanes k ≡ Some lane → slice_get going.by_lane k ≡ Some xs → slice_get after k ≡ Some xs
          → AreBeingAnswered lane.first lane.orders xs t'.book.stamp (λ id. IsLive id t'.book.routes)
      other_lane k lane xs apart at old answered =
          let was = going.each k lane xs at old in
          record {
            right = was.right;
            live = λ j id c unended. goes.others id (was.live j id c unended)
                (λ i d. ids_apart g horizon after t'.answers.items new_entries (legal-from_strong g horizon new_entries nothing strong_more) run_more.answers_are
                (all_entries made (going.tail ++ more) t'.answers.items going.list answers_more going.entries) k l.lane j i xs full id id apart answered
                (set_here going.by_lane l.lane full (slice_get_within going.by_lane l.lane is.answers is.answered)) c d refl);
            under = λ j id c. let low = was.under j id c in let rise = goes.stamps.0 in omega arith;
            rising = was.rising;
          }

      each_more : (k : ℕ) (lane : Lane) (xs : List Answer) → slice_get lanes k ≡ Some lane → slice_get after k ≡ Some xs
          → AreBeingAnswered lane.first lane.orders xs t'.book.stamp (λ id. IsLive id t'.book.routes)
      each_more k lane xs at answered = elim (set_cases going.by_lane l.lane k full xs answered) [
        | inl old ↦ other_lane k lane xs old.0 at old.1 answered
        | inr new ↦
            let same : is.lane ≡ lane = same_some is.lane lane (sym is.at ∙ (ap (slice_get lanes) (sym new.0) ∙ at)) in
            subst (λ (z : Lane × List Answer). AreBeingAnswered z.0.first z.0.orders z.1 t'.book.stamp (λ id. IsLive id t'.book.routes)) (λ i. (same i, new.1 i)) goes.answering
      ]

      -- the book had come past all entries of the lane, so the new ones stand behind them
      full_in_order : IsInOrder (entries_made full)
      full_in_order =
          let entries = IsPermutation-trans (entries_made (each_list going.by_lane)) (entries_made t.answers.items) old_entries
          (made_permutation (each_list going.by_lane) t.answers.items going.run.answers_are) (all_entries made going.tail t.answers.items going.list going.answers_are going.entries) in
          let behind : All (IsBehind t.book) (entries_made is.answers) =
          of_one (IsBehind t.book) going.by_lane l.lane is.answers is.answered
          (All-permutation (IsBehind t.book) old_entries (entries_made (each_list going.by_lane)) (IsPermutation-sym (entries_made (each_list going.by_lane)) old_entries entries) going.behind) in
          subst (λ (es : List Entry). IsInOrder es) (sym (made_append is.answers more))
          (AllPairs-append Precedes (entries_made is.answers) (entries_made more) (going.in_order l.lane is.answers is.answered) goes.in_order
          (All-weaker (IsBehind t.book) (λ x. All (Precedes x) (entries_made more)) goes.before (entries_made is.answers) behind))

      behind_all : All (IsBehind t'.book) new_entries
      behind_all =
          subst (λ (es : List Entry). All (IsBehind t'.book) es) entries_more
          (All-append (IsBehind t'.book) old_entries (entries_made more)
          (All-weaker (IsBehind t.book) (IsBehind t'.book) (λ e. behind_more t.book t'.book e goes.eras.0 goes.stamps.0) old_entries going.behind) goes.behind)

      of_this : (i : ℕ) (a : Answer) → slice_get more i ≡ Some a → IsOfLeft lanes all (order_of a)
      of_this i a at =
          let o = order_at is.lane.first is.lane.orders full (length is.answers + i) a goes.answering.right (get_later is.answers more i a at) in
          let less = o.2 in
          let number = o.3 in
          let from = is.from in
          record { which = l; lane = is.lane; was_left = going.among l (0, omega arith, refl); at = is.at; from = omega arith; before_end = omega arith }

      pub going_more : IsGoing g horizon caller lanes made all left t'
      going_more = record {
        by_lane = after;
        list = going.list;
        tail = going.tail ++ more;
        grid = goes.same.grid ∙ going.grid;
        horizon_is = goes.same.horizon ∙ going.horizon_is;
        answers_are = answers_more;
        entries = going.entries;
        strong = strong_more;
        leads = leads_more;
        run = run_more;
        among = λ one here. going.among one (suc here.0, omega (arith, here.1), here.2);
        each = each_more;
        in_order = λ k xs answered. elim (set_cases going.by_lane l.lane k full xs answered) [
          | inl old ↦ going.in_order k xs old.1
          | inr new ↦ subst (λ (ys : List Answer). IsInOrder (entries_made ys)) new.1 full_in_order
        ];
        behind = behind_all;
        by = subst (λ (es : List Entry). All (IsReplyBy caller) es) (sym (made_append going.tail more)) (All-append (IsReplyBy caller) (entries_made going.tail) (entries_made more) going.by goes.by);
        of_left = All-append (λ a. IsOfLeft lanes all (order_of a)) going.tail more going.of_left (All-from_each (λ a. IsOfLeft lanes all (order_of a)) more of_this);
        ids = goes.ids ∙ (ap (λ (ids : List (Option RouteId)). fold noted ids more) going.ids
            ∙ (sym (fold-append noted (replicate (length (all_orders lanes)) None) t.answers.items more) ∙ ap (ids_of (length (all_orders lanes))) (sym goes.answers)));
        stamps = let was = going.stamps in let rise = goes.stamps.1 in omega (arith, ap length goes.answers, length-append t.answers.items more);
        eras = let was = going.eras in let rise = goes.eras.1 in omega (arith, ap length goes.answers, length-append t.answers.items more);
      }
