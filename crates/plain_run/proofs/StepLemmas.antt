-- What one more answer leaves of a run by one worker.
use Rattle.std.proofs.Common.{◌≡◌, ◌≢◌, ℕ, zero, suc, ◌+◌, ◌<◌, ◌≤◌, inl, inr, ◌&&◌, ◌||◌, ◌==◌, Bool, true, false, true≢false, Option, not, cond, List, [], ◌∷◌, ◌++◌, length, take, Some, refl, sym, ap, ap₂, ◌∙◌, subst, arith, append-nil, eqb-true, eq-eqb}
use Rattle.std.specs.Prelude.{All, IsPermutation, filter, get_or, slice_get, None}
use Rattle.std.specs.List.{list_any}
use Rattle.std.proofs.lemmas.List.{length-append}
use Rattle.std.proofs.lemmas.List.Sums.{fold-append}
use Rattle.std.proofs.lemmas.List.Elements.{All-nil, All-push, filter_map-append}
use Rattle.std.proofs.lemmas.List.Quantifiers.{all_pairs_push}
use Rattle.std.proofs.lemmas.List.Sorted.{list_any-IsPermutation, IsPermutation-refl}
use Rattle.std.proofs.lemmas.Option.{slice_get_within}
use Rattle.fleet_base.specs.declared.request.Request.{Request}
use Rattle.fleet_base.specs.declared.request.RouteId.{RouteId}
use Rattle.fleet_base.specs.declared.request.Live.{Live}
use Rattle.fleet_base.specs.declared.request.Entry.{Entry}
use Rattle.fleet_base.specs.declared.request.Entry.TheVariants as E
use Rattle.fleet_base.specs.Terrain.{Terrain}
use Rattle.fleet_base.specs.TimedWalk.{TimedWalk}
use Rattle.fleet_base.specs.Planned.{NoneFree}
use Rattle.fleet_base.specs.History.{Past, nothing, followed_by, past_of, book_after, reply_of, era_of, same_id, IsLive, IsStrong, IsStronglyAllowed}
use Rattle.fleet_base.specs.Journal.{ComesFirst, Precedes, IsInOrder}
use Rattle.fleet_base.specs.Traffic.{traffic_of}
use Rattle.fleet_base.specs.Canonical.{IsCanonical}
use Rattle.fleet_base.proofs.HistoryLemmas.{follows_push}
use Rattle.fleet_base.proofs.Reorder.{Reorder-from_permutation}
use Rattle.fleet_base.proofs.BookLemmas.{free-reorder, none_more}
use Rattle.fleet_base.proofs.WalkLemmas.{nat_cases}
use Rattle.order_text.specs.declared.lane.Lane.{Lane}
use Rattle.order_text.specs.declared.order.Order.{Order}
use Rattle.order_text.specs.Lanes.{all_orders}
use Rattle.lane_runs.specs.Runs.{IsRun}
use Rattle.order_text.specs.declared.order.Order.TheVariants.{Plan, Cancel}
use Rattle.lane_runs.specs.declared.answer.Answer.{Answer}
use Rattle.lane_runs.specs.declared.answer.Answer.TheVariants.{Made, Gone}
use Rattle.lane_runs.specs.Answers.{entry_made, entries_made, order_of, Committed, Refused, IsReplyAt}
use Rattle.lane_runs.specs.Answering.{NamePlans, AreBeingAnswered}
use Rattle.lane_runs.proofs.AnswerLemmas.{get_cases, answers_begin, answers_commit, answers_refusal, answers_gone, answers_cancel, target_reply, target_live}
use Rattle.plain_book.specs.BookState.{BookState, LeadsTo}
use Rattle.plain_book.specs.Replies.{IsCommit, IsRefusal, IsReplyTo, EndsRoute}
use Rattle.plain_book.specs.History.{AnswersBook}
use Rattle.plain_run.specs.PlainRun.{IsPlainReply, IsPlainAnswer, IsPlainSoFar, IsPlainRun}
use Rattle.plain_run.specs.Underway.{IsNewBook, IsBehind, IsUnderway}

-- ---- lists

pub made_more : (xs : List Answer) (n : ℕ) (e : Entry) → entries_made (xs ++ Made n e ∷ []) ≡ entries_made xs ++ e ∷ []
made_more xs n e = filter_map-append entry_made xs (Made n e ∷ [])

pub gone_more : (xs : List Answer) (n t : ℕ) → entries_made (xs ++ Gone n t ∷ []) ≡ entries_made xs
gone_more xs n t = filter_map-append entry_made xs (Gone n t ∷ []) ∙ append-nil (entries_made xs)

pub past_more : (es : List Entry) (e : Entry) → past_of (es ++ e ∷ []) ≡ followed_by (past_of es) e
past_more es e = fold-append followed_by nothing es (e ∷ [])

take_front : {X : Type 0} (xs ys : List X) (n : ℕ) → n ≤ length xs → take n (xs ++ ys) ≡ take n xs
take_front xs ys zero h = refl
take_front [] ys (suc n) h = absurd (omega arith)
take_front (x ∷ xs) ys (suc n) h = ap (λ l. x ∷ l) (take_front xs ys n (omega arith))

take_all : {X : Type 0} (xs ys : List X) → take (length xs) (xs ++ ys) ≡ xs
take_all [] ys = refl
take_all (x ∷ xs) ys = ap (λ l. x ∷ l) (take_all xs ys)

pub same_some : {X : Type 0} (a b : X) → Some a ≡ Some b → a ≡ b
same_some a b h = cc

-- one answer more, which is right after those before it
run_more : (g : Terrain) (horizon : ℕ) (orders : List Order) (xs : List Answer) (o : Order) (a : Answer) → IsPlainSoFar g horizon orders xs → slice_get orders (length xs) ≡ Some o
    → order_of a ≡ length xs → IsPlainAnswer g horizon xs o a → IsPlainSoFar g horizon orders (xs ++ a ∷ [])
run_more g horizon orders xs o a was at number right = record {
  each = λ i p b oi bi. elim (get_cases xs a i b bi) [
    | inl old ↦
        let below = slice_get_within xs i b old in
        let before = was.each i p b oi old in
        (before.0, subst (λ front. IsPlainAnswer g horizon front p b) (sym (take_front xs (a ∷ []) i (omega arith))) before.1)
    | inr new ↦
        let same : o ≡ p = same_some o p (sym at ∙ (ap (slice_get orders) (sym new.0) ∙ oi)) in
        let front : take i (xs ++ a ∷ []) ≡ xs = ap (λ k. take k (xs ++ a ∷ [])) new.0 ∙ take_all xs (a ∷ []) in
        subst (λ (z : Order × Answer). (order_of z.1 ≡ i) × IsPlainAnswer g horizon (take i (xs ++ a ∷ [])) z.0 z.1) (λ j. (same j, new.1 j))
        (number ∙ sym new.0, subst (λ f. IsPlainAnswer g horizon f o a) (sym front) right)
  ];
}

-- ---- the order of the journal

-- what is behind the book comes before the entry that it answers next
pub behind_first : (book : BookState) (e x : Entry) → era_of e ≡ book.era → ((id : RouteId) → reply_of e ≡ Some id → book.stamp < id.stamp) → IsBehind book x → Precedes x e
behind_first book e x era new (inl less) = inl (omega (arith, era))
behind_first book e x era new (inr same) = inr (same.0 ∙ sym era, first (reply_of x) (reply_of e) refl refl)
  where
    at : (id other : RouteId) → reply_of x ≡ Some id → same.1.0 ≡ other → id ≡ other
    at id other is e = same_some id other (sym is ∙ same.1.1 ∙ ap (λ (r : RouteId). Some r) e)

    first : (a b : Option RouteId) → reply_of x ≡ a → reply_of e ≡ b → ComesFirst a b
    first (Some a) (Some b) ax be =
        let low : a.stamp ≡ same.1.0.stamp = ap (λ (r : RouteId). r.stamp) (at a same.1.0 ax refl) in
        let under = same.1.2 in
        inl (omega (arith, new b be))
    first (Some a) None ax be = tt
    first None b ax be = absurd (no_reply same.1.0 (sym same.1.1 ∙ ax))
      where
        no_reply : (r : RouteId) → Some r ≡ None → ⊥
        no_reply r h = cc

pub order_more : (book : BookState) (es : List Entry) (e : Entry) → IsInOrder es → All (IsBehind book) es → era_of e ≡ book.era → ((id : RouteId) → reply_of e ≡ Some id → book.stamp < id.stamp) → IsInOrder (es ++ e ∷ [])
order_more book es e sorted behind era new = all_pairs_push Precedes es e sorted (λ k d h. behind_first book e (get_or es k d) era new (behind k d h))

-- what was behind stays behind
pub behind_still : (old new : BookState) (x : Entry) → old.era ≤ new.era → old.stamp ≤ new.stamp → IsBehind old x → IsBehind new x
behind_still old new x eras stamps (inl less) = inl (omega arith)
behind_still old new x eras stamps (inr same) = elim (nat_cases (era_of x) new.era) [
  | inl less ↦ inl less
  | inr reached ↦
      let here = same.0 in
      let under = same.1.2 in
      inr (omega arith, (same.1.0, same.1.1, omega arith))
]

pub all_still : (old new : BookState) (es : List Entry) → old.era ≤ new.era → old.stamp ≤ new.stamp → All (IsBehind old) es → All (IsBehind new) es
all_still old new es eras stamps behind k d h = behind_still old new (get_or es k d) eras stamps (behind k d h)

-- ---- live routes

pub or_second : (a b : Bool) → b ≡ true → (a || b) ≡ true
or_second true b h = refl
or_second false b h = h

pub or_first : (a b : Bool) → a ≡ true → (a || b) ≡ true
or_first true b h = refl
or_first false b h = absurd (true≢false (sym h))

pub live_new : (id : RouteId) (w : TimedWalk) (old new : List Live) → IsPermutation new (record { id = id; walk = w } ∷ old) → IsLive id new
live_new id w old new same =
    list_any-IsPermutation (λ r. same_id r.id id) new (record { id = id; walk = w } ∷ old) same ∙ or_first (same_id id id) _ (ap₂ ◌&&◌ (eq-eqb id.stamp id.stamp refl) (eq-eqb id.caller id.caller refl))

pub live_still : (id : RouteId) (w : TimedWalk) (other : RouteId) (old new : List Live) → IsPermutation new (record { id = id; walk = w } ∷ old) → IsLive other old → IsLive other new
live_still id w other old new same lives =
    list_any-IsPermutation (λ r. same_id r.id other) new (record { id = id; walk = w } ∷ old) same ∙ or_second (same_id id other) _ lives

pub any_filter : {X : Type 0} (t k : X → Bool) (xs : List X) → ((x : X) → t x ≡ true → k x ≡ true) → list_any t xs ≡ true → list_any t (filter k xs) ≡ true
any_filter t k [] both h = h
any_filter {X = X} t k (x ∷ xs) both h = by_test (t x) (k x) refl (both x) h (λ rest. any_filter t k xs both rest)
  where
    by_test : (a b : Bool) → t x ≡ a → (a ≡ true → b ≡ true) → (a || list_any t xs) ≡ true → (list_any t xs ≡ true → list_any t (filter k xs) ≡ true) → list_any t (cond b (x ∷ filter k xs) (filter k xs)) ≡ true
    by_test true b e imp any rest = subst (λ (z : Bool). list_any t (cond z (x ∷ filter k xs) (filter k xs)) ≡ true) (sym (imp refl)) (or_first (t x) _ e)
    by_test false true e imp any rest = or_second (t x) _ (rest any)
    by_test false false e imp any rest = rest any

same_stamp : (a b : RouteId) → same_id a b ≡ true → a.stamp ≡ b.stamp
same_stamp a b h = eqb-true a.stamp b.stamp (first_of (a.stamp == b.stamp) (a.caller == b.caller) h)
  where
    first_of : (x y : Bool) → (x && y) ≡ true → x ≡ true
    first_of true y h = refl
    first_of false y h = h

not_same : (a b c : RouteId) → same_id a b ≡ true → b.stamp ≢ c.stamp → not (same_id a c) ≡ true
not_same a b c h apart = by_test (same_id a c) (λ t. apart (sym (same_stamp a b h) ∙ same_stamp a c t))
  where
    by_test : (x : Bool) → (x ≡ true → ⊥) → not x ≡ true
    by_test true off = absurd (off refl)
    by_test false off = refl

pub live_others : (id other : RouteId) (old new : List Live) → IsPermutation new (filter (λ r. not (same_id r.id id)) old) → other.stamp ≢ id.stamp → IsLive other old → IsLive other new
live_others id other old new same apart lives =
    list_any-IsPermutation (λ r. same_id r.id other) new (filter (λ r. not (same_id r.id id)) old) same
    ∙ any_filter (λ r. same_id r.id other) (λ r. not (same_id r.id id)) old (λ r test. not_same r.id other id test apart) lives

-- ---- the run

pub run_begins : (orders : List Order) (book : BookState) → IsNewBook book → IsUnderway book.grid book.horizon orders [] book
run_begins orders book new =
    let stamp = new.stamp in
    let era = new.era in
    record {
      grid_is = refl;
      horizon_is = refl;
      run = record { each = λ i o a at here. absurd (cc) };
      answering = answers_begin 0 book.stamp orders (λ id. IsLive id book.routes);
      leads = record {
        routes = subst (λ (l : List Live). IsPermutation [] l) (sym new.routes) (IsPermutation-refl []);
        era = sym new.era;
        stamps = All-nil (λ id. id.stamp ≤ book.stamp);
        live_stamps = subst (λ (l : List Live). All (λ r. r.id.stamp ≤ book.stamp) l) (sym new.routes) (All-nil (λ r. r.id.stamp ≤ book.stamp));
      };
      strong = tt;
      in_order = λ i j d h k. absurd (omega arith);
      behind = All-nil (IsBehind book);
      stamp_is = new.stamp;
      few_stamps = omega arith;
      few_eras = omega arith;
    }

module _ (g : Terrain) (horizon : ℕ) (orders : List Order) (xs : List Answer) (old : BookState) (was : IsUnderway g horizon orders xs old) where
  -- an entry that the book answers may follow what came before
  strong_more : (e : Entry) (new : BookState) → AnswersBook old new e → IsStrong g horizon (entries_made xs ++ e ∷ [])
  strong_more e new answers =
      let allowed = answers.follows (past_of (entries_made xs)) was.leads in
      let here : IsStronglyAllowed g horizon (past_of (entries_made xs)) e =
      subst (λ (z : Terrain × ℕ). IsStronglyAllowed z.0 z.1 (past_of (entries_made xs)) e) (λ j. (was.grid_is j, was.horizon_is j)) allowed in
      follows_push (IsStronglyAllowed g horizon) nothing (entries_made xs) e was.strong here

  leads_more : (e : Entry) (new : BookState) → AnswersBook old new e → LeadsTo (past_of (entries_made xs ++ e ∷ [])) new
  leads_more e new answers = subst (λ p. LeadsTo p new) (sym (past_more (entries_made xs) e)) (answers.leads (past_of (entries_made xs)) was.leads)

  -- all but the answers themselves, which the cases give
  entry_more : (n : ℕ) (e : Entry) (o : Order) (new : BookState) → AnswersBook old new e → new.grid ≡ old.grid → new.horizon ≡ old.horizon → old.era ≤ new.era → old.stamp ≤ new.stamp
      → era_of e ≡ old.era → ((id : RouteId) → reply_of e ≡ Some id → old.stamp < id.stamp) → IsBehind new e
      → new.stamp ≡ length (followed_by (past_of (entries_made xs)) e).replies → new.stamp ≤ length xs + 1 → new.era ≤ length xs + 1
      → slice_get orders (length xs) ≡ Some o → n ≡ length xs → IsPlainAnswer g horizon xs o (Made n e)
      → AreBeingAnswered 0 orders (xs ++ Made n e ∷ []) new.stamp (λ id. IsLive id new.routes)
      → IsUnderway g horizon orders (xs ++ Made n e ∷ []) new
  entry_more n e o new answers grid horizon_same eras stamps era above behind replies few_stamps few_eras at number right answering =
      let long = length-append xs (Made n e ∷ []) in
      let made = made_more xs n e in
      record {
        grid_is = grid ∙ was.grid_is;
        horizon_is = horizon_same ∙ was.horizon_is;
        run = run_more g horizon orders xs o (Made n e) was.run at number right;
        answering = answering;
        leads = subst (λ (es : List Entry). LeadsTo (past_of es) new) (sym made) (leads_more e new answers);
        strong = subst (λ (es : List Entry). IsStrong g horizon es) (sym made) (strong_more e new answers);
        in_order = subst IsInOrder (sym made) (order_more old (entries_made xs) e was.in_order was.behind era above);
        behind = subst (λ (es : List Entry). All (IsBehind new) es) (sym made) (All-push (IsBehind new) (entries_made xs) e (all_still old new (entries_made xs) eras stamps was.behind) behind);
        stamp_is = replies ∙ ap (λ (p : Past). length p.replies) (sym (past_more (entries_made xs) e)) ∙ ap (λ (es : List Entry). length (past_of es).replies) (sym made);
        few_stamps = omega arith;
        few_eras = omega arith;
      }

  pub commit_more : (n : ℕ) (q : Request) (id : RouteId) (era : ℕ) (asked : Request) (w : TimedWalk) (new : BookState) → slice_get orders (length xs) ≡ Some (Plan q) → n ≡ length xs
      → IsCommit old 0 q id era asked w new → AnswersBook old new (E.Commit id era asked w) → IsUnderway g horizon orders (xs ++ Made n (E.Commit id era asked w) ∷ []) new
  commit_more n q id era asked w new at number is answers =
      let e : Entry = E.Commit id era asked w in
      let stamp : id.stamp ≡ old.stamp + 1 = ap (λ (r : RouteId). r.stamp) is.id_is in
      let new_stamp : new.stamp ≡ old.stamp + 1 = ap (λ (s : BookState). s.stamp) is.rest_is in
      let new_era : new.era ≡ old.era = ap (λ (s : BookState). s.era) is.rest_is in
      let count = was.stamp_is in
      let few = was.few_stamps in
      let few_eras = was.few_eras in
      let leads = was.leads in
      let canonical : IsCanonical g horizon (traffic_of (book_after (entries_made xs))) q w =
      subst (λ (z : Terrain × ℕ). IsCanonical z.0 z.1 (traffic_of (book_after (entries_made xs))) q w) (λ j. (was.grid_is j, was.horizon_is j))
      (is.walk_is.canonical (book_after (entries_made xs)) leads.routes) in
      let reply : IsPlainReply g horizon (entries_made xs) q e =
      (is.id_is ∙ ap (λ (k : ℕ). record { stamp = k + 1; caller = 0 }) was.stamp_is, is.in_era ∙ sym leads.era, is.request_is, canonical) in
      entry_more n e (Plan q) new answers (ap (λ (s : BookState). s.grid) is.rest_is) (ap (λ (s : BookState). s.horizon) is.rest_is) (omega arith) (omega arith)
      is.in_era (λ other r. let same : id ≡ other = same_some id other r in omega (arith, ap (λ (r : RouteId). r.stamp) same)) (inr (is.in_era ∙ sym new_era, (id, refl, omega arith)))
      (omega arith) (omega arith) (omega arith) at number reply
      (subst (λ (r : Request). AreBeingAnswered 0 orders (xs ++ Made n (E.Commit id era r w) ∷ []) new.stamp (λ other. IsLive other new.routes)) (sym is.request_is)
      (answers_commit 0 orders xs old.stamp (λ other. IsLive other old.routes) (λ other. IsLive other new.routes) was.answering n new.stamp era id q w at (omega (arith, number))
      (omega arith) (omega arith) (live_new id w old.routes new.routes is.routes_are) (λ other lives. live_still id w other old.routes new.routes is.routes_are lives)))

  pub refusal_more : (n : ℕ) (q : Request) (stamp caller era : ℕ) (asked : Request) (new : BookState) → slice_get orders (length xs) ≡ Some (Plan q) → n ≡ length xs
      → IsRefusal old 0 q stamp caller era asked new → AnswersBook old new (E.NoRoute stamp caller era asked) → IsUnderway g horizon orders (xs ++ Made n (E.NoRoute stamp caller era asked) ∷ []) new
  refusal_more n q stamp caller era asked new at number is answers =
      let e : Entry = E.NoRoute stamp caller era asked in
      let stamp_is = is.stamp_is in
      let new_stamp : new.stamp ≡ old.stamp + 1 = ap (λ (s : BookState). s.stamp) is.rest_is in
      let new_era : new.era ≡ old.era = ap (λ (s : BookState). s.era) is.rest_is in
      let routes : new.routes ≡ old.routes = ap (λ (s : BookState). s.routes) is.rest_is in
      let count = was.stamp_is in
      let few = was.few_stamps in
      let few_eras = was.few_eras in
      let leads = was.leads in
      let here : NoneFree g horizon q old.routes = subst (λ (z : Terrain × ℕ). NoneFree z.0 z.1 q old.routes) (λ j. (was.grid_is j, was.horizon_is j)) is.none_free in
      let none : NoneFree g horizon q (book_after (entries_made xs)) = none_more (λ w free. free-reorder w (Reorder-from_permutation _ _ leads.routes) free) here in
      let reply : IsPlainReply g horizon (entries_made xs) q e = (is.stamp_is ∙ ap (λ (k : ℕ). k + 1) was.stamp_is, is.caller_is, is.in_era ∙ sym leads.era, is.request_is, none) in
      entry_more n e (Plan q) new answers (ap (λ (s : BookState). s.grid) is.rest_is) (ap (λ (s : BookState). s.horizon) is.rest_is) (omega arith) (omega arith)
      is.in_era (λ other r. let same : record { stamp = stamp; caller = caller } ≡ other = same_some (record { stamp = stamp; caller = caller }) other r in omega (arith, ap (λ (r : RouteId). r.stamp) same))
      (inr (is.in_era ∙ sym new_era, (record { stamp = stamp; caller = caller }, refl, omega arith)))
      (omega arith) (omega arith) (omega arith) at number reply
      (subst (λ (r : Request). AreBeingAnswered 0 orders (xs ++ Made n (E.NoRoute stamp caller era r) ∷ []) new.stamp (λ other. IsLive other new.routes)) (sym is.request_is)
      (answers_refusal 0 orders xs old.stamp (λ other. IsLive other old.routes) (λ other. IsLive other new.routes) was.answering n new.stamp stamp caller era q at (omega (arith, number))
      (omega arith) (λ other lives. subst (IsLive other) (sym routes) lives)))

  pub plan_more : (n : ℕ) (q : Request) (e : Entry) (new : BookState) → slice_get orders (length xs) ≡ Some (Plan q) → n ≡ length xs → IsReplyTo old 0 q e new → AnswersBook old new e
      → IsUnderway g horizon orders (xs ++ Made n e ∷ []) new
  plan_more n q (E.Commit id era asked w) new at number is answers = commit_more n q id era asked w new at number is answers
  plan_more n q (E.Cancel id era) new at number is answers = absurd is
  plan_more n q (E.NoRoute stamp caller era asked) new at number is answers = refusal_more n q stamp caller era asked new at number is answers

  pub cancel_more : (n target : ℕ) (id : RouteId) (e : Entry) (new : BookState) → NamePlans 0 orders → slice_get orders (length xs) ≡ Some (Cancel target) → n ≡ length xs
      → Committed xs target id → EndsRoute old id e new → AnswersBook old new e → IsUnderway g horizon orders (xs ++ Made n e ∷ []) new
  cancel_more n target id e new names at number there is answers =
      subst (λ (x : Entry). IsUnderway g horizon orders (xs ++ Made n x ∷ []) new) (sym is.entry_is) (ends (subst (AnswersBook old new) is.entry_is answers))
    where
      ends : AnswersBook old new (E.Cancel id old.era) → IsUnderway g horizon orders (xs ++ Made n (E.Cancel id old.era) ∷ []) new
      ends answers =
          let new_stamp : new.stamp ≡ old.stamp = ap (λ (s : BookState). s.stamp) is.rest_is in
          let new_era : new.era ≡ old.era + 1 = ap (λ (s : BookState). s.era) is.rest_is in
          let count = was.stamp_is in
          let few = was.few_stamps in
          let few_eras = was.few_eras in
          entry_more n (E.Cancel id old.era) (Cancel target) new answers (ap (λ (s : BookState). s.grid) is.rest_is) (ap (λ (s : BookState). s.horizon) is.rest_is) (omega arith) (omega arith)
          refl (λ other r. absurd (cc)) (inl (omega arith))
          (omega arith) (omega arith) (omega arith) at number (there, sym was.leads.era)
          (subst (λ (s : ℕ). AreBeingAnswered 0 orders (xs ++ Made n (E.Cancel id old.era) ∷ []) s (λ other. IsLive other new.routes)) (sym new_stamp)
          (answers_cancel 0 orders xs old.stamp (λ other. IsLive other old.routes) (λ other. IsLive other new.routes) was.answering n target old.era id names at (omega (arith, number))
          (subst (λ (k : ℕ). Committed xs k id) (omega arith) there) (λ other apart lives. live_others id other old.routes new.routes is.routes_are apart lives)))

  pub gone_more_step : (n target : ℕ) → slice_get orders (length xs) ≡ Some (Cancel target) → n ≡ length xs → Refused xs target → IsUnderway g horizon orders (xs ++ Gone n target ∷ []) old
  gone_more_step n target at number there =
      let long = length-append xs (Gone n target ∷ []) in
      let same = gone_more xs n target in
      let few = was.few_stamps in
      let few_eras = was.few_eras in
      record {
        grid_is = was.grid_is;
        horizon_is = was.horizon_is;
        run = run_more g horizon orders xs (Cancel target) (Gone n target) was.run at number (refl, there);
        answering = answers_gone 0 orders xs old.stamp (λ other. IsLive other old.routes) (λ other. IsLive other old.routes) was.answering n target at (omega (arith, number))
            (subst (Refused xs) (omega arith) there) (λ other lives. lives);
        leads = subst (λ (es : List Entry). LeadsTo (past_of es) old) (sym same) was.leads;
        strong = subst (λ (es : List Entry). IsStrong g horizon es) (sym same) was.strong;
        in_order = subst IsInOrder (sym same) was.in_order;
        behind = subst (λ (es : List Entry). All (IsBehind old) es) (sym same) was.behind;
        stamp_is = was.stamp_is ∙ ap (λ (es : List Entry). length (past_of es).replies) (sym same);
        few_stamps = omega arith;
        few_eras = omega arith;
      }

  -- what a cancel names
  pub named_reply : (target : ℕ) → NamePlans 0 orders → slice_get orders (length xs) ≡ Some (Cancel target) → IsReplyAt xs target
  named_reply target names at = subst (IsReplyAt xs) (omega arith) (target_reply 0 orders xs old.stamp (λ other. IsLive other old.routes) (λ other. IsLive other old.routes) was.answering target names at)

  pub named_live : (target : ℕ) (id : RouteId) → NamePlans 0 orders → slice_get orders (length xs) ≡ Some (Cancel target) → Committed xs target id → IsLive id old.routes
  named_live target id names at there =
      target_live 0 orders xs old.stamp (λ other. IsLive other old.routes) (λ other. IsLive other old.routes) was.answering target id names at (subst (λ (k : ℕ). Committed xs k id) (omega arith) there)

-- ---- the end of the run

pub plain_ends : (g : Terrain) (horizon : ℕ) (orders : List Order) (xs : List Answer) (book : BookState) → IsUnderway g horizon orders xs book → length xs ≡ length orders → IsPlainRun g horizon orders xs
plain_ends g horizon orders xs book was whole = record { whole = whole; right = was.run }

pub run_ends : (g : Terrain) (horizon : ℕ) (lanes : List Lane) (xs : List Answer) (book : BookState) → IsUnderway g horizon (all_orders lanes) xs book → length xs ≡ length (all_orders lanes) → IsRun lanes xs
run_ends g horizon lanes xs book was whole = record { by_number = xs; right = was.answering.right; whole = whole; same = IsPermutation-refl xs }
