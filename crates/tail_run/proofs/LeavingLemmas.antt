-- What the answers of a run leave is what each legal history of their entries leaves.
use Rattle.std.proofs.Common.{◌≡◌, ◌≢◌, ℕ, zero, suc, ◌+◌, ◌≤◌, inl, inr, ◌||◌, Bool, true, false, cond, List, [], ◌∷◌, ◌++◌, length, take, Option, Some, None}
use Rattle.std.proofs.Common.{refl, sym, ap, ap₂, subst, ◌∙◌, arith, not, max, append-nil}
use Rattle.std.specs.Prelude.{All, AllPairs, IfSome, IsPermutation, filter, fold, slice_get, count_by}
use Rattle.std.specs.List.{list_any, filter_map, cons_option}
use Rattle.std.proofs.lemmas.List.{length-append}
use Rattle.std.proofs.lemmas.List.Sums.{fold-append, sum_by-cons}
use Rattle.std.proofs.lemmas.List.Elements.{All-nil, All-cons, All-head, All-tail, All-weaker, All-filter, filter-append, filter_map-append}
use Rattle.std.proofs.lemmas.List.Kept.{AllPairs-cons, AllPairs-filter}
use Rattle.std.proofs.lemmas.List.Sorted.{All-permutation, IsPermutation-sym, IsPermutation-trans, list_any-IsPermutation, sum_by-IsPermutation, length_permutation}
use Rattle.fleet_base.specs.declared.request.RouteId.{RouteId}
use Rattle.fleet_base.specs.declared.request.Live.{Live}
use Rattle.fleet_base.specs.declared.request.Entry.{Entry}
use Rattle.fleet_base.specs.declared.request.Entry.TheVariants as E
use Rattle.fleet_base.specs.Terrain.{Terrain}
use Rattle.fleet_base.specs.TimedWalk.{Meet}
use Rattle.fleet_base.specs.Order.{IsAmong}
use Rattle.fleet_base.specs.History.{Past, nothing, followed_by, past_of, book_after, reply_of, same_id, IsAllowed, EachFollows, IsLegal}
use Rattle.fleet_base.proofs.WalkLemmas.{Meet-sym}
use Rattle.fleet_base.proofs.HistoryLemmas.{is_cancel, era-counts, new-fresh}
use Rattle.fleet_base.proofs.Reorder.{Reorder, none, keep, turn, both, Reorder-refl, Reorder-sym, Reorder-filter, Reorder-is_permutation, Reorder-from_permutation}
use Rattle.plain_book.specs.BookState.{BookState, LeadsTo}
use Rattle.plain_book.specs.Resuming.{IsWalkOn, AreLive, HasRoutes}
use Rattle.plain_book.proofs.Members.{among_all, among_list_any, same_id-true}
use Rattle.lane_runs.specs.declared.answer.Answer.{Answer}
use Rattle.lane_runs.specs.declared.answer.Answer.TheVariants.{Made, Gone}
use Rattle.lane_runs.specs.Answers.{entry_made, entries_made}
use Rattle.tail_run.specs.Leaving.{route_in, ended_in, routes_in, ended_ids, live_after, stamp_in, top_stamp, ended_count}

-- ---- lists

module _ {X : Type 0} where
  to_middle : (x : X) (xs ys : List X) → Reorder (x ∷ (xs ++ ys)) (xs ++ x ∷ ys)
  to_middle x [] ys = Reorder-refl _
  to_middle x (y ∷ xs) ys = both turn (keep (to_middle x xs ys))

  filter_whole : (xs : List X) → filter (λ x. true) xs ≡ xs
  filter_whole [] = refl
  filter_whole (x ∷ xs) = ap (λ l. x ∷ l) (filter_whole xs)

  -- one filter after another
  filter_twice : (a b : X → Bool) (xs : List X) → filter (λ x. not (a x || b x)) xs ≡ filter (λ x. not (b x)) (filter (λ x. not (a x)) xs)
  filter_twice a b [] = refl
  filter_twice a b (x ∷ xs) = by_test (a x) (filter_twice a b xs)
    where
      by_test : (t : Bool) → filter (λ x. not (a x || b x)) xs ≡ filter (λ x. not (b x)) (filter (λ x. not (a x)) xs)
          → cond (not (t || b x)) (x ∷ filter (λ x. not (a x || b x)) xs) (filter (λ x. not (a x || b x)) xs)
          ≡ filter (λ x. not (b x)) (cond (not t) (x ∷ filter (λ x. not (a x)) xs) (filter (λ x. not (a x)) xs))
      by_test true rest = rest
      by_test false rest = ap (λ l. cond (not (b x)) (x ∷ l) l) rest

  -- a test that no element passes cuts none
  filter_off : (a b : X → Bool) (xs : List X) → All (λ x. a x ≡ false) xs → filter (λ x. not (a x || b x)) xs ≡ filter (λ x. not (b x)) xs
  filter_off a b [] off = refl
  filter_off a b (x ∷ xs) off =
      ap (λ t. cond (not (t || b x)) (x ∷ filter (λ x. not (a x || b x)) xs) (filter (λ x. not (a x || b x)) xs)) (All-head (λ x. a x ≡ false) x xs off)
      ∙ ap (λ l. cond (not (b x)) (x ∷ l) l) (filter_off a b xs (All-tail (λ x. a x ≡ false) x xs off))

module _ {X Y : Type 0} (h : X → Option Y) where
  keep_option : (a : Option Y) {xs ys : List Y} → Reorder xs ys → Reorder (cons_option a xs) (cons_option a ys)
  keep_option (Some y) r = keep r
  keep_option None r = r

  turn_option : (a b : Option Y) (ys : List Y) → Reorder (cons_option a (cons_option b ys)) (cons_option b (cons_option a ys))
  turn_option (Some x) (Some y) ys = turn
  turn_option (Some x) None ys = Reorder-refl _
  turn_option None (Some y) ys = Reorder-refl _
  turn_option None None ys = Reorder-refl _

  pub Reorder-filter_map : {xs ys : List X} → Reorder xs ys → Reorder (filter_map h xs) (filter_map h ys)
  Reorder-filter_map none = none
  Reorder-filter_map (keep {x} r) = keep_option (h x) (Reorder-filter_map r)
  Reorder-filter_map (turn {x} {y} {xs}) = turn_option (h x) (h y) (filter_map h xs)
  Reorder-filter_map (both r s) = both (Reorder-filter_map r) (Reorder-filter_map s)

  pub filter_map_few : (xs : List X) → length (filter_map h xs) ≤ length xs
  filter_map_few [] = omega arith
  filter_map_few (x ∷ xs) = by_option (h x) (filter_map_few xs)
    where
      by_option : (a : Option Y) → length (filter_map h xs) ≤ length xs → length (cons_option a (filter_map h xs)) ≤ suc (length xs)
      by_option (Some y) few = omega arith
      by_option None few = omega arith

-- a relation that goes both ways holds of all pairs in whatever order
module _ {X : Type 0} (R : X → X → Type 0) (turns : (x y : X) → R x y → R y x) where
  pairs_head : (x : X) (xs : List X) → AllPairs R (x ∷ xs) → All (R x) xs
  pairs_head x xs pairs k d h = pairs 0 (suc k) d (omega arith) (omega arith)

  pairs_tail : (x : X) (xs : List X) → AllPairs R (x ∷ xs) → AllPairs R xs
  pairs_tail x xs pairs i j d h k = pairs (suc i) (suc j) d (omega arith) (omega arith)

  all_reorder : (P : X → Type 0) {xs ys : List X} → Reorder xs ys → All P xs → All P ys
  all_reorder P {xs} {ys} r h = All-permutation P xs ys (Reorder-is_permutation r) h

  pub AllPairs-reorder : {xs ys : List X} → Reorder xs ys → AllPairs R xs → AllPairs R ys
  AllPairs-reorder none h = h
  AllPairs-reorder (keep {x} {xs} {ys} r) h = AllPairs-cons R x ys (all_reorder (R x) r (pairs_head x xs h)) (AllPairs-reorder r (pairs_tail x xs h))
  AllPairs-reorder (turn {x} {y} {xs}) h =
      let first = pairs_head x (y ∷ xs) h in
      let rest = pairs_tail x (y ∷ xs) h in
      AllPairs-cons R y (x ∷ xs) (All-cons (R y) x xs (turns x y (All-head (R x) y xs first)) (pairs_head y xs rest))
      (AllPairs-cons R x xs (All-tail (R x) y xs first) (pairs_tail y xs rest))
  AllPairs-reorder (both r s) h = AllPairs-reorder s (AllPairs-reorder r h)

-- ---- the routes that entries made, and those that they ended

abbrev route_of : Entry → Option Live
route_of (E.Commit id era q w) = Some (record { id = id; walk = w })
route_of (E.Cancel id era) = None
route_of (E.NoRoute stamp caller era q) = None

abbrev end_of : Entry → Option RouteId
end_of (E.Commit id era q w) = None
end_of (E.Cancel id era) = Some id
end_of (E.NoRoute stamp caller era q) = None

abbrev routes_of : List Entry → List Live
routes_of es = filter_map route_of es

abbrev ends_of : List Entry → List RouteId
ends_of es = filter_map end_of es

-- none of the ids is the route's
abbrev pub is_kept : List RouteId → Live → Bool
is_kept ends r = not (list_any (λ id. same_id r.id id) ends)

same_routes : (answers : List Answer) → routes_of (entries_made answers) ≡ routes_in answers
same_routes [] = refl
same_routes (Made n (E.Commit id era q w) ∷ xs) = ap (λ (l : List Live). record { id = id; walk = w } ∷ l) (same_routes xs)
same_routes (Made n (E.Cancel id era) ∷ xs) = same_routes xs
same_routes (Made n (E.NoRoute stamp caller era q) ∷ xs) = same_routes xs
same_routes (Gone n t ∷ xs) = same_routes xs

same_ends : (answers : List Answer) → ends_of (entries_made answers) ≡ ended_ids answers
same_ends [] = refl
same_ends (Made n (E.Commit id era q w) ∷ xs) = same_ends xs
same_ends (Made n (E.Cancel id era) ∷ xs) = ap (λ (l : List RouteId). id ∷ l) (same_ends xs)
same_ends (Made n (E.NoRoute stamp caller era q) ∷ xs) = same_ends xs
same_ends (Gone n t ∷ xs) = same_ends xs

-- ---- what a legal history leaves live

not_same : (a b : RouteId) → a ≢ b → same_id a b ≡ false
not_same a b differ = go (same_id a b) refl
  where
    go : (t : Bool) → same_id a b ≡ t → t ≡ false
    go true e = absurd (differ (same_id-true a b e))
    go false e = refl

abbrev AreApart : Live → Live → Type 0
AreApart r s = ¬ (Meet r.walk s.walk)

abbrev HaveOtherIds : Live → Live → Type 0
HaveOtherIds r s = r.id ≢ s.id

-- each live route had its reply; they are walks on the grid that don't meet, with ids that differ
record KeepsBook (g : Terrain) (horizon : ℕ) (p : Past) : Type 0 where
  pub known : All (λ r. IsAmong r.id p.replies) p.book
  pub walks : All (λ r. IsWalkOn g horizon r.walk) p.book
  pub apart : AllPairs AreApart p.book
  pub ids : AllPairs HaveOtherIds p.book

module _ (g : Terrain) (horizon : ℕ) where
  keeps_nothing : KeepsBook g horizon nothing
  keeps_nothing = record {
    known = All-nil (λ r. IsAmong r.id []);
    walks = All-nil (λ r. IsWalkOn g horizon r.walk);
    apart = λ i j d h k. absurd (omega arith);
    ids = λ i j d h k. absurd (omega arith);
  }

  known_more : (id : RouteId) (replies : List RouteId) (book : List Live) → All (λ r. IsAmong r.id replies) book → All (λ r. IsAmong r.id (id ∷ replies)) book
  known_more id replies book known = All-weaker (λ (r : Live). IsAmong r.id replies) (λ (r : Live). IsAmong r.id (id ∷ replies)) (λ r h. inr h) book known

  keeps_one : (p : Past) (e : Entry) → KeepsBook g horizon p → IsAllowed g horizon p e → KeepsBook g horizon (followed_by p e)
  keeps_one p (E.Commit id era q w) kept may =
      let new : Live = record { id = id; walk = w } in
      let fresh : All (λ old. old ≢ id) p.replies = new-fresh id p.replies may.new_stamp in
      record {
        known = All-cons (λ (r : Live). IsAmong r.id (id ∷ p.replies)) new p.book (inl refl) (known_more id p.replies p.book kept.known);
        walks = All-cons (λ (r : Live). IsWalkOn g horizon r.walk) new p.book record { request = q; walk_of = may.least.walk_of } kept.walks;
        apart = AllPairs-cons AreApart new p.book may.least.free.clear kept.apart;
        ids = AllPairs-cons HaveOtherIds new p.book
            (All-weaker (λ (r : Live). IsAmong r.id p.replies) (HaveOtherIds new) (λ r had same. among_all (λ (old : RouteId). old ≢ id) r.id p.replies fresh had (sym same)) p.book kept.known)
            kept.ids;
      }
  keeps_one p (E.Cancel id era) kept may =
      let others : Live → Bool = λ r. not (same_id r.id id) in
      record {
        known = All-filter others (λ (r : Live). IsAmong r.id p.replies) p.book kept.known;
        walks = All-filter others (λ (r : Live). IsWalkOn g horizon r.walk) p.book kept.walks;
        apart = AllPairs-filter AreApart others p.book kept.apart;
        ids = AllPairs-filter HaveOtherIds others p.book kept.ids;
      }
  keeps_one p (E.NoRoute stamp caller era q) kept may = record {
    known = known_more (record { stamp = stamp; caller = caller }) p.replies p.book kept.known;
    walks = kept.walks;
    apart = kept.apart;
    ids = kept.ids;
  }

  keeps_all : (es : List Entry) (p : Past) → KeepsBook g horizon p → EachFollows (IsAllowed g horizon) p es → KeepsBook g horizon (fold followed_by p es)
  keeps_all [] p kept h = kept
  keeps_all (e ∷ es) p kept h = keeps_all es (followed_by p e) (keeps_one p e kept h.0) h.1

  -- an id that had its reply is in no commit that follows
  no_more : (id : RouteId) (es : List Entry) (p : Past) → IsAmong id p.replies → EachFollows (IsAllowed g horizon) p es → All (λ r. same_id r.id id ≡ false) (routes_of es)
  no_more id [] p had h = All-nil (λ r. same_id r.id id ≡ false)
  no_more id (E.Commit other era q w ∷ es) p had h =
      let new : Live = record { id = other; walk = w } in
      let differ : other ≢ id = λ same. among_all (λ (old : RouteId). old ≢ other) id p.replies (new-fresh other p.replies h.0.new_stamp) had (sym same) in
      All-cons (λ (r : Live). same_id r.id id ≡ false) new (routes_of es) (not_same other id differ) (no_more id es (followed_by p (E.Commit other era q w)) (inr had) h.1)
  no_more id (E.Cancel other era ∷ es) p had h = no_more id es (followed_by p (E.Cancel other era)) had h.1
  no_more id (E.NoRoute stamp caller era q ∷ es) p had h = no_more id es (followed_by p (E.NoRoute stamp caller era q)) (inr had) h.1

  -- the routes of the history and those before it, but for those that it ended
  left_is : (es : List Entry) (p : Past) → KeepsBook g horizon p → EachFollows (IsAllowed g horizon) p es
      → Reorder (fold followed_by p es).book (filter (is_kept (ends_of es)) (routes_of es ++ p.book))
  left_is [] p kept h = subst (λ (l : List Live). Reorder p.book l) (sym (filter_whole p.book)) (Reorder-refl p.book)
  left_is (E.Commit id era q w ∷ es) p kept h =
      let e : Entry = E.Commit id era q w in
      let new : Live = record { id = id; walk = w } in
      both (left_is es (followed_by p e) (keeps_one p e kept h.0) h.1) (Reorder-filter (is_kept (ends_of es)) (Reorder-sym (to_middle new (routes_of es) p.book)))
  left_is (E.Cancel id era ∷ es) p kept h =
      let e : Entry = E.Cancel id era in
      let it = among_list_any (λ (r : Live). same_id r.id id) p.book h.0.live in
      let had : IsAmong id p.replies = subst (λ (i : RouteId). IsAmong i p.replies) (same_id-true it.0.id id it.2) (among_all (λ (r : Live). IsAmong r.id p.replies) it.0 p.book kept.known it.1) in
      let is_it : Live → Bool = λ r. same_id r.id id in
      let is_other : Live → Bool = λ r. list_any (λ i. same_id r.id i) (ends_of es) in
      let cut : filter (is_kept (id ∷ ends_of es)) (routes_of es ++ p.book) ≡ filter (is_kept (ends_of es)) (routes_of es ++ filter (λ r. not (same_id r.id id)) p.book) =
      filter-append (is_kept (id ∷ ends_of es)) (routes_of es) p.book
      ∙ (ap₂ ◌++◌ (filter_off is_it is_other (routes_of es) (no_more id es (followed_by p e) had h.1)) (filter_twice is_it is_other p.book)
      ∙ sym (filter-append (is_kept (ends_of es)) (routes_of es) (filter (λ r. not (same_id r.id id)) p.book))) in
      subst (λ (l : List Live). Reorder (fold followed_by (followed_by p e) es).book l) (sym cut) (left_is es (followed_by p e) (keeps_one p e kept h.0) h.1)
  left_is (E.NoRoute stamp caller era q ∷ es) p kept h =
      let e : Entry = E.NoRoute stamp caller era q in
      left_is es (followed_by p e) (keeps_one p e kept h.0) h.1

-- ---- stamps and counts

-- the greatest is no lower than the first and each later one
top_above : (xs : List Answer) (from : ℕ) → from ≤ fold (λ top a. max top (stamp_in a)) from xs
top_above [] from = omega arith
top_above (a ∷ xs) from = omega (arith, top_above xs (max from (stamp_in a)))

each_under : (xs : List Answer) (from : ℕ) → All (λ a. stamp_in a ≤ fold (λ top a. max top (stamp_in a)) from xs) xs
each_under [] from = All-nil (λ a. stamp_in a ≤ from)
each_under (a ∷ xs) from =
    let top : ℕ = fold (λ top a. max top (stamp_in a)) (max from (stamp_in a)) xs in
    All-cons (λ b. stamp_in b ≤ top) a xs (omega (arith, top_above xs (max from (stamp_in a)))) (each_under xs (max from (stamp_in a)))

top_under : (xs : List Answer) (from n : ℕ) → from ≤ n → All (λ a. stamp_in a ≤ n) xs → fold (λ top a. max top (stamp_in a)) from xs ≤ n
top_under [] from n low all = low
top_under (a ∷ xs) from n low all =
    let one : stamp_in a ≤ n = All-head (λ b. stamp_in b ≤ n) a xs all in
    top_under xs (max from (stamp_in a)) n (omega arith) (All-tail (λ b. stamp_in b ≤ n) a xs all)

abbrev IsUnder : ℕ → Entry → Type 0
IsUnder n e = IfSome (reply_of e) (λ id. id.stamp ≤ n)

entries_under : (n : ℕ) (xs : List Answer) → All (λ a. stamp_in a ≤ n) xs → All (IsUnder n) (entries_made xs)
entries_under n [] all = All-nil (IsUnder n)
entries_under n (Made o e ∷ xs) all =
    All-cons (IsUnder n) e (entries_made xs) (one e (All-head (λ a. stamp_in a ≤ n) (Made o e) xs all)) (entries_under n xs (All-tail (λ a. stamp_in a ≤ n) (Made o e) xs all))
  where
    one : (e : Entry) → stamp_in (Made o e) ≤ n → IsUnder n e
    one (E.Commit id era q w) h = h
    one (E.Cancel id era) h = tt
    one (E.NoRoute stamp caller era q) h = h
entries_under n (Gone o t ∷ xs) all = entries_under n xs (All-tail (λ a. stamp_in a ≤ n) (Gone o t) xs all)

answers_under : (n : ℕ) (xs : List Answer) → All (IsUnder n) (entries_made xs) → All (λ a. stamp_in a ≤ n) xs
answers_under n [] all = All-nil (λ a. stamp_in a ≤ n)
answers_under n (Made o e ∷ xs) all =
    All-cons (λ a. stamp_in a ≤ n) (Made o e) xs (one e (All-head (IsUnder n) e (entries_made xs) all)) (answers_under n xs (All-tail (IsUnder n) e (entries_made xs) all))
  where
    one : (e : Entry) → IsUnder n e → stamp_in (Made o e) ≤ n
    one (E.Commit id era q w) h = h
    one (E.Cancel id era) h = omega arith
    one (E.NoRoute stamp caller era q) h = h
answers_under n (Gone o t ∷ xs) all = All-cons (λ a. stamp_in a ≤ n) (Gone o t) xs (omega arith) (answers_under n xs all)

-- what holds of each entry that is a reply holds of all replies
replies_all : (P : RouteId → Type 0) (es : List Entry) (p : Past) → All (λ e. IfSome (reply_of e) P) es → All P p.replies → All P (fold followed_by p es).replies
replies_all P [] p each before = before
replies_all P (E.Commit id era q w ∷ es) p each before =
    let e : Entry = E.Commit id era q w in
    replies_all P es (followed_by p e) (All-tail (λ x. IfSome (reply_of x) P) e es each) (All-cons P id p.replies (All-head (λ x. IfSome (reply_of x) P) e es each) before)
replies_all P (E.Cancel id era ∷ es) p each before =
    let e : Entry = E.Cancel id era in
    replies_all P es (followed_by p e) (All-tail (λ x. IfSome (reply_of x) P) e es each) before
replies_all P (E.NoRoute stamp caller era q ∷ es) p each before =
    let e : Entry = E.NoRoute stamp caller era q in
    let id : RouteId = record { stamp = stamp; caller = caller } in
    replies_all P es (followed_by p e) (All-tail (λ x. IfSome (reply_of x) P) e es each) (All-cons P id p.replies (All-head (λ x. IfSome (reply_of x) P) e es each) before)

replies_within : (es : List Entry) (p : Past) → length (fold followed_by p es).replies ≤ length p.replies + length es
replies_within [] p = omega arith
replies_within (E.Commit id era q w ∷ es) p = omega (arith, replies_within es (followed_by p (E.Commit id era q w)))
replies_within (E.Cancel id era ∷ es) p = omega (arith, replies_within es (followed_by p (E.Cancel id era)))
replies_within (E.NoRoute stamp caller era q ∷ es) p = omega (arith, replies_within es (followed_by p (E.NoRoute stamp caller era q)))

cancels_are : (answers : List Answer) → count_by is_cancel (entries_made answers) ≡ ended_count answers
cancels_are [] = refl
cancels_are (Made n (E.Commit id era q w) ∷ xs) = omega (arith, sum_by-cons (λ e. cond (is_cancel e) 1 0) (E.Commit id era q w) (entries_made xs), cancels_are xs)
cancels_are (Made n (E.Cancel id era) ∷ xs) = omega (arith, sum_by-cons (λ e. cond (is_cancel e) 1 0) (E.Cancel id era) (entries_made xs), cancels_are xs)
cancels_are (Made n (E.NoRoute stamp caller era q) ∷ xs) = omega (arith, sum_by-cons (λ e. cond (is_cancel e) 1 0) (E.NoRoute stamp caller era q) (entries_made xs), cancels_are xs)
cancels_are (Gone n t ∷ xs) = cancels_are xs

pub ended_few : (answers : List Answer) → ended_count answers ≤ length answers
ended_few answers = filter_map_few ended_in answers

-- ---- the list has the entries of the answers, in whatever order

module _ (answers : List Answer) (list : List Entry) (same : IsPermutation (entries_made answers) list) where
  reordered : Reorder (entries_made answers) list
  reordered = Reorder-from_permutation (entries_made answers) list same

  pub era_is : (past_of list).era ≡ ended_count answers
  era_is =
      let counted = era-counts list nothing in
      let alike = sum_by-IsPermutation (λ e. cond (is_cancel e) 1 0) (entries_made answers) list same in
      omega (arith, cancels_are answers)

  pub stamps_under : All (λ id. id.stamp ≤ top_stamp answers) (past_of list).replies
  stamps_under =
      let P : RouteId → Type 0 = λ id. id.stamp ≤ top_stamp answers in
      replies_all P list nothing (All-permutation (IsUnder (top_stamp answers)) (entries_made answers) list same (entries_under (top_stamp answers) answers (each_under answers 0))) (All-nil P)

  pub top_few : (n : ℕ) → All (λ e. IfSome (reply_of e) (λ id. id.stamp ≤ n)) list → top_stamp answers ≤ n
  top_few n all = top_under answers 0 n (omega arith) (answers_under n answers (All-permutation (IsUnder n) list (entries_made answers) (IsPermutation-sym (entries_made answers) list same) all))

  pub replies_few : length (past_of list).replies ≤ length answers
  replies_few =
      let few : length (entries_made answers) ≤ length answers = filter_map_few entry_made answers in
      omega (arith, replies_within list nothing, length_permutation (entries_made answers) list same)

  -- a route is ended in one order as in the other
  alike_kept : is_kept (ends_of list) ≡ is_kept (ended_ids answers)
  alike_kept =
      let ends : IsPermutation (ends_of (entries_made answers)) (ends_of list) = Reorder-is_permutation (Reorder-filter_map end_of reordered) in
      let one : is_kept (ends_of (entries_made answers)) ≡ is_kept (ends_of list) =
      λ i r. not (list_any-IsPermutation (λ id. same_id r.id id) (ends_of (entries_made answers)) (ends_of list) ends i) in
      sym one ∙ ap is_kept (same_ends answers)

  alike_routes : Reorder (routes_of list) (routes_in answers)
  alike_routes = subst (λ (l : List Live). Reorder (routes_of list) l) (same_routes answers) (Reorder-sym (Reorder-filter_map route_of reordered))

-- ---- the book that the history leaves

module _ (g : Terrain) (horizon : ℕ) (answers : List Answer) (list : List Entry) (legal : IsLegal g horizon list) (same : IsPermutation (entries_made answers) list) where
  book_kept : KeepsBook g horizon (past_of list)
  book_kept = keeps_all g horizon list nothing (keeps_nothing g horizon) legal

  live_reorder : Reorder (book_after list) (live_after answers)
  live_reorder =
      let left : Reorder (book_after list) (filter (is_kept (ends_of list)) (routes_of list)) =
      subst (λ (l : List Live). Reorder (book_after list) (filter (is_kept (ends_of list)) l)) (append-nil (routes_of list)) (left_is g horizon list nothing (keeps_nothing g horizon) legal) in
      let made : Reorder (book_after list) (filter (is_kept (ended_ids answers)) (routes_of list)) =
      subst (λ (k : Live → Bool). Reorder (book_after list) (filter k (routes_of list))) (alike_kept answers list same) left in
      both made (Reorder-filter (is_kept (ended_ids answers)) (alike_routes answers list same))

  pub live_is : IsPermutation (book_after list) (live_after answers)
  live_is = Reorder-is_permutation live_reorder

  pub live_are : AreLive g horizon (live_after answers) (top_stamp answers)
  live_are =
      let kept = book_kept in
      let low : All (λ (r : Live). r.id.stamp ≤ top_stamp answers) (book_after list) =
      All-weaker (λ (r : Live). IsAmong r.id (past_of list).replies) (λ (r : Live). r.id.stamp ≤ top_stamp answers)
      (λ r had. among_all (λ (id : RouteId). id.stamp ≤ top_stamp answers) r.id (past_of list).replies (stamps_under answers list same) had) (book_after list) kept.known in
      record {
        walks = All-permutation (λ (r : Live). IsWalkOn g horizon r.walk) (book_after list) (live_after answers) live_is kept.walks;
        apart = AllPairs-reorder AreApart (λ r s apart met. apart (Meet-sym s.walk r.walk met)) live_reorder kept.apart;
        ids = AllPairs-reorder HaveOtherIds (λ r s differ is. differ (sym is)) live_reorder kept.ids;
        stamps = All-permutation (λ (r : Live). r.id.stamp ≤ top_stamp answers) (book_after list) (live_after answers) live_is low;
      }

  -- a book that has these routes goes on from the history
  pub leads : (s : BookState) → HasRoutes s g horizon (live_after answers) (top_stamp answers) (ended_count answers) → LeadsTo (past_of list) s
  leads s has =
      let top : top_stamp answers ≡ s.stamp = ap (λ (b : BookState). b.stamp) (sym has.rest_is) in
      let back : IsPermutation (live_after answers) s.routes = IsPermutation-sym s.routes (live_after answers) has.routes_are in
      record {
        routes = IsPermutation-trans (book_after list) (live_after answers) s.routes live_is back;
        era = era_is answers list same ∙ ap (λ (b : BookState). b.era) (sym has.rest_is);
        stamps = subst (λ (n : ℕ). All (λ (id : RouteId). id.stamp ≤ n) (past_of list).replies) top (stamps_under answers list same);
        live_stamps = subst (λ (n : ℕ). All (λ (r : Live). r.id.stamp ≤ n) s.routes) top
            (All-permutation (λ (r : Live). r.id.stamp ≤ top_stamp answers) (live_after answers) s.routes back live_are.stamps);
      }

-- ---- one answer more, for loops

module _ (xs : List Answer) (a : Answer) where
  pub routes_push : routes_in (xs ++ a ∷ []) ≡ routes_in xs ++ cons_option (route_in a) []
  routes_push = filter_map-append route_in xs (a ∷ [])

  pub ended_push : ended_ids (xs ++ a ∷ []) ≡ ended_ids xs ++ cons_option (ended_in a) []
  ended_push = filter_map-append ended_in xs (a ∷ [])

  pub count_push : ended_count (xs ++ a ∷ []) ≡ ended_count xs + length (cons_option (ended_in a) [])
  count_push = ap length ended_push ∙ length-append (ended_ids xs) (cons_option (ended_in a) [])

  pub top_push : top_stamp (xs ++ a ∷ []) ≡ max (top_stamp xs) (stamp_in a)
  top_push = fold-append (λ top b. max top (stamp_in b)) 0 xs (a ∷ [])

  -- of the routes those that none of the ids ends
  pub kept_push : (ends : List RouteId) → filter (is_kept ends) (routes_in (xs ++ a ∷ [])) ≡ filter (is_kept ends) (routes_in xs) ++ filter (is_kept ends) (cons_option (route_in a) [])
  kept_push ends = ap (filter (is_kept ends)) routes_push ∙ filter-append (is_kept ends) (routes_in xs) (cons_option (route_in a) [])

take_next : {X : Type 0} (xs : List X) (k : ℕ) (x : X) → slice_get xs k ≡ Some x → take (suc k) xs ≡ take k xs ++ x ∷ []
take_next [] k x at = absurd (cc)
take_next (y ∷ ys) zero x at = let is : y ≡ x = cc in ap (λ z. z ∷ []) is
take_next (y ∷ ys) (suc k) x at = ap (λ l. y ∷ l) (take_next ys k x at)

pub take_push : {X : Type 0} (xs : List X) (k : ℕ) (x : X) → slice_get xs k ≡ Some x → take (k + 1) xs ≡ take k xs ++ x ∷ []
take_push xs k x at = let next : suc k ≡ k + 1 = omega arith in subst (λ n. take n xs ≡ take k xs ++ x ∷ []) next (take_next xs k x at)

-- the same at the next place of the answers
module _ (answers : List Answer) (k : ℕ) (a : Answer) (at : slice_get answers k ≡ Some a) where
  pub routes_more : routes_in (take (k + 1) answers) ≡ routes_in (take k answers) ++ cons_option (route_in a) []
  routes_more = ap routes_in (take_push answers k a at) ∙ routes_push (take k answers) a

  pub ended_more : ended_ids (take (k + 1) answers) ≡ ended_ids (take k answers) ++ cons_option (ended_in a) []
  ended_more = ap ended_ids (take_push answers k a at) ∙ ended_push (take k answers) a

  pub count_more : ended_count (take (k + 1) answers) ≡ ended_count (take k answers) + length (cons_option (ended_in a) [])
  count_more = ap ended_count (take_push answers k a at) ∙ count_push (take k answers) a

  pub top_more : top_stamp (take (k + 1) answers) ≡ max (top_stamp (take k answers)) (stamp_in a)
  top_more = ap top_stamp (take_push answers k a at) ∙ top_push (take k answers) a

  pub kept_more : (ends : List RouteId) →
      filter (is_kept ends) (routes_in (take (k + 1) answers)) ≡ filter (is_kept ends) (routes_in (take k answers)) ++ filter (is_kept ends) (cons_option (route_in a) [])
  kept_more ends = ap (λ l. filter (is_kept ends) (routes_in l)) (take_push answers k a at) ∙ kept_push (take k answers) a ends
