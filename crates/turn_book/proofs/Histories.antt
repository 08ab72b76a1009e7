-- What one entry more does to a list, and what one caller's entries leave live.
use Rattle.std.proofs.Common.{◌≡◌, ◌≢◌, ◌==◌, ◌&&◌, ◌||◌, ℕ, ◌+◌, ◌<◌, Bool, true, false, cond, not, List, [], ◌∷◌, ◌++◌, length, refl, sym, ap, ◌∙◌, subst, arith, eq-eqb, ne_eqb}
use Rattle.std.proofs.lemmas.Bool.{eqb-true}
use Rattle.std.specs.Prelude.{All, IfSome, fold, filter}
use Rattle.std.specs.List.{list_any}
use Rattle.std.proofs.lemmas.Grind.{fold-append}
use Rattle.std.proofs.lemmas.List.Elements.{All-nil, All-cons, All-head, All-tail, All-filter, All-push}
use Rattle.std.proofs.lemmas.Map.Views.{any-filter_same}
use Rattle.std.proofs.lemmas.List.Sorted.{list_any-IsPermutation}
use mathlib.Core.Logic.{dite}
use native.Mathlib.Decide.{ℕ_discrete}
use Rattle.fleet_base.specs.declared.request.RouteId.{RouteId}
use Rattle.fleet_base.specs.declared.request.Live.{Live}
use Rattle.fleet_base.specs.declared.request.Entry.{Entry}
use Rattle.fleet_base.specs.declared.request.Entry.TheVariants.{Commit, Cancel, NoRoute}
use Rattle.fleet_base.specs.History.{Past, nothing, followed_by, past_of, book_after, reply_of, caller_of, same_id, IsLive, IsStronglyAllowed}
use Rattle.fleet_base.proofs.HistoryLemmas.{follows_push, of_replies}
use Rattle.plain_book.specs.BookState.{BookState, LeadsTo, IsOnSameGrid}
use Rattle.plain_book.specs.History.{AnswersBook}
use Rattle.book_trait.specs.Passes.{entries_of, IsCounted, IsShared}
use Rattle.turn_book.specs.declared.rule.Layout.{Layout}
use Rattle.turn_book.specs.Turns.{kind_of, IsInRange, IsAfter}
use Rattle.turn_book.proofs.Knowing.{entries-append}

pub past_push : (list : List Entry) (e : Entry) → past_of (list ++ e ∷ []) ≡ followed_by (past_of list) e
past_push list e = fold-append followed_by nothing list (e ∷ [])

pub own_push : (c : ℕ) (list : List Entry) (e : Entry) → caller_of e ≡ c → entries_of c (list ++ e ∷ []) ≡ entries_of c list ++ e ∷ []
own_push c list e by = entries-append c list (e ∷ []) ∙ ap (λ (b : Bool). entries_of c list ++ cond b (e ∷ []) []) (eq-eqb (caller_of e) c by)

-- what holds of each entry that is a reply holds of all replies
of_entries : (P : RouteId → Type 0) (es : List Entry) (p : Past) → All (λ e. IfSome (reply_of e) P) es → All P p.replies → All P (fold followed_by p es).replies
of_entries P [] p h k = k
of_entries P (Commit id era q w ∷ es) p h k =
    of_entries P es (followed_by p (Commit id era q w)) (All-tail (λ e. IfSome (reply_of e) P) (Commit id era q w) es h) (All-cons P id p.replies (All-head (λ e. IfSome (reply_of e) P) (Commit id era q w) es h) k)
of_entries P (Cancel id era ∷ es) p h k =
    of_entries P es (followed_by p (Cancel id era)) (All-tail (λ e. IfSome (reply_of e) P) (Cancel id era) es h) k
of_entries P (NoRoute stamp caller era q ∷ es) p h k =
    of_entries P es (followed_by p (NoRoute stamp caller era q)) (All-tail (λ e. IfSome (reply_of e) P) (NoRoute stamp caller era q) es h) (All-cons P (record { stamp = stamp; caller = caller }) p.replies (All-head (λ e. IfSome (reply_of e) P) (NoRoute stamp caller era q) es h) k)

-- one caller's replies are some of all
pub own_replies : (P : RouteId → Type 0) (c : ℕ) (list : List Entry) → All P (past_of list).replies → All P (past_of (entries_of c list)).replies
own_replies P c list h =
    of_entries P (entries_of c list) nothing (All-filter (λ e. caller_of e == c) (λ e. IfSome (reply_of e) P) list (of_replies P list nothing h).0) (All-nil P)

-- Whether a route is live.
abbrev pub has_route : RouteId → List Live → Bool
has_route id book = list_any (λ r. same_id r.id id) book

both_true : (a b : Bool) → (a && b) ≡ true → (a ≡ true) × (b ≡ true)
both_true true b h = (refl, h)
both_true false b h = absurd (cc)

same_ids : (a b : RouteId) → same_id a b ≡ true → a ≡ b
same_ids a b h =
    let parts = both_true (a.stamp == b.stamp) (a.caller == b.caller) h in
    let stamps : a.stamp ≡ b.stamp = eqb-true a.stamp b.stamp parts.0 in
    let callers : a.caller ≡ b.caller = eqb-true a.caller b.caller parts.1 in λ i. record { stamp = stamps i; caller = callers i }

and_false : (a : Bool) → (a && false) ≡ false
and_false true = refl
and_false false = refl

and_true : (a : Bool) → (a && true) ≡ a
and_true true = refl
and_true false = refl

pub one_caller : (a b : RouteId) → a.caller ≡ b.caller → same_id a b ≡ (a.stamp == b.stamp)
one_caller a b e = ap (λ (t : Bool). (a.stamp == b.stamp) && t) (eq-eqb a.caller b.caller e) ∙ and_true (a.stamp == b.stamp)

other_caller : (a b : RouteId) → a.caller ≢ b.caller → same_id a b ≡ false
other_caller a b ne = ap (λ (t : Bool). (a.stamp == b.stamp) && t) (ne_eqb a.caller b.caller ne) ∙ and_false (a.stamp == b.stamp)

-- a cancel leaves each route but its own
pub cancel_leaves : (id old : RouteId) (book : List Live) → has_route id (filter (λ r. not (same_id r.id old)) book) ≡ (not (same_id id old) && has_route id book)
cancel_leaves id old book = any-filter_same (λ (r : Live). same_id r.id id) (λ r. not (same_id r.id old)) (not (same_id id old)) (λ r same. ap (λ (x : RouteId). not (same_id x old)) (same_ids r.id id same)) book

moves_both : (id : RouteId) (e : Entry) (p q : Past) → has_route id p.book ≡ has_route id q.book → has_route id (followed_by p e).book ≡ has_route id (followed_by q e).book
moves_both id (Commit old era asked w) p q h = ap (λ (b : Bool). same_id old id || b) h
moves_both id (Cancel old era) p q h = cancel_leaves id old p.book ∙ (ap (λ (b : Bool). not (same_id id old) && b) h ∙ sym (cancel_leaves id old q.book))
moves_both id (NoRoute stamp caller era asked) p q h = h

moves_none : (id : RouteId) (e : Entry) (q : Past) → caller_of e ≢ id.caller → has_route id (followed_by q e).book ≡ has_route id q.book
moves_none id (Commit old era asked w) q ne = ap (λ (b : Bool). b || has_route id q.book) (other_caller old id ne)
moves_none id (Cancel old era) q ne = cancel_leaves id old q.book ∙ ap (λ (b : Bool). not b && has_route id q.book) (other_caller id old (λ e. ne (sym e)))
moves_none id (NoRoute stamp caller era asked) q ne = refl

live_among : (id : RouteId) (es : List Entry) (p q : Past) → has_route id p.book ≡ has_route id q.book → has_route id (fold followed_by p (entries_of id.caller es)).book ≡ has_route id (fold followed_by q es).book
live_among id [] p q h = h
live_among id (e ∷ es) p q h = dite (ℕ_discrete (caller_of e) id.caller)
    (λ mine. ap (λ (b : Bool). has_route id (fold followed_by p (cond b (e ∷ entries_of id.caller es) (entries_of id.caller es))).book) (eq-eqb (caller_of e) id.caller mine)
    ∙ live_among id es (followed_by p e) (followed_by q e) (moves_both id e p q h))
    (λ ne. ap (λ (b : Bool). has_route id (fold followed_by p (cond b (e ∷ entries_of id.caller es) (entries_of id.caller es))).book) (ne_eqb (caller_of e) id.caller ne)
    ∙ live_among id es p (followed_by q e) (h ∙ sym (moves_none id e q ne)))

-- a caller's route is live in the whole list where it is in the caller's own entries
pub own_live : (id : RouteId) (list : List Entry) → has_route id (book_after (entries_of id.caller list)) ≡ has_route id (book_after list)
own_live id list = live_among id list nothing nothing refl

pub live_in_book : (id : RouteId) (k : Layout) (list : List Entry) (b : BookState) → IsAfter k list b → IsLive id (book_after (entries_of id.caller list)) → IsLive id b.routes
live_in_book id k list b after live = sym (list_any-IsPermutation (λ (r : Live). same_id r.id id) (book_after list) b.routes after.leads.routes) ∙ (sym (own_live id list) ∙ live)

-- the stamp of a reply is the book's next one, which the book then has; a cancel leaves the stamp
abbrev pub Counts : BookState → BookState → Entry → Type 0
Counts before new (Commit id era q w) = (id.stamp ≡ before.stamp + 1) × (new.stamp ≡ before.stamp + 1)
Counts before new (Cancel id era) = new.stamp ≡ before.stamp
Counts before new (NoRoute stamp caller era q) = (stamp ≡ before.stamp + 1) × (new.stamp ≡ before.stamp + 1)

counted_next : (list : List Entry) (before new : BookState) (e : Entry) → before.stamp ≡ length (past_of list).replies → Counts before new e → IsCounted (past_of list) e
counted_next list before new (Commit id era q w) h (next, now) = omega arith
counted_next list before new (Cancel id era) h now = tt
counted_next list before new (NoRoute stamp caller era q) h (next, now) = omega arith

stamps_now : (list : List Entry) (before new : BookState) (e : Entry) → before.stamp ≡ length (past_of list).replies → Counts before new e → new.stamp ≡ length (followed_by (past_of list) e).replies
stamps_now list before new (Commit id era q w) h (next, now) = omega arith
stamps_now list before new (Cancel id era) h now = omega arith
stamps_now list before new (NoRoute stamp caller era q) h (next, now) = omega arith

-- the list with the book's answer is one of the book, and leads to the book as it is then
pub pushed : (k : Layout) (list : List Entry) (e : Entry) (before new : BookState) → IsShared (kind_of k) list → IsAfter k list before → AnswersBook before new e → IsOnSameGrid before new → caller_of e < k.callers → Counts before new e → IsInRange new
    → IsShared (kind_of k) (list ++ e ∷ []) × IsAfter k (list ++ e ∷ []) new
pushed k list e before new shared after history same low counts in_range = (
  record {
    strong = follows_push (IsStronglyAllowed k.grid k.horizon) nothing list e shared.strong
        (subst (λ (x : Layout). IsStronglyAllowed x.grid x.horizon (past_of list) e) (λ i. record k { grid = after.grid i; horizon = after.horizon i }) (history.follows (past_of list) after.leads));
    counted = follows_push IsCounted nothing list e shared.counted (counted_next list before new e after.counted counts);
    callers = All-push (λ (x : Entry). caller_of x < k.callers) list e shared.callers low;
  },
  record {
    grid = same.grid ∙ after.grid;
    horizon = same.horizon ∙ after.horizon;
    leads = subst (λ (p : Past). LeadsTo p new) (sym (past_push list e)) (history.leads (past_of list) after.leads);
    counted = stamps_now list before new e after.counted counts ∙ ap (λ (p : Past). length p.replies) (sym (past_push list e));
    in_range = in_range;
  },
)
