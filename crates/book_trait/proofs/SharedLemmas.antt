-- Beginnings of a shared list, and what all its stamps are below.
use Rattle.std.proofs.Common.{◌≡◌, ℕ, suc, ◌<◌, ◌≤◌, ◌⊎◌, inl, inr, List, [], ◌∷◌, ◌++◌, length, sym, subst, ⊎_elim, max, arith}
use Rattle.std.specs.Prelude.{All, Any, Contains, IfSome, fold}
use Rattle.std.proofs.lemmas.List.Elements.{All-nil, All-cons, All-head, All-tail, All-weaker}
use mathlib.Core.Logic.{dite}
use native.Mathlib.Decide.{dec_le}
use Rattle.std.proofs.lemmas.Grind.{fold-append}
use Rattle.fleet_base.specs.declared.request.RouteId.{RouteId}
use Rattle.fleet_base.specs.declared.request.Entry.{Entry}
use Rattle.fleet_base.specs.declared.request.Entry.TheVariants.{Commit, Cancel, NoRoute}
use Rattle.fleet_base.specs.History.{Past, nothing, followed_by, past_of, reply_of, caller_of, EachFollows, IsStronglyAllowed}
use Rattle.fleet_base.proofs.HistoryLemmas.{follows_first}
use Rattle.fleet_base.proofs.JournalLaw.{journal_keeps, legal-from_strong}
use Rattle.book_trait.specs.Passes.{BookView, JoinedView, IsCounted, IsShared, IsStampIn, IsJoined}
use Rattle.book_trait.specs.Calls.{GoesOn}
use Rattle.book_trait.specs.Laws.{IsHistory, AreAllTheirs}

-- a longer list has as many replies or more
replies_grow : (es : List Entry) (p : Past) → length p.replies ≤ length (fold followed_by p es).replies
replies_grow [] p = omega arith
replies_grow (Commit id era q w ∷ es) p = omega (arith, replies_grow es (followed_by p (Commit id era q w)))
replies_grow (Cancel id era ∷ es) p = omega (arith, replies_grow es (followed_by p (Cancel id era)))
replies_grow (NoRoute stamp caller era q ∷ es) p = omega (arith, replies_grow es (followed_by p (NoRoute stamp caller era q)))

-- the stamp of a reply is at most this number
abbrev pub IsBelow : ℕ → Entry → Type 0
IsBelow n e = IfSome (reply_of e) (λ id. id.stamp ≤ n)

counted_below : (e : Entry) (es : List Entry) (p : Past) → IsCounted p e → IsBelow (length (fold followed_by (followed_by p e) es).replies) e
counted_below (Commit id era q w) es p h = omega (arith, replies_grow es (followed_by p (Commit id era q w)))
counted_below (Cancel id era) es p h = tt
counted_below (NoRoute stamp caller era q) es p h = omega (arith, replies_grow es (followed_by p (NoRoute stamp caller era q)))

pub all_below : (es : List Entry) (p : Past) → EachFollows IsCounted p es → All (IsBelow (length (fold followed_by p es).replies)) es
all_below [] p h = All-nil (IsBelow (length p.replies))
all_below (e ∷ es) p h = All-cons (IsBelow (length (fold followed_by (followed_by p e) es).replies)) e es (counted_below e es p h.0) (all_below es (followed_by p e) h.1)

All-first : (P : Entry → Type 0) (xs ys : List Entry) → All P (xs ++ ys) → All P xs
All-first P [] ys h = All-nil P
All-first P (x ∷ xs) ys h = All-cons P x xs (All-head P x (xs ++ ys) h) (All-first P xs ys (All-tail P x (xs ++ ys) h))

Any-there : (P : RouteId → Type 0) (x : RouteId) (xs : List RouteId) → Any P xs → Any P (x ∷ xs)
Any-there P x xs (k, y, low, at, h) = (suc k, y, omega arith, at, h)

max_cases : (a b : ℕ) → (max a b ≡ a) ⊎ (max a b ≡ b)
max_cases a b = dite (dec_le a b) (λ le. inr (omega arith)) (λ gt. inl (omega arith))

pub history : (b : BookView) (list : List Entry) → IsShared b list → IsHistory b list
history b list h = record {
  legal = legal-from_strong b.grid b.horizon list nothing h.strong;
  journals = λ journal order. journal_keeps b.grid b.horizon list journal h.strong order;
  stamps = all_below list nothing h.counted;
}

pub all_theirs : (b : BookView) (j : JoinedView) → IsJoined b j → ((c : ℕ) → c < b.callers → Contains j.callers c) → AreAllTheirs j
all_theirs b j h whole = All-weaker (λ (e : Entry). caller_of e < b.callers) (λ (e : Entry). Contains j.callers (caller_of e)) (λ (e : Entry) (low : caller_of e < b.callers). whole (caller_of e) low) j.seen h.list.callers

-- a beginning of a shared list is one too
pub shared_first : (b : BookView) (xs ys : List Entry) → IsShared b (xs ++ ys) → IsShared b xs
shared_first b xs ys h = record {
  strong = follows_first (IsStronglyAllowed b.grid b.horizon) nothing xs ys h.strong;
  counted = follows_first IsCounted nothing xs ys h.counted;
  callers = All-first (λ (e : Entry). caller_of e < b.callers) xs ys h.callers;
}

pub shared_begin : (b : BookView) (xs list : List Entry) → GoesOn xs list → IsShared b list → IsShared b xs
shared_begin b xs list on h = shared_first b xs on.more (subst (IsShared b) on.is h)

-- a reply stays one
reply_stays : (P : RouteId → Type 0) (es : List Entry) (p : Past) → Any P p.replies → Any P (fold followed_by p es).replies
reply_stays P [] p h = h
reply_stays P (Commit id era q w ∷ es) p h = reply_stays P es (followed_by p (Commit id era q w)) (Any-there P id p.replies h)
reply_stays P (Cancel id era ∷ es) p h = reply_stays P es (followed_by p (Cancel id era)) h
reply_stays P (NoRoute stamp caller era q ∷ es) p h = reply_stays P es (followed_by p (NoRoute stamp caller era q)) (Any-there P (record { stamp = stamp; caller = caller }) p.replies h)

pub stamp_first : (stamp : ℕ) (xs ys : List Entry) → IsStampIn stamp xs → IsStampIn stamp (xs ++ ys)
stamp_first stamp xs ys (inl zero) = inl zero
stamp_first stamp xs ys (inr there) = inr (subst (λ (p : Past). Any (λ (id : RouteId). id.stamp ≡ stamp) p.replies) (sym (fold-append followed_by nothing xs ys))
    (reply_stays (λ (id : RouteId). id.stamp ≡ stamp) ys (past_of xs) there))

pub stamp_goes_on : (stamp : ℕ) (xs list : List Entry) → GoesOn xs list → IsStampIn stamp xs → IsStampIn stamp list
stamp_goes_on stamp xs list on h = subst (IsStampIn stamp) (sym on.is) (stamp_first stamp xs on.more h)

-- the greater one of two stamps
pub stamp_max : (a b : ℕ) (list : List Entry) → IsStampIn a list → IsStampIn b list → IsStampIn (max a b) list
stamp_max a b list h k = ⊎_elim (λ (e : max a b ≡ a). subst (λ (n : ℕ). IsStampIn n list) (sym e) h) (λ (e : max a b ≡ b). subst (λ (n : ℕ). IsStampIn n list) (sym e) k) (max_cases a b)
