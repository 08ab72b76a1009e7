-- What one call of a book adds to the tries before it.
use Rattle.std.proofs.Common.{◌≡◌, ℕ, ◌+◌, ◌<◌, ◌≤◌, ◌==◌, Bool, true, cond, List, [], ◌∷◌, ◌++◌, refl, sym, ap, ◌∙◌, subst, arith, append-nil, eq-eqb, ap₂}
use Rattle.std.specs.Prelude.{filter}
use Rattle.std.proofs.lemmas.List.Elements.{filter-append, All-nil, All-cons}
use Rattle.fleet_base.specs.declared.request.Request.{Request}
use Rattle.fleet_base.specs.declared.request.Entry.{Entry}
use Rattle.fleet_base.specs.declared.request.Entry.TheVariants.{Cancel}
use Rattle.fleet_base.specs.History.{caller_of, book_after, IsLive}
use Rattle.book_trait.specs.declared.reply.Reply.{Reply}
use Rattle.book_trait.specs.declared.reply.Reply.TheVariants as R
use Rattle.book_trait.specs.Passes.{PassView, entries_of, own, HasLive}
use Rattle.book_trait.specs.Calls.{Adds, Plans, Cancels, Refuses, entry_of, stamp_of}
use Rattle.planner_pool.specs.Tries.{IsNewer, Makes, Counts, Leaves, PlanTried, CancelTried, Goes}

pub nothing_both : {X : Type 0} (xs ys : List X) → xs ++ ys ≡ [] → (xs ≡ []) × (ys ≡ [])
nothing_both [] ys h = (refl, h)
nothing_both (x ∷ xs) ys h = absurd (cc)

passes : {X : Type 0} (test : X → Bool) (x : X) (xs : List X) → test x ≡ true → filter test (x ∷ xs) ≡ x ∷ filter test xs
passes test x xs h = ap (λ b. cond b (x ∷ filter test xs) (filter test xs)) h

-- the caller's entries are one more
pub own_adds : (p : PassView) (e : Entry) (q : PassView) → Adds p e q → own q ≡ own p ++ e ∷ []
own_adds p e q a =
    let c : ℕ = p.caller in
    let caller : q.caller ≡ c = ap (λ (v : PassView). v.caller) a.rest in
    let by = λ (x : Entry). caller_of x == c in
    let none = nothing_both (filter by a.between) (filter by a.behind) (sym (filter-append by a.between a.behind) ∙ a.others) in
    let last : filter by (e ∷ a.behind) ≡ e ∷ [] = passes by e a.behind (eq-eqb (caller_of e) c a.by) ∙ ap (λ l. e ∷ l) none.1 in
    ap (λ k. entries_of k q.seen) caller ∙ (ap (entries_of c) a.seen ∙ (filter-append by (p.seen ++ a.between) (e ∷ a.behind)
    ∙ ap₂ ◌++◌ (filter-append by p.seen a.between ∙ (ap (λ l. own p ++ l) none.0 ∙ append-nil (own p))) last))

pub goes_start : (p : PassView) → Goes p 0 p
goes_start p = record {
  makes = record { caller = refl; own = sym (append-nil (own p)); newer = All-nil (IsNewer p.last); last = omega arith };
  last = refl;
  again = omega arith;
  full = refl;
}

none_made : (p : PassView) (n again full : ℕ) (q r : PassView) → Goes p n q → Refuses q again full r → Makes p [] r
none_made p n again full q r g f =
    let caller : r.caller ≡ q.caller = ap (λ (v : PassView). v.caller) f.rest in
    let last : r.last ≡ q.last = ap (λ (v : PassView). v.last) f.rest in
    let before = g.last in
    record { caller = caller ∙ g.makes.caller; own = f.own ∙ g.makes.own; newer = All-nil (IsNewer p.last); last = omega arith }

pub goes_again : (p : PassView) (n : ℕ) (q r : PassView) → Goes p n q → Refuses q 1 0 r → Goes p (n + 1) r
goes_again p n q r g f =
    let last : r.last ≡ q.last = ap (λ (v : PassView). v.last) f.rest in
    let again : r.again ≡ q.again + 1 = ap (λ (v : PassView). v.again) f.rest in
    let full : r.full ≡ q.full + 0 = ap (λ (v : PassView). v.full) f.rest in
    let tries = g.again in
    let fulls = g.full in
    record { makes = none_made p n 1 0 q r g f; last = last ∙ g.last; again = omega arith; full = omega arith }

pub goes_full : (p : PassView) (n : ℕ) (q r : PassView) → Goes p n q → n ≤ 8 → Refuses q 0 1 r → Leaves p r
goes_full p n q r g few f =
    let again : r.again ≡ q.again + 0 = ap (λ (v : PassView). v.again) f.rest in
    let full : r.full ≡ q.full + 1 = ap (λ (v : PassView). v.full) f.rest in
    let tries = g.again in
    let fulls = g.full in
    record { makes = none_made p n 0 1 q r g f; counts = record { enough = omega arith; again = omega arith; full = omega arith } }

pub goes_end : (p : PassView) (q : PassView) → Goes p 8 q → Leaves p q
goes_end p q g =
    let tries = g.again in
    let fulls = g.full in
    record { makes = g.makes; counts = record { enough = omega arith; again = omega arith; full = omega arith } }

made : (p : PassView) (n : ℕ) (q : PassView) (e : Entry) (r : PassView) → Goes p n q → Adds q e r → IsNewer p.last e → q.last ≤ r.last → Makes p (e ∷ []) r
made p n q e r g a newer rises =
    let caller : r.caller ≡ q.caller = ap (λ (v : PassView). v.caller) a.rest in
    let before = g.last in
    record { caller = caller ∙ g.makes.caller; own = own_adds q e r a ∙ ap (λ l. l ++ e ∷ []) (g.makes.own ∙ append-nil (own p)); newer = All-cons (IsNewer p.last) e [] newer (All-nil (IsNewer p.last)); last = omega arith }

counted : (p : PassView) (n : ℕ) (q : PassView) (e : Entry) (r : PassView) → Goes p n q → n ≤ 7 → Adds q e r → Counts p r 1 0
counted p n q e r g few a =
    let again : r.again ≡ q.again = ap (λ (v : PassView). v.again) a.rest in
    let full : r.full ≡ q.full = ap (λ (v : PassView). v.full) a.rest in
    let tries = g.again in
    let fulls = g.full in
    record { enough = omega arith; again = omega arith; full = omega arith }

reply_newer : (caller last : ℕ) (req : Request) (reply : Reply) → last < stamp_of reply → IsNewer last (entry_of caller req reply)
reply_newer caller last req (R.Committed id walk era) h = h
reply_newer caller last req (R.NoRoute stamp era) h = h

pub goes_plan : (p : PassView) (n : ℕ) (q : PassView) (req : Request) (reply : Reply) (r : PassView) → Goes p n q → n ≤ 7 → Plans q req reply r → PlanTried p req reply r
goes_plan p n q req reply r g few h =
    let rises = h.rises in
    let last = h.last in
    let before = g.last in
    record {
      makes = subst (λ (c : ℕ). Makes p (entry_of c req reply ∷ []) r) g.makes.caller (made p n q (entry_of q.caller req reply) r g h.adds (reply_newer q.caller p.last req reply (omega arith)) (omega arith));
      by = subst (λ (c : ℕ). caller_of (entry_of c req reply) ≡ c) g.makes.caller h.adds.by;
      rises = omega arith;
      last = h.last;
      counts = counted p n q (entry_of q.caller req reply) r g few h.adds;
    }

pub goes_cancel : (p : PassView) (n : ℕ) (q : PassView) (stamp era : ℕ) (r : PassView) → Goes p n q → n ≤ 7 → Cancels q stamp era r → CancelTried p stamp era r
goes_cancel p n q stamp era r g few h =
    let last = h.last in
    record {
      makes = subst (λ (c : ℕ). Makes p (Cancel record { stamp = stamp; caller = c } era ∷ []) r) g.makes.caller (made p n q (Cancel record { stamp = stamp; caller = q.caller } era) r g h.adds tt (omega arith));
      last = h.last ∙ g.last;
      counts = counted p n q (Cancel record { stamp = stamp; caller = q.caller } era) r g few h.adds;
    }

pub live_same : (q : PassView) (stamp : ℕ) (r : PassView) → Refuses q 1 0 r → HasLive q stamp → HasLive r stamp
live_same q stamp r f live =
    let caller : r.caller ≡ q.caller = ap (λ (v : PassView). v.caller) f.rest in
    subst (λ (z : ℕ × List Entry). IsLive record { stamp = stamp; caller = z.0 } (book_after z.1)) (λ i. (sym caller i, sym f.own i)) live
