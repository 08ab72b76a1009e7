-- What a call in its turn leaves: the entry was made, or none was.
use Rattle.std.proofs.Common.{◌≡◌, ℕ, ◌+◌, ◌<◌, ◌≤◌, List, [], ◌∷◌, ◌++◌, length, append-nil, refl, sym, ap, ◌∙◌, subst, arith, inl, inr}
use Rattle.std.specs.Prelude.{All, Any, slice_index}
use Rattle.std.specs.List.{remove}
use Rattle.std.proofs.lemmas.List.Elements.{All-nil, All-cons, All-weaker}
use Rattle.atomic_table.specs.declared.shared.Seat.{Seat}
use Rattle.fleet_base.specs.declared.request.RouteId.{RouteId}
use Rattle.fleet_base.specs.declared.request.Request.{Request}
use Rattle.fleet_base.specs.declared.request.Entry.{Entry}
use Rattle.fleet_base.specs.declared.request.Entry.TheVariants.{Commit, Cancel, NoRoute}
use Rattle.fleet_base.specs.History.{Past, followed_by, past_of, caller_of}
use Rattle.plain_book.specs.BookState.{BookState, IsOnSameGrid}
use Rattle.plain_book.specs.Replies.{IsReplyTo}
use Rattle.plain_book.specs.History.{AnswersBook}
use Rattle.book_trait.specs.declared.reply.Reply.{Reply}
use Rattle.book_trait.specs.Passes.{PassView, own, IsShared, IsStampIn, IsPass}
use Rattle.book_trait.specs.Calls.{entry_of, stamp_of, Plans, Cancels, Refuses}
use Rattle.book_trait.proofs.SharedLemmas.{stamp_first}
use Rattle.turn_book.specs.declared.rule.View.{View}
use Rattle.turn_book.specs.declared.steps.TurnBook.{TurnBook}
use Rattle.turn_book.specs.declared.pass.TurnPass.{TurnPass}
use Rattle.turn_book.specs.Turns.{Slot, IsInRange, IsAfter, given}
use Rattle.turn_book.specs.Seats.{layout_of, MayGive, HasGiven}
use Rattle.turn_book.specs.Passes.{book_view, pass_view, ListsLive, IsKeeping, IsPassOf, IsInTurn, HasTurn}
use Rattle.turn_book.specs.Causes.{IsCountedStamp}
use Rattle.turn_book.specs.Replying.{IsReply, IsToldBy, stamps_in, HasPlanned, HasEnded}
use Rattle.turn_book.proofs.Histories.{past_push, own_push, own_replies, Counts, pushed}
use Rattle.turn_book.proofs.LiveStamps.{lists_reply, lists_same, lists_cancel, stamp_live}

-- what the book answered, and what the caller makes of it
pub reply_is : (before new : BookState) (c : ℕ) (q : Request) (e : Entry) → IsReplyTo before c q e new → IsReply e
reply_is before new c q (Commit id era asked w) h = tt
reply_is before new c q (Cancel id era) h = h
reply_is before new c q (NoRoute stamp caller era asked) h = tt

reply_by : (before new : BookState) (c : ℕ) (q : Request) (e : Entry) → IsReplyTo before c q e new → caller_of e ≡ c
reply_by before new c q (Commit id era asked w) h = ap (λ (i : RouteId). i.caller) h.id_is
reply_by before new c q (Cancel id era) h = absurd h
reply_by before new c q (NoRoute stamp caller era asked) h = h.caller_is

reply_counts : (before new : BookState) (c : ℕ) (q : Request) (e : Entry) → IsReplyTo before c q e new → new.stamp ≡ before.stamp + 1 → Counts before new e
reply_counts before new c q (Commit id era asked w) h now = (ap (λ (i : RouteId). i.stamp) h.id_is, now)
reply_counts before new c q (Cancel id era) h now = absurd h
reply_counts before new c q (NoRoute stamp caller era asked) h now = (h.stamp_is, now)

told_entry : (before new : BookState) (c : ℕ) (q : Request) (e : Entry) (r : Reply) → IsReplyTo before c q e new → IsToldBy e r → e ≡ entry_of c q r
told_entry before new c q (Commit id era asked w) r h told = ap (λ (x : Request). Commit id era x w) h.request_is ∙ sym (ap (entry_of c q) told)
told_entry before new c q (Cancel id era) r h told = absurd h
told_entry before new c q (NoRoute stamp caller era asked) r h told = (λ i. NoRoute stamp (h.caller_is i) era (h.request_is i)) ∙ sym (ap (entry_of c q) told)

told_stamp : (before new : BookState) (c : ℕ) (q : Request) (e : Entry) (r : Reply) → IsReplyTo before c q e new → IsToldBy e r → stamp_of r ≡ before.stamp + 1
told_stamp before new c q (Commit id era asked w) r h told = ap stamp_of told ∙ ap (λ (i : RouteId). i.stamp) h.id_is
told_stamp before new c q (Cancel id era) r h told = absurd h
told_stamp before new c q (NoRoute stamp caller era asked) r h told = ap stamp_of told ∙ h.stamp_is

told_made : (e : Entry) (r : Reply) → IsToldBy e r → All (λ x. x ≡ stamp_of r) (stamps_in e)
told_made (Commit id era asked w) r told = All-cons (λ x. x ≡ stamp_of r) id.stamp [] (sym (ap stamp_of told)) (All-nil (λ x. x ≡ stamp_of r))
told_made (Cancel id era) r told = absurd told
told_made (NoRoute stamp caller era asked) r told = All-nil (λ x. x ≡ stamp_of r)

told_stands : (e : Entry) (r : Reply) (p : Past) → IsToldBy e r → Any (λ (id : RouteId). id.stamp ≡ stamp_of r) (followed_by p e).replies
told_stands (Commit id era asked w) r p told = (0, id, omega arith, refl, sym (ap stamp_of told))
told_stands (Cancel id era) r p told = absurd told
told_stands (NoRoute stamp caller era asked) r p told = (0, record { stamp = stamp; caller = caller }, omega arith, refl, sym (ap stamp_of told))

-- a stamp in the list is no higher than all of them
last_low : (last n : ℕ) (list : List Entry) → IsStampIn last list → All (λ (id : RouteId). id.stamp ≤ n) (past_of list).replies → last ≤ n
last_low last n list (inl none) h = omega arith
last_low last n list (inr (k, id, low, at, same)) h =
    let there : id.stamp ≤ n = subst (λ (x : RouteId). x.stamp ≤ n) at (h k id low) in omega arith

-- one entry of the caller may be given
pub may_give_one : (b : TurnBook) (p : TurnPass) (es : List Entry) (e : Entry) (before new : BookState) → es ≡ e ∷ [] → IsKeeping b p → IsAfter (layout_of b) p.seat.me.0.mine.seen before → AnswersBook before new e → IsOnSameGrid before new
    → caller_of e ≡ p.caller → Counts before new e → IsInRange new → MayGive b p.caller p.seat.me.0.mine.seen es new
may_give_one b p es e before new is keeping was history same by counts in_range =
    let k = layout_of b in
    let seen = p.seat.me.0.mine.seen in
    let next = pushed k seen e before new keeping.is_pass.list was history same (subst (λ (n : ℕ). n < k.callers) (sym by) keeping.is_pass.caller) counts in_range in
    subst (λ (l : List Entry). MayGive b p.caller seen l new) (sym is) record {
      by = All-cons (λ (x : Entry). caller_of x ≡ p.caller) e [] by (All-nil (λ (x : Entry). caller_of x ≡ p.caller));
      shared = next.0;
      after = next.1;
    }

pub may_give_planned : (b : TurnBook) (p : TurnPass) (q : Request) (es : List Entry) (e : Entry) (new : BookState) → es ≡ e ∷ [] → IsKeeping b p → HasPlanned b p q e new → MayGive b p.caller p.seat.me.0.mine.seen es new
may_give_planned b p q es e new is keeping h =
    may_give_one b p es e h.before new is keeping h.was h.history h.same (reply_by h.before new p.caller q e h.reply) (reply_counts h.before new p.caller q e h.reply h.counts.0) h.in_range

-- the pass with another seat's view and another last stamp
abbrev seen_as : TurnPass → View → ℕ → PassView
seen_as p v last = record { caller = p.caller; seen = v.mine.seen; last = last; again = v.again; full = v.full; told = p.told }

-- what a pass of the book is after its seat gave the turn back
aside_again : (b : TurnBook) (p p' : TurnPass) (q : PassView) (es : List Entry) (full : ℕ) → IsInTurn b p → HasGiven b p.seat p'.seat es full → p'.caller ≡ p.caller → pass_view p' ≡ q
    → IsPass (book_view b) q → ListsLive q p'.live.items → IsPassOf b p'
aside_again b p p' q es full turn gave mine is pass live = record {
  keeping = record {
    callers = ap (λ (v : View). v.mine.callers) gave.view ∙ (turn.keeping.callers ∙ ap (λ (c : ℕ). c ∷ []) (sym mine));
    is_pass = subst (IsPass (book_view b)) (sym is) pass;
    live = subst (λ (x : PassView). ListsLive x p'.live.items) (sym is) live;
  };
  aside = gave.aside;
}

given_as : (p : TurnPass) (v : View) (es more : List Entry) (full total last : ℕ) → v ≡ given p.seat.me.0 es full → es ≡ more → p.seat.me.0.full + full ≡ total
    → seen_as p v last ≡ record { caller = p.caller; seen = p.seat.me.0.mine.seen ++ more; last = last; again = p.seat.me.0.again; full = total; told = p.told }
given_as p v es more full total last view is sum =
    ap (λ (x : View). seen_as p x last) view ∙ (λ i. record { caller = p.caller; seen = p.seat.me.0.mine.seen ++ is i; last = last; again = p.seat.me.0.again; full = sum i; told = p.told })

-- the pass with an entry more, and its reply's stamp
abbrev as_planned : TurnPass → Entry → Reply → PassView
as_planned p e r = record { caller = p.caller; seen = p.seat.me.0.mine.seen ++ e ∷ []; last = stamp_of r; again = p.seat.me.0.again; full = p.seat.me.0.full; told = p.told }

module _ (b : TurnBook) (p : TurnPass) (q : Request) (es : List Entry) (e : Entry) (new : BookState) (r : Reply) (is : es ≡ e ∷ []) (turn : IsInTurn b p) (h : HasPlanned b p q e new) (told : IsToldBy e r) where
  last_rises : p.last < stamp_of r
  last_rises =
      let low = last_low p.last h.before.stamp p.seat.me.0.mine.seen turn.keeping.is_pass.last h.was.leads.stamps in
      let next = told_stamp h.before new p.caller q e r h.reply told in omega arith

  planned_pass : IsPass (book_view b) (as_planned p e r)
  planned_pass =
      let seen = p.seat.me.0.mine.seen in
      let may = may_give_planned b p q (e ∷ []) e new refl turn.keeping h in
      let next = told_stamp h.before new p.caller q e r h.reply told in
      let now = h.counts.0 in record {
        caller = turn.keeping.is_pass.caller;
        list = may.shared;
        last = inr (subst (λ (x : Past). Any (λ (id : RouteId). id.stamp ≡ stamp_of r) x.replies) (sym (past_push seen e)) (told_stands e r (past_of seen) told));
        over = own_replies (λ (id : RouteId). id.stamp ≤ stamp_of r) p.caller (seen ++ e ∷ []) (All-weaker (λ (id : RouteId). id.stamp ≤ new.stamp) (λ (id : RouteId). id.stamp ≤ stamp_of r) (λ (id : RouteId) (le : id.stamp ≤ new.stamp). omega arith) (past_of (seen ++ e ∷ [])).replies may.after.leads.stamps);
      }

  planned_live : ListsLive (as_planned p e r) (p.live.items ++ stamps_in e)
  planned_live =
      let by = reply_by h.before new p.caller q e h.reply in
      lists_reply (pass_view p) (as_planned p e r) p.live.items e turn.keeping.live
      (reply_is h.before new p.caller q e h.reply) by refl (own_push p.caller p.seat.me.0.mine.seen e by) last_rises (told_made e r told)

  planned_plans : Plans (pass_view p) q r (as_planned p e r)
  planned_plans =
      let seen = p.seat.me.0.mine.seen in
      let entry = told_entry h.before new p.caller q e r h.reply told in record {
        adds = record {
          between = [];
          behind = [];
          seen = λ i. sym (append-nil seen) i ++ entry i ∷ [];
          by = subst (λ (x : Entry). caller_of x ≡ p.caller) entry (reply_by h.before new p.caller q e h.reply);
          others = refl;
          rest = refl;
        };
        rises = last_rises;
        last = refl;
      }

  counted_stamp : stamp_of r ≡ length (past_of (p.seat.me.0.mine.seen ++ e ∷ [])).replies
  counted_stamp =
      let may = may_give_planned b p q (e ∷ []) e new refl turn.keeping h in
      told_stamp h.before new p.caller q e r h.reply told ∙ (sym h.counts.0 ∙ may.after.counted)

  pub planned : (seat : Seat Slot View) (p' : TurnPass) → HasGiven b p.seat seat es 0 → p'.live.items ≡ p.live.items ++ stamps_in e → p' ≡ record p { seat = seat; last = stamp_of r; live = p'.live }
      → IsPassOf b p' × Plans (pass_view p) q r (pass_view p') × IsCountedStamp r p'
  planned seat p' gave live becomes =
      let place : p'.seat ≡ seat = ap (λ (x : TurnPass). x.seat) becomes in
      let mine : p'.caller ≡ p.caller = ap (λ (x : TurnPass). x.caller) becomes in
      let view = ap pass_view becomes ∙ given_as p seat.me.0 es (e ∷ []) 0 p.seat.me.0.full (stamp_of r) gave.view is (omega arith) in (
        aside_again b p p' (as_planned p e r) es 0 turn (subst (λ (x : Seat Slot View). HasGiven b p.seat x es 0) (sym place) gave) mine view planned_pass (subst (λ (l : List ℕ). ListsLive (as_planned p e r) l) (sym live) planned_live),
        subst (Plans (pass_view p) q r) (sym view) planned_plans,
        counted_stamp ∙ ap (λ (x : PassView). length (past_of x.seen).replies) (sym view),
      )

-- the pass with its cancel
abbrev as_cancelled : TurnPass → Entry → PassView
as_cancelled p e = record { caller = p.caller; seen = p.seat.me.0.mine.seen ++ e ∷ []; last = p.last; again = p.seat.me.0.again; full = p.seat.me.0.full; told = p.told }

pub may_give_ended : (b : TurnBook) (p : TurnPass) (stamp era : ℕ) (es : List Entry) (e : Entry) (new : BookState) → es ≡ e ∷ [] → IsKeeping b p → HasEnded b p stamp era e new → MayGive b p.caller p.seat.me.0.mine.seen es new
may_give_ended b p stamp era es e new is keeping h =
    let entry = h.ends.entry_is in
    may_give_one b p es e h.before new is keeping h.was h.history h.same (ap caller_of entry) (subst (Counts h.before new) (sym entry) h.counts.0) h.in_range

module _ (b : TurnBook) (p : TurnPass) (place era : ℕ) (es : List Entry) (e : Entry) (new : BookState) (is : es ≡ e ∷ []) (turn : IsInTurn b p) (h : HasEnded b p (slice_index p.live.items place) era e new) (low : place < length p.live.items) where
  ended_entry : e ≡ Cancel record { stamp = slice_index p.live.items place; caller = p.caller } era
  ended_entry = h.ends.entry_is ∙ ap (λ (n : ℕ). Cancel record { stamp = slice_index p.live.items place; caller = p.caller } n) (sym h.era_is)

  ended_own : own (as_cancelled p e) ≡ own (pass_view p) ++ e ∷ []
  ended_own = own_push p.caller p.seat.me.0.mine.seen e (ap caller_of h.ends.entry_is)

  same_replies : (past_of (own (as_cancelled p e))).replies ≡ (past_of (own (pass_view p))).replies
  same_replies =
      ap (λ (l : List Entry). (past_of l).replies) ended_own
      ∙ (ap (λ (x : Past). x.replies) (past_push (own (pass_view p)) e) ∙ ap (λ (x : Entry). (followed_by (past_of (own (pass_view p))) x).replies) ended_entry)

  ended_pass : IsPass (book_view b) (as_cancelled p e)
  ended_pass =
      let may = may_give_ended b p (slice_index p.live.items place) era (e ∷ []) e new refl turn.keeping h in record {
        caller = turn.keeping.is_pass.caller;
        list = may.shared;
        last = stamp_first p.last p.seat.me.0.mine.seen (e ∷ []) turn.keeping.is_pass.last;
        over = subst (λ (l : List RouteId). All (λ (id : RouteId). id.stamp ≤ p.last) l) (sym same_replies) turn.keeping.is_pass.over;
      }

  ended_cancels : Cancels (pass_view p) (slice_index p.live.items place) era (as_cancelled p e)
  ended_cancels =
      let seen = p.seat.me.0.mine.seen in record {
        live = stamp_live (pass_view p) p.live.items place turn.keeping.live low;
        adds = record { between = []; behind = []; seen = λ i. sym (append-nil seen) i ++ ended_entry i ∷ []; by = refl; others = refl; rest = refl };
        last = refl;
      }

  pub ended : (p' : TurnPass) → HasGiven b p.seat p'.seat es 0 → p'.live.items ≡ remove p.live.items place → p' ≡ record p { seat = p'.seat; live = p'.live }
      → IsPassOf b p' × Cancels (pass_view p) (slice_index p.live.items place) era (pass_view p')
  ended p' gave live becomes =
      let mine : p'.caller ≡ p.caller = ap (λ (x : TurnPass). x.caller) becomes in
      let view = ap pass_view becomes ∙ given_as p p'.seat.me.0 es (e ∷ []) 0 p.seat.me.0.full p.last gave.view is (omega arith) in
      let own_is = ended_own ∙ ap (λ (x : Entry). own (pass_view p) ++ x ∷ []) ended_entry in (
        aside_again b p p' (as_cancelled p e) es 0 turn gave mine view ended_pass
            (subst (λ (l : List ℕ). ListsLive (as_cancelled p e) l) (sym live) (lists_cancel (pass_view p) (as_cancelled p e) p.live.items place era turn.keeping.live low refl refl own_is)),
        subst (Cancels (pass_view p) (slice_index p.live.items place) era) (sym view) ended_cancels,
      )

-- no entry is given
abbrev as_refused : TurnPass → ℕ → PassView
as_refused p full = record { caller = p.caller; seen = p.seat.me.0.mine.seen ++ []; last = p.last; again = p.seat.me.0.again; full = p.seat.me.0.full + full; told = p.told }

pub may_give_none : (b : TurnBook) (p : TurnPass) (book : BookState) → HasTurn b p book → MayGive b p.caller p.seat.me.0.mine.seen [] book
may_give_none b p book turn = record {
  by = All-nil (λ (x : Entry). caller_of x ≡ p.caller);
  shared = subst (IsShared (book_view b)) (sym (append-nil p.seat.me.0.mine.seen)) turn.in_turn.keeping.is_pass.list;
  after = subst (λ (l : List Entry). IsAfter (layout_of b) l book) (sym (append-nil p.seat.me.0.mine.seen)) turn.after;
}

pub refused_in_turn : (b : TurnBook) (p p' : TurnPass) (es : List Entry) (full : ℕ) (book : BookState) → es ≡ [] → HasTurn b p book → HasGiven b p.seat p'.seat es full → p' ≡ record p { seat = p'.seat }
    → IsPassOf b p' × Refuses (pass_view p) 0 full (pass_view p')
refused_in_turn b p p' es full book is turn gave becomes =
    let seen = p.seat.me.0.mine.seen in
    let keeping = turn.in_turn.keeping in
    let mine : p'.caller ≡ p.caller = ap (λ (x : TurnPass). x.caller) becomes in
    let view : pass_view p' ≡ record (pass_view p) { full = p.seat.me.0.full + full } =
    ap pass_view becomes ∙ (given_as p p'.seat.me.0 es [] full (p.seat.me.0.full + full) p.last gave.view is refl ∙ (λ i. record (pass_view p) { seen = append-nil seen i; full = p.seat.me.0.full + full })) in
    let live : ListsLive record (pass_view p) { full = p.seat.me.0.full + full } p'.live.items =
    subst (λ (l : List ℕ). ListsLive record (pass_view p) { full = p.seat.me.0.full + full } l) (sym (ap (λ (x : TurnPass). x.live.items) becomes)) (lists_same (pass_view p) record (pass_view p) { full = p.seat.me.0.full + full } p.live.items keeping.live refl refl (omega arith)) in (
      aside_again b p p' record (pass_view p) { full = p.seat.me.0.full + full } es full turn.in_turn gave mine view
          record { caller = keeping.is_pass.caller; list = keeping.is_pass.list; last = keeping.is_pass.last; over = keeping.is_pass.over } live,
      subst (Refuses (pass_view p) 0 full) (sym view) record {
        goes_on = record { more = []; is = sym (append-nil seen) };
        own = refl;
        rest = let again : p.seat.me.0.again ≡ p.seat.me.0.again + 0 = omega arith in λ i. record (pass_view p) { again = again i; full = p.seat.me.0.full + full };
      },
    )
