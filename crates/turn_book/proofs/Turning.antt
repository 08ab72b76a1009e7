-- A pass that took the turn, or found it taken, or took a note in.
use Rattle.std.proofs.Common.{◌≡◌, ℕ, ◌+◌, ◌<◌, ◌≤◌, List, [], ◌∷◌, ◌++◌, append-nil, append_assoc, refl, sym, ap, ◌∙◌, subst, arith}
use Rattle.std.specs.Prelude.{All, Contains, IfOk, IfErr}
use Rattle.std.proofs.lemmas.List.Elements.{All-weaker}
use Rattle.fleet_base.specs.declared.request.RouteId.{RouteId}
use Rattle.fleet_base.specs.declared.request.Entry.TheVariants.{Cancel}
use Rattle.fleet_base.specs.History.{past_of, book_after, IsLive}
use Rattle.turn_book.specs.declared.pass.Turn.{Turn}
use Rattle.std.specs.declared.result.Result.{Result}
use Rattle.std.specs.declared.result.Result.TheVariants.{Ok, Err}
use Rattle.atomic_table.specs.declared.shared.Seat.{Seat}
use Rattle.fleet_base.specs.declared.request.Request.{Request}
use Rattle.fleet_base.specs.declared.request.Entry.{Entry}
use Rattle.plain_book.specs.BookState.{BookState}
use Rattle.book_trait.specs.declared.reply.Reply.{Reply}
use Rattle.book_trait.specs.declared.reply.PlanStop.{PlanStop}
use Rattle.book_trait.specs.declared.reply.PlanStop.TheVariants as P
use Rattle.book_trait.specs.declared.reply.CancelStop.{CancelStop}
use Rattle.book_trait.specs.declared.reply.CancelStop.TheVariants as C
use Rattle.book_trait.specs.Passes.{BookView, PassView, own, entries_of, IsShared, IsStampIn, IsPass, HasLive}
use Rattle.book_trait.specs.Calls.{Adds, entry_of, stamp_of, Plans, Cancels, Refuses, PlanStops, CancelStops}
use Rattle.book_trait.proofs.SharedLemmas.{stamp_goes_on}
use Rattle.turn_book.specs.declared.rule.Layout.{Layout}
use Rattle.turn_book.specs.declared.rule.View.{View}
use Rattle.turn_book.specs.declared.steps.TurnBook.{TurnBook}
use Rattle.turn_book.specs.declared.pass.TurnPass.{TurnPass}
use Rattle.turn_book.specs.Turns.{Slot, kind_of, Looks}
use Rattle.turn_book.specs.Seats.{layout_of, HasTaken, HasMissed}
use Rattle.turn_book.specs.Passes.{book_view, pass_view, ListsLive, IsKeeping, IsPassOf, HasTurn}
use Rattle.turn_book.proofs.Knowing.{entries-append}
use Rattle.turn_book.proofs.LiveStamps.{lists_same}

pub one_contained : (c : ℕ) (callers : List ℕ) → callers ≡ c ∷ [] → Contains callers c
one_contained c callers e = subst (λ (l : List ℕ). Contains l c) (sym e) (0, omega arith, refl)

-- what a pass keeps while the list goes on without entries of its own
pub keeps_on : (b : BookView) (p p' : PassView) (live : List ℕ) → IsPass b p → ListsLive p live → p'.caller ≡ p.caller → IsShared b p'.seen → own p' ≡ own p → p.last ≤ p'.last → IsStampIn p'.last p'.seen
    → IsPass b p' × ListsLive p' live
keeps_on b p p' live h lists mine shared same le stands = (
  record {
    caller = subst (λ (c : ℕ). c < b.callers) (sym mine) h.caller;
    list = shared;
    last = stands;
    over = subst (λ (l : List Entry). All (λ (id : RouteId). id.stamp ≤ p'.last) (past_of l).replies) (sym same) (All-weaker (λ (id : RouteId). id.stamp ≤ p.last) (λ (id : RouteId). id.stamp ≤ p'.last) (λ (id : RouteId) (l : id.stamp ≤ p.last). omega arith) (past_of (own p)).replies h.over);
  },
  lists_same p p' live lists mine same le,
)

-- the pass has seen this list, which goes on from what it had seen
abbrev looking : PassView → List Entry → PassView
looking p list = record p { seen = list }

looked_pass : (b : TurnBook) (p : TurnPass) (list : List Entry) → IsKeeping b p → p.seat.me.0.layout ≡ layout_of b → Looks p.seat.me.0 list → IsPass (book_view b) (looking (pass_view p) list) × ListsLive (looking (pass_view p) list) p.live.items
looked_pass b p list keeping layout looks =
    keeps_on (book_view b) (pass_view p) (looking (pass_view p) list) p.live.items keeping.is_pass keeping.live refl (subst (λ (k : Layout). IsShared (kind_of k) list) layout looks.shared)
    (looks.mine.own p.caller (one_contained p.caller p.seat.me.0.mine.callers keeping.callers)) (omega arith)
    (stamp_goes_on p.last p.seat.me.0.mine.seen list looks.mine.begins keeping.is_pass.last)

refuses_look : (b : TurnBook) (p : TurnPass) (list : List Entry) → IsKeeping b p → Looks p.seat.me.0 list → Refuses (pass_view p) 0 0 (looking (pass_view p) list)
refuses_look b p list keeping looks = record {
  goes_on = looks.mine.begins;
  own = looks.mine.own p.caller (one_contained p.caller p.seat.me.0.mine.callers keeping.callers);
  rest = let again : p.seat.me.0.again ≡ p.seat.me.0.again + 0 = omega arith in let full : p.seat.me.0.full ≡ p.seat.me.0.full + 0 = omega arith in λ i. record (pass_view p) { seen = list; again = again i; full = full i };
}

taken_view : (b : TurnBook) (p : TurnPass) (seat : Seat Slot View) (book : BookState) → HasTaken b p.caller p.seat seat book → pass_view record p { seat = seat } ≡ looking (pass_view p) seat.me.0.mine.seen
taken_view b p seat book h = ap (λ (v : View). record { caller = p.caller; seen = v.mine.seen; last = p.last; again = v.again; full = v.full; told = p.told }) h.view

pub in_turn : (b : TurnBook) (p : TurnPass) (seat : Seat Slot View) (book : BookState) → IsPassOf b p → HasTaken b p.caller p.seat seat book → HasTurn b record p { seat = seat } book
in_turn b p seat book h t =
    let list = seat.me.0.mine.seen in
    let both = looked_pass b p list h.keeping h.aside.seat_is.layout t.looks in
    let view = taken_view b p seat book t in record {
      in_turn = record {
        keeping = record {
          callers = t.out.callers;
          is_pass = subst (IsPass (book_view b)) (sym view) both.0;
          live = subst (λ (x : PassView). ListsLive x p.live.items) (sym view) both.1;
        };
        out = t.out;
      };
      after = t.after;
    }

pub turn_seen : (b : TurnBook) (p : TurnPass) (seat : Seat Slot View) (book : BookState) → IsPassOf b p → HasTaken b p.caller p.seat seat book → Refuses (pass_view p) 0 0 (pass_view record p { seat = seat })
turn_seen b p seat book h t = subst (Refuses (pass_view p) 0 0) (sym (taken_view b p seat book t)) (refuses_look b p seat.me.0.mine.seen h.keeping t.looks)

-- the turn was another caller's
missed_view : (b : TurnBook) (p : TurnPass) (seat : Seat Slot View) → HasMissed b p.seat seat → pass_view record p { seat = seat } ≡ record (pass_view p) { again = p.seat.me.0.again + 1 }
missed_view b p seat h = ap (λ (v : View). record { caller = p.caller; seen = v.mine.seen; last = p.last; again = v.again; full = v.full; told = p.told }) h.view

pub missed : (b : TurnBook) (p : TurnPass) (seat : Seat Slot View) → IsPassOf b p → HasMissed b p.seat seat → IsPassOf b record p { seat = seat } × Refuses (pass_view p) 1 0 (pass_view record p { seat = seat })
missed b p seat h m =
    let view = missed_view b p seat m in
    let pass = h.keeping.is_pass in (
      record {
        keeping = record {
          callers = ap (λ (v : View). v.mine.callers) m.view ∙ h.keeping.callers;
          is_pass = subst (IsPass (book_view b)) (sym view) record { caller = pass.caller; list = pass.list; last = pass.last; over = pass.over };
          live = subst (λ (x : PassView). ListsLive x p.live.items) (sym view) (lists_same (pass_view p) record (pass_view p) { again = p.seat.me.0.again + 1 } p.live.items h.keeping.live refl refl (omega arith));
        };
        aside = m.aside;
      },
      subst (Refuses (pass_view p) 1 0) (sym view) record {
        goes_on = record { more = []; is = sym (append-nil p.seat.me.0.mine.seen) };
        own = refl;
        rest = let full : p.seat.me.0.full ≡ p.seat.me.0.full + 0 = omega arith in λ i. record (pass_view p) { again = p.seat.me.0.again + 1; full = full i };
      },
    )

-- What comes after a look is the same seen from before it.
own_between : (c : ℕ) (xs ys : List Entry) → entries_of c (xs ++ ys) ≡ entries_of c xs → entries_of c ys ≡ []
own_between c xs ys same = nothing_more (entries_of c xs) (entries_of c ys) (sym (entries-append c xs ys) ∙ same)
  where
    tail_of : List Entry → List Entry
    tail_of [] = []
    tail_of (x ∷ xs) = xs

    nothing_more : (us vs : List Entry) → us ++ vs ≡ us → vs ≡ []
    nothing_more [] vs e = e
    nothing_more (u ∷ us) vs e = nothing_more us vs (ap tail_of e)

adds_later : (p q r : PassView) (e : Entry) → Refuses p 0 0 q → Adds q e r → Adds p e r
adds_later p q r e look a =
    let mine : q.caller ≡ p.caller = ap (λ (x : PassView). x.caller) look.rest in
    let again : q.again ≡ p.again + 0 = ap (λ (x : PassView). x.again) look.rest in
    let full : q.full ≡ p.full + 0 = ap (λ (x : PassView). x.full) look.rest in
    let told : q.told ≡ p.told = ap (λ (x : PassView). x.told) look.rest in
    let none : entries_of p.caller look.goes_on.more ≡ [] = own_between p.caller p.seen look.goes_on.more (ap (entries_of p.caller) (sym look.goes_on.is) ∙ (ap (λ (c : ℕ). entries_of c q.seen) (sym mine) ∙ look.own)) in record {
      between = look.goes_on.more ++ a.between;
      behind = a.behind;
      seen = a.seen ∙ (λ i. (look.goes_on.is i ++ a.between) ++ e ∷ a.behind) ∙ ap (λ (l : List Entry). l ++ e ∷ a.behind) (append_assoc p.seen look.goes_on.more a.between);
      by = a.by ∙ mine;
      others = ap (entries_of p.caller) (append_assoc look.goes_on.more a.between a.behind) ∙ (entries-append p.caller look.goes_on.more (a.between ++ a.behind) ∙ ((λ i. none i ++ entries_of (sym mine i) (a.between ++ a.behind)) ∙ a.others));
      rest = a.rest ∙ (λ i. record { caller = mine i; seen = r.seen; last = r.last; again = same_again again i; full = same_again full i; told = told i });
    }
  where
    same_again : {m n : ℕ} → m ≡ n + 0 → m ≡ n
    same_again e = omega arith

pub plans_later : (p q r : PassView) (asked : Request) (reply : Reply) → Refuses p 0 0 q → Plans q asked reply r → Plans p asked reply r
plans_later p q r asked reply look h =
    let mine : q.caller ≡ p.caller = ap (λ (x : PassView). x.caller) look.rest in
    let last : q.last ≡ p.last = ap (λ (x : PassView). x.last) look.rest in record {
      adds = adds_later p q r (entry_of p.caller asked reply) look (subst (λ (c : ℕ). Adds q (entry_of c asked reply) r) mine h.adds);
      rises = subst (λ (n : ℕ). n < stamp_of reply) last h.rises;
      last = h.last;
    }

has_after : (p q : PassView) (stamp : ℕ) → Refuses p 0 0 q → HasLive p stamp → HasLive q stamp
has_after p q stamp look h =
    let mine : q.caller ≡ p.caller = ap (λ (x : PassView). x.caller) look.rest in
    subst (λ (x : ℕ × List Entry). IsLive record { stamp = stamp; caller = x.0 } (book_after x.1)) (λ i. (sym mine i, sym look.own i)) h

has_before : (p q : PassView) (stamp : ℕ) → Refuses p 0 0 q → HasLive q stamp → HasLive p stamp
has_before p q stamp look h =
    let mine : q.caller ≡ p.caller = ap (λ (x : PassView). x.caller) look.rest in
    subst (λ (x : ℕ × List Entry). IsLive record { stamp = stamp; caller = x.0 } (book_after x.1)) (λ i. (mine i, look.own i)) h

pub cancels_later : (p q r : PassView) (stamp era : ℕ) → Refuses p 0 0 q → Cancels q stamp era r → Cancels p stamp era r
cancels_later p q r stamp era look h =
    let mine : q.caller ≡ p.caller = ap (λ (x : PassView). x.caller) look.rest in
    let last : q.last ≡ p.last = ap (λ (x : PassView). x.last) look.rest in record {
      live = has_before p q stamp look h.live;
      adds = adds_later p q r (Cancel record { stamp = stamp; caller = p.caller } era) look (subst (λ (c : ℕ). Adds q (Cancel record { stamp = stamp; caller = c } era) r) mine h.adds);
      last = h.last ∙ last;
    }

pub refuses_later : (p q r : PassView) (again full : ℕ) → Refuses p 0 0 q → Refuses q again full r → Refuses p again full r
refuses_later p q r again full look h =
    let a : q.again ≡ p.again + 0 = ap (λ (x : PassView). x.again) look.rest in
    let f : q.full ≡ p.full + 0 = ap (λ (x : PassView). x.full) look.rest in
    let again_is : q.again + again ≡ p.again + again = omega arith in
    let full_is : q.full + full ≡ p.full + full = omega arith in record {
      goes_on = record { more = look.goes_on.more ++ h.goes_on.more; is = h.goes_on.is ∙ (ap (λ (l : List Entry). l ++ h.goes_on.more) look.goes_on.is ∙ append_assoc p.seen look.goes_on.more h.goes_on.more) };
      own = h.own ∙ look.own;
      rest = h.rest ∙ (λ i. record { caller = (look.rest i).caller; seen = r.seen; last = (look.rest i).last; again = again_is i; full = full_is i; told = (look.rest i).told });
    }

pub plan_stops_later : (p q r : PassView) (e : PlanStop Turn) → Refuses p 0 0 q → PlanStops q e r → PlanStops p e r
plan_stops_later p q r (P.Again word cause) look h = refuses_later p q r 1 0 look h
plan_stops_later p q r (P.Full kind) look h = refuses_later p q r 0 1 look h
plan_stops_later p q r P.Memory look h = refuses_later p q r 0 0 look h

pub cancel_stops_later : (p q r : PassView) (stamp : ℕ) (e : CancelStop Turn) → Refuses p 0 0 q → CancelStops q stamp e r → CancelStops p stamp e r
cancel_stops_later p q r stamp C.NotLive look h = (refuses_later p q r 0 0 look h.0, λ there. h.1 (has_after p q stamp look there))
cancel_stops_later p q r stamp (C.Again word cause) look h = (refuses_later p q r 1 0 look h.0, has_before p q stamp look h.1)
cancel_stops_later p q r stamp (C.Full kind) look h = (refuses_later p q r 0 1 look h.0, has_before p q stamp look h.1)

-- the same of a call's answer, whichever it is
pub plan_made : (p q r : PassView) (asked : Request) (x : Result Reply (PlanStop Turn)) → Refuses p 0 0 q → IfOk x (λ reply. Plans q asked reply r) → IfOk x (λ reply. Plans p asked reply r)
plan_made p q r asked (Ok reply) look h = plans_later p q r asked reply look h
plan_made p q r asked (Err e) look h = tt

pub plan_stopped : (p q r : PassView) (x : Result Reply (PlanStop Turn)) → Refuses p 0 0 q → IfErr x (λ e. PlanStops q e r) → IfErr x (λ e. PlanStops p e r)
plan_stopped p q r (Ok reply) look h = tt
plan_stopped p q r (Err e) look h = plan_stops_later p q r e look h

pub cancel_made : (p q r : PassView) (stamp : ℕ) (x : Result ℕ (CancelStop Turn)) → Refuses p 0 0 q → IfOk x (λ era. Cancels q stamp era r) → IfOk x (λ era. Cancels p stamp era r)
cancel_made p q r stamp (Ok era) look h = cancels_later p q r stamp era look h
cancel_made p q r stamp (Err e) look h = tt

pub cancel_stopped : (p q r : PassView) (stamp : ℕ) (x : Result ℕ (CancelStop Turn)) → Refuses p 0 0 q → IfErr x (λ e. CancelStops q stamp e r) → IfErr x (λ e. CancelStops p stamp e r)
cancel_stopped p q r stamp (Ok era) look h = tt
cancel_stopped p q r stamp (Err e) look h = cancel_stops_later p q r stamp e look h
