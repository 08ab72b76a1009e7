-- A pass that took a note in.
use Rattle.std.proofs.Common.{◌≡◌, ℕ, ◌+◌, [], ◌∷◌, ◌++◌, append-nil, refl, sym, ap, ◌∙◌, subst, arith, max}
use Rattle.atomic_table.specs.declared.shared.Seat.{Seat}
use Rattle.book_trait.specs.Passes.{PassView, own, IsShared, IsStampIn, IsPass}
use Rattle.book_trait.specs.Calls.{Heeds}
use Rattle.book_trait.proofs.SharedLemmas.{stamp_goes_on, stamp_max}
use Rattle.turn_book.specs.declared.rule.Layout.{Layout}
use Rattle.turn_book.specs.declared.rule.View.{View}
use Rattle.turn_book.specs.declared.steps.TurnBook.{TurnBook}
use Rattle.turn_book.specs.declared.pass.TurnPass.{TurnPass}
use Rattle.turn_book.specs.declared.pass.TurnNote.{TurnNote}
use Rattle.turn_book.specs.Turns.{Slot, kind_of}
use Rattle.turn_book.specs.Seats.{HasMerged}
use Rattle.turn_book.specs.Passes.{book_view, pass_view, note_view, ListsLive, IsPassOf, IsNoteOf}
use Rattle.turn_book.proofs.Turning.{one_contained, keeps_on}

module _ (b : TurnBook) (p : TurnPass) (n : TurnNote) (seat : Seat Slot View) (last : ℕ) (h : IsPassOf b p) (note : IsNoteOf b n) (merged : HasMerged b p.seat seat n.seat) (greater : last ≡ max p.last n.last) where
  heeded_view : pass_view record p { seat = seat; last = last } ≡ record (pass_view p) { seen = seat.me.0.mine.seen; last = last }
  heeded_view =
      let none = note.counts.0 in
      let none_full = note.counts.1 in
      let again : p.seat.me.0.again + n.seat.me.0.again ≡ p.seat.me.0.again = omega arith in
      let full : p.seat.me.0.full + n.seat.me.0.full ≡ p.seat.me.0.full = omega arith in
      ap (λ (v : View). record { caller = p.caller; seen = v.mine.seen; last = last; again = v.again; full = v.full; told = p.told }) merged.view
      ∙ (λ i. record { caller = p.caller; seen = seat.me.0.mine.seen; last = last; again = again i; full = full i; told = p.told })

  same_own : own record (pass_view p) { seen = seat.me.0.mine.seen; last = last } ≡ own (pass_view p)
  same_own = merged.looks.mine.own p.caller (one_contained p.caller p.seat.me.0.mine.callers h.keeping.callers)

  heeded_pass : IsPass (book_view b) record (pass_view p) { seen = seat.me.0.mine.seen; last = last } × ListsLive record (pass_view p) { seen = seat.me.0.mine.seen; last = last } p.live.items
  heeded_pass =
      let list = seat.me.0.mine.seen in
      keeps_on (book_view b) (pass_view p) record (pass_view p) { seen = list; last = last } p.live.items h.keeping.is_pass h.keeping.live refl
      (subst (λ (k : Layout). IsShared (kind_of k) list) h.aside.seat_is.layout merged.looks.shared) same_own (omega arith)
      (subst (λ (s : ℕ). IsStampIn s list) (sym greater) (stamp_max p.last n.last list (stamp_goes_on p.last p.seat.me.0.mine.seen list merged.looks.mine.begins h.keeping.is_pass.last)
      (stamp_goes_on n.last n.seat.me.0.mine.seen list merged.looks.heard.begins note.is_note.last)))

  pub heeded : IsPassOf b record p { seat = seat; last = last } × Heeds (pass_view p) (note_view n) (pass_view record p { seat = seat; last = last })
  heeded = (
    record {
      keeping = record {
        callers = ap (λ (v : View). v.mine.callers) merged.view ∙ ((λ i. h.keeping.callers i ++ note.nobody i) ∙ append-nil (p.caller ∷ []));
        is_pass = subst (IsPass (book_view b)) (sym heeded_view) heeded_pass.0;
        live = subst (λ (x : PassView). ListsLive x p.live.items) (sym heeded_view) heeded_pass.1;
      };
      aside = merged.aside;
    },
    subst (Heeds (pass_view p) (note_view n)) (sym heeded_view) record {
      mine = merged.looks.mine.begins;
      theirs = merged.looks.heard.begins;
      own = same_own;
      rest = λ i. record (pass_view p) { seen = seat.me.0.mine.seen; last = greater i };
    },
  )
