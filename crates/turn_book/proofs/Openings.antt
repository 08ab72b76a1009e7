-- A book as it is opened, and its passes.
use Rattle.std.proofs.Common.{◌⊎◌, inl, inr, ⊎_elim, zero, None, length-append, get_or, ◌≡◌, ℕ, suc, ◌+◌, ◌-◌, ◌<◌, ◌≤◌, List, [], ◌∷◌, ◌++◌, length, drop, refl, sym, ap, ◌∙◌, subst, arith, Some}
use Rattle.std.specs.Prelude.{slice_get, All}
use Rattle.book_trait.specs.Passes.{fresh}
use Rattle.turn_book.specs.declared.pass.TurnPass.{TurnPass}
use Rattle.turn_book.specs.Passes.{pass_view, IsPassOf, AreOpened}
use Rattle.std.specs.List.{range_with_len}
use Rattle.std.proofs.lemmas.List.Elements.{All-nil}
use Rattle.atomic_table.specs.Table.{opening}
use Rattle.atomic_table.specs.declared.shared.Seat.{Seat}
use Rattle.fleet_base.specs.declared.request.RouteId.{RouteId}
use Rattle.fleet_base.specs.declared.request.Live.{Live}
use Rattle.fleet_base.proofs.Reorder.{Reorder-refl, Reorder-is_permutation}
use Rattle.plain_book.specs.BookState.{BookState}
use Rattle.turn_book.specs.declared.rule.Layout.{Layout}
use Rattle.turn_book.specs.declared.rule.View.{View}
use Rattle.turn_book.specs.declared.steps.TurnBook.{TurnBook}
use Rattle.turn_book.specs.Turns.{Slot, IsAfter, IsKept, first_view, less_one}
use Rattle.turn_book.specs.Seats.{layout_of, IsAside}
use Rattle.turn_book.specs.Opening.{HasPlain, IsOpening, IsFresh}
use Rattle.turn_book.proofs.Keeping.{opens}

nothing_yet : (k : Layout) → IsAfter k [] record { grid = k.grid; horizon = k.horizon; routes = []; stamp = 0; era = 0 }
nothing_yet k = record {
  grid = refl;
  horizon = refl;
  leads = record { routes = Reorder-is_permutation (Reorder-refl []); era = refl; stamps = All-nil (λ (id : RouteId). id.stamp ≤ 0); live_stamps = All-nil (λ (r : Live). r.id.stamp ≤ 0) };
  counted = refl;
  in_range = record { stamp = omega arith; era = omega arith };
}

pub opened : (k : Layout) (b : BookState) (slots : List Slot) → HasPlain k b → slots ≡ Some b ∷ [] → IsKept k (opening (0 ∷ []) slots (first_view k))
opened k b slots plain is =
    subst (λ (xs : List Slot). IsKept k (opening (0 ∷ []) xs (first_view k))) (sym is) ([], opens k b (subst (IsAfter k []) (sym plain) (nothing_yet k)))

-- the next caller's number is the first of those left
one_left : (next callers : ℕ) → next + 1 ≤ callers → range_with_len next (callers - next) ≡ next ∷ range_with_len (next + 1) (callers - (next + 1))
one_left next callers le = ap (range_with_len next) (let e : callers - next ≡ suc (callers - (next + 1)) = omega arith in e)

pub one_cut : (b : TurnBook) (old new : Seat Slot View) (caller : ℕ) → IsOpening b old caller → caller + 1 ≤ (layout_of b).callers → IsAside b new → new.me.0 ≡ less_one old.me.0 → IsOpening b new (caller + 1)
one_cut b old new caller h more aside view = record {
  aside = aside;
  callers = ap (λ (v : View). v.mine.callers) view ∙ ap (drop 1) (h.callers ∙ one_left caller (layout_of b).callers more);
  nothing = (ap (λ (v : View). v.mine.seen) view ∙ h.nothing.0, ap (λ (v : View). v.again) view ∙ h.nothing.1, ap (λ (v : View). v.full) view ∙ h.nothing.2);
}

-- the passes of the callers before this one, and the seat of the others
pub record ArePassing (b : TurnBook) (seat : Seat Slot View) (passes : List TurnPass) (next : ℕ) : Type 0 where
  pub seat_is : IsOpening b seat next
  pub count : length passes ≡ next
  pub opened_are : AreOpened b passes

pub no_pass : (b : TurnBook) (seat : Seat Slot View) (passes : List TurnPass) → IsOpening b seat 0 → passes ≡ [] → ArePassing b seat passes 0
no_pass b seat passes h e = subst (λ (ps : List TurnPass). ArePassing b seat ps 0) (sym e) record { seat_is = h; count = refl; opened_are = record { each = λ k p at. none_at k p at } }
  where
    none_at : (k : ℕ) (p : TurnPass) → slice_get [] k ≡ Some p → IsPassOf b p × (pass_view p ≡ fresh k)
    none_at k p at = absurd (cc)

at_push : (ps : List TurnPass) (p q : TurnPass) (k : ℕ) → slice_get (ps ++ p ∷ []) k ≡ Some q → (slice_get ps k ≡ Some q) ⊎ ((k ≡ length ps) × (p ≡ q))
at_push [] p q zero e = inr (refl, let same : Some p ≡ Some q = e in cc)
at_push [] p q (suc k) e = absurd (let none : None ≡ Some q = e in cc)
at_push (x ∷ xs) p q zero e = inl e
at_push (x ∷ xs) p q (suc k) e = ⊎_elim (λ (h : slice_get xs k ≡ Some q). inl h) (λ (h : (k ≡ length xs) × (p ≡ q)). let n = h.0 in inr (omega arith, h.1)) (at_push xs p q k e)

pub one_pass : (b : TurnBook) (seat seat' : Seat Slot View) (passes passes' : List TurnPass) (next : ℕ) (p : TurnPass) → ArePassing b seat passes next → IsOpening b seat' (next + 1) → IsFresh b next p → passes' ≡ passes ++ p ∷ [] → ArePassing b seat' passes' (next + 1)
one_pass b seat seat' passes passes' next p h opening one e = subst (λ (ps : List TurnPass). ArePassing b seat' ps (next + 1)) (sym e) record {
  seat_is = opening;
  count = (let n = h.count in let l = length-append passes (p ∷ []) in omega arith);
  opened_are = record {
    each = λ k q at. ⊎_elim (λ (there : slice_get passes k ≡ Some q). h.opened_are.each k q there)
        (λ (last : (k ≡ length passes) × (p ≡ q)). subst (λ (x : ℕ × TurnPass). IsPassOf b x.1 × (pass_view x.1 ≡ fresh x.0)) (λ i. (sym (last.0 ∙ h.count) i, last.1 i)) (one.pass, one.view)) (at_push passes p q k at);
  };
}

-- each is a pass of the book
pub all_opened : (b : TurnBook) (passes : List TurnPass) → AreOpened b passes → All (IsPassOf b) passes
all_opened b passes h = λ k d low. (h.each k (get_or passes k d) (at_get passes k d low)).0
  where
    at_get : (xs : List TurnPass) (k : ℕ) (d : TurnPass) → k < length xs → slice_get xs k ≡ Some (get_or xs k d)
    at_get [] k d low = absurd (omega arith)
    at_get (x ∷ xs) zero d low = refl
    at_get (x ∷ xs) (suc k) d low = at_get xs k d (omega arith)
