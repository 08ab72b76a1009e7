use Rattle.std.proofs.Common.{◌≡◌, ℕ, List, ◌∷◌, Some, arith, ◌∙◌, sym, subst, refl}
use Rattle.atomic_table.specs.Table.{Me, rest}
use Rattle.plain_book.specs.BookState.{BookState}
use Rattle.turn_book.specs.declared.rule.View.{View}
use Rattle.turn_book.specs.Turns.{Slot}
use Rattle.turn_book.proofs.Keeping.{allows_take}
use Rattle.turn_book.proofs.steps.TurnBook.take.Goals as goal

pub compare_exchange-found-requires : goal.compare_exchange-found-requires
compare_exchange-found-requires c =
    let w = c.args.self.now.words in
    let a = c.requires.aside in (a.seat_is.table, omega arith, allows_take _ _ _ _ _ a.seat_is.layout a.without c.requires.caller.0 c.requires.caller.1)

slot_in : (m : Me Slot View) (w : View) (b : BookState) (cs : List (ℕ × Slot)) → m ≡ (w, (0, Some b) ∷ cs) → m.1 ≡ (0, Some b) ∷ rest m.1
slot_in m w b cs e = subst (λ (z : Me Slot View). z.1 ≡ (0, Some b) ∷ rest z.1) (sym e) refl

pub exchange-requires : goal.exchange-requires
exchange-requires c =
    let h = c.compare_exchange-found.ensures.2.hit c.if-found-ne0.false in
    (c.compare_exchange-found.ensures.0 ∙ c.requires.aside.seat_is.table, (Some h.0, slot_in _ _ _ _ h.3))
