-- A record that ends before, or begins after, each record of a list shares no time with them.
use Rattle.std.proofs.Common.{arith, sym, ap, ◌∙◌, refl, eq-eqb}
use Rattle.std.proofs.lemmas.Bool.{ltb-true, ltb-false, and_parts, false≢true}
use Rattle.std.specs.Prelude.{◌≡◌, ◌≢◌, ℕ, ◌<◌, ◌≤◌, ◌==◌, ◌&&◌, ◌||◌, not, nat_lt, Bool, true, false, List, [], ◌∷◌}
use Rattle.std.specs.List.{list_all}
use Rattle.fleet_base.specs.declared.request.Record.{Record}
use Rattle.fleet_base.specs.declared.request.TheConstants.{FOREVER}
use Rattle.calendars.specs.Records.{holds_time, covers, IsApart}
use Rattle.calendars.proofs.RecordLemmas.{held_not_before, held_not_after, covers_past}
use Rattle.worked_rows.specs.Apart.{is_over_before}

over_parts : (r s : Record) → is_over_before r s ≡ true → (r.to < s.from) × (r.to ≢ FOREVER)
over_parts r s e =
    let parts = and_parts (nat_lt r.to s.from) (not (r.to == FOREVER)) e in
    (ltb-true r.to s.from parts.0, λ never. false≢true (sym (ap not (eq-eqb r.to FOREVER never)) ∙ parts.1))

over : (a r : Record) (t : ℕ) → holds_time t a ≡ true → r.to < a.from → r.to ≢ FOREVER → holds_time t r ≡ false
over a r t held before ends = go (nat_lt t a.from) refl
  where
    go : (b : Bool) → nat_lt t a.from ≡ b → holds_time t r ≡ false
    go true e = absurd (false≢true (sym (held_not_before a t (ltb-true t a.from e)) ∙ held))
    go false e = let since : a.from ≤ t = ltb-false t a.from e in held_not_after r t (omega arith) ends

coming : (a r : Record) (t : ℕ) → holds_time t a ≡ true → a.to < r.from → a.to ≢ FOREVER → holds_time t r ≡ false
coming a r t held before ends = go (nat_lt t r.from) refl
  where
    go : (b : Bool) → nat_lt t r.from ≡ b → holds_time t r ≡ false
    go true e = held_not_before r t (ltb-true t r.from e)
    go false e =
        let since : r.from ≤ t = ltb-false t r.from e in
        let past : holds_time t a ≡ false = held_not_after a t (omega arith) ends in
        absurd (false≢true (sym past ∙ held))

not_held : (a r : Record) (t : ℕ) → holds_time t a ≡ true → (is_over_before r a || is_over_before a r) ≡ true → holds_time t r ≡ false
not_held a r t held apart = go (is_over_before r a) refl
  where
    go : (b : Bool) → is_over_before r a ≡ b → holds_time t r ≡ false
    go true e = let parts = over_parts r a e in over a r t held parts.0 parts.1
    go false e =
        let later : is_over_before a r ≡ true = sym (ap (λ (b : Bool). b || is_over_before a r) e) ∙ apart in
        let parts = over_parts a r later in coming a r t held parts.0 parts.1

pub apart_from_each : (a : Record) (rs : List Record) → list_all (λ r. is_over_before r a || is_over_before a r) rs ≡ true → IsApart a rs
apart_from_each a [] e t held = refl
apart_from_each a (r ∷ rs) e t held =
    let parts = and_parts (is_over_before r a || is_over_before a r) (list_all (λ s. is_over_before s a || is_over_before a s) rs) e in
    covers_past r rs t (not_held a r t held parts.0) ∙ apart_from_each a rs parts.1 t held
