-- What is known of a list stays known as the list grows.
use Rattle.std.proofs.Common.{◌≡◌, ◌≢◌, ◌==◌, ℕ, Bool, true, false, cond, List, [], ◌∷◌, ◌++◌, append-nil, append_assoc, refl, sym, ap, ◌∙◌, subst, arith}
use Rattle.std.specs.Prelude.{All, Contains}
use Rattle.std.proofs.lemmas.List.Elements.{All-weaker}
use Rattle.fleet_base.specs.declared.request.Entry.{Entry}
use Rattle.fleet_base.specs.History.{caller_of}
use Rattle.book_trait.specs.Passes.{entries_of}
use Rattle.book_trait.specs.Calls.{GoesOn}
use Rattle.book_trait.proofs.EndedLemmas.{nothing_own}
use Rattle.turn_book.specs.declared.rule.Known.{Known}
use Rattle.turn_book.specs.Turns.{IsKnown, nothing_known}

one_more : (x : Entry) (b : Bool) (zs xs ys : List Entry) → zs ≡ xs ++ ys → cond b (x ∷ zs) zs ≡ cond b (x ∷ xs) xs ++ ys
one_more x true zs xs ys e = ap (λ (l : List Entry). x ∷ l) e
one_more x false zs xs ys e = e

pub entries-append : (c : ℕ) (xs ys : List Entry) → entries_of c (xs ++ ys) ≡ entries_of c xs ++ entries_of c ys
entries-append c [] ys = refl
entries-append c (x ∷ xs) ys = one_more x (caller_of x == c) (entries_of c (xs ++ ys)) (entries_of c xs) (entries_of c ys) (entries-append c xs ys)

pub same_list : (list : List Entry) → GoesOn list list
same_list list = record { more = []; is = sym (append-nil list) }

pub goes_further : (xs ys : List Entry) (more : List Entry) → GoesOn xs ys → GoesOn xs (ys ++ more)
goes_further xs ys more on = record { more = on.more ++ more; is = ap (λ l. l ++ more) on.is ∙ append_assoc xs on.more more }

pub others_entries : (c d : ℕ) (more : List Entry) → All (λ e. caller_of e ≡ d) more → d ≢ c → entries_of c more ≡ []
others_entries c d more by ne = nothing_own c more (All-weaker (λ e. caller_of e ≡ d) (λ e. caller_of e ≢ c) (λ e is same. ne (sym is ∙ same)) more by)

pub known_more : (x : Known) (list more : List Entry) (d : ℕ) → All (λ e. caller_of e ≡ d) more → ¬ (Contains x.callers d) → IsKnown x list → IsKnown x (list ++ more)
known_more x list more d by other h = record {
  begins = goes_further x.seen list more h.begins;
  own = λ c there. entries-append c list more ∙ (ap (λ l. entries_of c list ++ l) (others_entries c d more by (λ e. other (subst (Contains x.callers) (sym e) there))) ∙ (append-nil (entries_of c list) ∙ h.own c there));
}

pub known_now : (callers : List ℕ) (list : List Entry) → IsKnown record { callers = callers; seen = list } list
known_now callers list = record { begins = same_list list; own = λ c there. refl }

pub known_fewer : (x : Known) (callers : List ℕ) (list : List Entry) → ((c : ℕ) → Contains callers c → Contains x.callers c) → IsKnown x list → IsKnown record { callers = callers; seen = x.seen } list
known_fewer x callers list fewer h = record { begins = h.begins; own = λ c there. h.own c (fewer c there) }

pub none_in_nil : (c : ℕ) → ¬ (Contains [] c)
none_in_nil c (k, low, e) = absurd (omega arith)

pub known_nothing : (list : List Entry) → IsKnown nothing_known list
known_nothing list = record { begins = record { more = list; is = refl }; own = λ c there. absurd (none_in_nil c there) }
