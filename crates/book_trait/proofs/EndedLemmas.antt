-- Onlookers of a history that is over: each has seen a beginning of it, in which nothing is its own.
use Rattle.std.proofs.Common.{◌≡◌, ◌≢◌, ℕ, zero, suc, ◌+◌, ◌<◌, ◌≤◌, ◌==◌, Bool, false, cond, List, [], ◌∷◌, ◌++◌, length, take, append-nil, refl, sym, ap, ◌∙◌, subst, max, arith, ne_eqb}
use Rattle.std.specs.Prelude.{All}
use Rattle.std.proofs.lemmas.List.Elements.{All-nil, All-head, All-tail, All-take, All-contains}
use Rattle.fleet_base.specs.declared.request.RouteId.{RouteId}
use Rattle.fleet_base.specs.declared.request.Entry.{Entry}
use Rattle.fleet_base.specs.History.{past_of, caller_of, IsLive, book_after}
use Rattle.book_trait.specs.Passes.{BookView, PassView, JoinedView, entries_of, HasLive, IsShared, IsStampIn, IsPass, IsNote, IsJoined}
use Rattle.book_trait.specs.Calls.{GoesOn, Refuses, Heeds, Joins}
use Rattle.book_trait.specs.Ended.{IsSilent}
use Rattle.book_trait.proofs.SharedLemmas.{shared_begin, stamp_goes_on, stamp_max}

pub begin : (list : List Entry) (m n : ℕ) → m ≤ n → GoesOn (take m list) (take n list)
begin list zero n le = record { more = take n list; is = refl }
begin [] (suc m) zero le = record { more = []; is = refl }
begin [] (suc m) (suc n) le = record { more = []; is = refl }
begin (x ∷ list) (suc m) zero le = absurd (omega arith)
begin (x ∷ list) (suc m) (suc n) le = let rest : GoesOn (take m list) (take n list) = begin list m n (omega arith) in record { more = rest.more; is = ap (λ (l : List Entry). x ∷ l) rest.is }

whole : (list : List Entry) → take (length list) list ≡ list
whole [] = refl
whole (x ∷ list) = ap (λ (l : List Entry). x ∷ l) (whole list)

pub begins : (list : List Entry) (n : ℕ) → n ≤ length list → GoesOn (take n list) list
begins list n le = subst (GoesOn (take n list)) (whole list) (begin list n (length list) le)

pub nothing_own : (c : ℕ) (list : List Entry) → IsSilent c list → entries_of c list ≡ []
nothing_own c [] h = refl
nothing_own c (e ∷ es) h =
    let other : (caller_of e == c) ≡ false = ne_eqb (caller_of e) c (All-head (λ (x : Entry). caller_of x ≢ c) e es h) in
    ap (λ (b : Bool). cond b (e ∷ entries_of c es) (entries_of c es)) other ∙ nothing_own c es (All-tail (λ (x : Entry). caller_of x ≢ c) e es h)

pub nothing_own_yet : (c n : ℕ) (list : List Entry) → IsSilent c list → entries_of c (take n list) ≡ []
nothing_own_yet c n list h = nothing_own c (take n list) (All-take (λ (x : Entry). caller_of x ≢ c) n list h)

-- the pass of an onlooker that has seen so much of these entries
abbrev pub looking : List Entry → ℕ → ℕ → ℕ → ℕ → ℕ → PassView
looking list c n last again told = record { caller = c; seen = take n list; last = last; again = again; full = 0; told = told }

module _ (b : BookView) (list : List Entry) (shared : IsShared b list) where
  shared_yet : (n : ℕ) → n ≤ length list → IsShared b (take n list)
  shared_yet n le = shared_begin b (take n list) list (begins list n le) shared

  pub is_pass : (mine : List Entry) (c n last again told : ℕ) → mine ≡ list → n ≤ length list → c < b.callers → IsSilent c list → IsStampIn last (take n list) → IsPass b (looking mine c n last again told)
  is_pass mine c n last again told e le low silent there = subst (λ (l : List Entry). IsPass b (looking l c n last again told)) (sym e) record {
    caller = low;
    list = shared_yet n le;
    last = there;
    over = subst (λ (es : List Entry). All (λ (id : RouteId). id.stamp ≤ last) (past_of es).replies) (sym (nothing_own_yet c n list silent)) (All-nil (λ (id : RouteId). id.stamp ≤ last));
  }

  pub is_note : (mine : List Entry) (n last : ℕ) → mine ≡ list → n ≤ length list → IsStampIn last (take n list) → IsNote b record { seen = take n mine; last = last }
  is_note mine n last e le there = subst (λ (l : List Entry). IsNote b record { seen = take n l; last = last }) (sym e) record { list = shared_yet n le; last = there }

  pub is_joined : (mine : List Entry) (cs : List ℕ) (n again : ℕ) → mine ≡ list → n ≤ length list → All (λ c. c < b.callers) cs → IsJoined b record { callers = cs; seen = take n mine; again = again; full = 0 }
  is_joined mine cs n again e le low = subst (λ (l : List Entry). IsJoined b record { callers = cs; seen = take n l; again = again; full = 0 }) (sym e) record { callers = low; list = shared_yet n le }

-- a longer beginning has the stamps of a shorter one
pub stamp_yet : (list : List Entry) (stamp m n : ℕ) → m ≤ n → IsStampIn stamp (take m list) → IsStampIn stamp (take n list)
stamp_yet list stamp m n le h = stamp_goes_on stamp (take m list) (take n list) (begin list m n le) h

pub greater_stamp : (list : List Entry) (a b m n s k : ℕ) → s ≡ max a b → k ≡ max m n → IsStampIn a (take m list) → IsStampIn b (take n list) → IsStampIn s (take k list)
greater_stamp list a b m n s k es ek ha hb =
    subst (λ (x : ℕ). IsStampIn x (take k list)) (sym es) (stamp_max a b (take k list) (stamp_yet list a m k (omega arith) ha) (stamp_yet list b n k (omega arith) hb))

-- a plan is refused
pub refused : (list mine : List Entry) (c n m last again told : ℕ) → mine ≡ list → n ≤ m → IsSilent c list → Refuses (looking mine c n last again told) 1 0 (looking mine c m last (again + 1) told)
refused list mine c n m last again told e le silent = subst (λ (l : List Entry). Refuses (looking l c n last again told) 1 0 (looking l c m last (again + 1) told)) (sym e) record {
  goes_on = begin list n m le;
  own = nothing_own_yet c m list silent ∙ sym (nothing_own_yet c n list silent);
  rest = refl;
}

-- nothing is changed
pub refused_as_it_was : (p : PassView) → Refuses p 0 0 p
refused_as_it_was p =
    let again : p.again ≡ p.again + 0 = omega arith in
    let full : p.full ≡ p.full + 0 = omega arith in
    record { goes_on = record { more = []; is = sym (append-nil p.seen) }; own = refl; rest = λ i. record p { again = again i; full = full i } }

pub nothing_live : (list mine : List Entry) (c n last again told stamp : ℕ) → mine ≡ list → IsSilent c list → ¬ (HasLive (looking mine c n last again told) stamp)
nothing_live list mine c n last again told stamp e silent h =
    let none_own : entries_of c (take n mine) ≡ [] = ap (λ (l : List Entry). entries_of c (take n l)) e ∙ nothing_own_yet c n list silent in
    let live : IsLive record { stamp = stamp; caller = c } (book_after []) = subst (λ (es : List Entry). IsLive record { stamp = stamp; caller = c } (book_after es)) none_own h in absurd (cc)

pub heeded : (list mine theirs : List Entry) (c n m k last other s again told : ℕ) → mine ≡ list → theirs ≡ list → k ≡ max n m → s ≡ max last other → IsSilent c list
    → Heeds (looking mine c n last again told) record { seen = take m theirs; last = other } (looking mine c k s again told)
heeded list mine theirs c n m k last other s again told e f ek es silent =
    subst (λ (l : List Entry). Heeds (looking l c n last again told) record { seen = take m theirs; last = other } (looking l c k s again told)) (sym e)
    (subst (λ (l : List Entry). Heeds (looking list c n last again told) record { seen = take m l; last = other } (looking list c k s again told)) (sym f) record {
      mine = begin list n k (omega arith);
      theirs = begin list m k (omega arith);
      own = nothing_own_yet c k list silent ∙ sym (nothing_own_yet c n list silent);
      rest = λ i. record { caller = c; seen = take k list; last = es i; again = again; full = 0; told = told };
    })

abbrev pub ended : List Entry → List ℕ → ℕ → ℕ → JoinedView
ended list cs n again = record { callers = cs; seen = take n list; again = again; full = 0 }

pub joins : (list mine theirs : List Entry) (xs ys zs : List ℕ) (n m k a b c : ℕ) → mine ≡ list → theirs ≡ list → k ≡ max n m → zs ≡ xs ++ ys → c ≡ a + b
    → All (λ x. IsSilent x list) xs → All (λ x. IsSilent x list) ys → Joins (ended mine xs n a) (ended theirs ys m b) (ended mine zs k c)
joins list mine theirs xs ys zs n m k a b c e f ek ezs ec hs hb =
    subst (λ (l : List Entry). Joins (ended l xs n a) (ended theirs ys m b) (ended l zs k c)) (sym e)
    (subst (λ (l : List Entry). Joins (ended list xs n a) (ended l ys m b) (ended list zs k c)) (sym f) record {
      first = begin list n k (omega arith);
      second = begin list m k (omega arith);
      first_own = λ x there. let silent : IsSilent x list = All-contains (λ y. IsSilent y list) xs x hs there in nothing_own_yet x k list silent ∙ sym (nothing_own_yet x n list silent);
      second_own = λ x there. let silent : IsSilent x list = All-contains (λ y. IsSilent y list) ys x hb there in nothing_own_yet x k list silent ∙ sym (nothing_own_yet x m list silent);
      counts = λ i. record { callers = ezs i; seen = take k list; again = ec i; full = 0 };
    })
