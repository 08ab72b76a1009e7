-- Lists that have the same entries caller by caller, and what stands in them.
use Rattle.std.proofs.Common.{◌≡◌, ◌≢◌, ◌==◌, ℕ, ◌⊎◌, inl, inr, Bool, true, false, cond, List, [], ◌∷◌, ◌++◌, refl, sym, ap, ◌∙◌, subst, eqb-true, eq-eqb, ne_eqb, true≢false, append_assoc}
use Rattle.std.specs.Prelude.{All, IsPermutation}
use Rattle.std.proofs.lemmas.List.Elements.{filter-append, All-nil, All-cons, All-head, All-tail}
use Rattle.fleet_base.specs.declared.request.Entry.{Entry}
use Rattle.fleet_base.specs.History.{caller_of}
use Rattle.fleet_base.proofs.Reorder.{Reorder, Insert, here, there, none, keep, turn, both, Reorder-refl, Reorder-is_permutation}
use Rattle.book_trait.specs.Passes.{entries_of}
use Rattle.planner_pool.specs.PoolRun.{StandsIn}

abbrev pub SameByCaller : List Entry → List Entry → Type 0
SameByCaller xs ys = (c : ℕ) → entries_of c xs ≡ entries_of c ys

bool_cases : (b : Bool) → (b ≡ true) ⊎ (b ≡ false)
bool_cases true = inl refl
bool_cases false = inr refl

of_head : (x : Entry) (xs : List Entry) (c : ℕ) (b : Bool) → (caller_of x == c) ≡ b → entries_of c (x ∷ xs) ≡ cond b (x ∷ entries_of c xs) (entries_of c xs)
of_head x xs c b e = ap (λ b. cond b (x ∷ entries_of c xs) (entries_of c xs)) e

itself : (x : Entry) → (caller_of x == caller_of x) ≡ true
itself x = eq-eqb (caller_of x) (caller_of x) refl

same_head : {X : Type 0} (x y : X) (xs ys : List X) → x ∷ xs ≡ y ∷ ys → (x ≡ y) × (xs ≡ ys)
same_head x y xs ys h = (cc, cc)

-- where the first entry of its caller in ys is x, ys is a list zs with x put in, and the others are the same
pub found : (x : Entry) (ys rest : List Entry) → entries_of (caller_of x) ys ≡ x ∷ rest
    → (zs : List Entry) × Insert x zs ys × (entries_of (caller_of x) zs ≡ rest) × ((d : ℕ) → d ≢ caller_of x → entries_of d zs ≡ entries_of d ys)
found x [] rest h = absurd (cc)
found x (y ∷ ys) rest h = elim (bool_cases (caller_of y == caller_of x)) [
  | inl same ↦
      let eq = same_head y x (entries_of (caller_of x) ys) rest (sym (of_head y ys (caller_of x) true same) ∙ h) in (
        ys,
        subst (λ z. Insert z ys (y ∷ ys)) eq.0 here,
        eq.1,
        λ d other. sym (of_head y ys d false (ne_eqb (caller_of y) d (λ e. other (sym e ∙ eqb-true (caller_of y) (caller_of x) same)))),
      )
  | inr apart ↦
      let t = found x ys rest (sym (of_head y ys (caller_of x) false apart) ∙ h) in (
        y ∷ t.0,
        there t.1,
        of_head y t.0 (caller_of x) false apart ∙ t.2,
        λ d other. ap (λ l. cond (caller_of y == d) (y ∷ l) l) (t.3 d other),
      )
]

pub put_in : {X : Type 0} {x : X} {zs ys : List X} → Insert x zs ys → Reorder (x ∷ zs) ys
put_in here = Reorder-refl _
put_in (there i) = both turn (keep (put_in i))

pub same_reorder : (xs ys : List Entry) → SameByCaller xs ys → Reorder xs ys
same_reorder [] [] h = none
same_reorder [] (y ∷ ys) h = let e = h (caller_of y) ∙ of_head y ys (caller_of y) true (itself y) in absurd (cc)
same_reorder (x ∷ xs) ys h =
    let t = found x ys (entries_of (caller_of x) xs) (sym (h (caller_of x)) ∙ of_head x xs (caller_of x) true (itself x)) in
    both (keep (same_reorder xs t.0 (λ d. elim (bool_cases (caller_of x == d)) [
      | inl same ↦ subst (λ k. entries_of k xs ≡ entries_of k t.0) (eqb-true (caller_of x) d same) (sym t.2)
      | inr apart ↦ sym (of_head x xs d false apart) ∙ (h d ∙ sym (t.3 d (λ e. true≢false (sym (eq-eqb (caller_of x) d (sym e)) ∙ apart))))
    ]))) (put_in t.1)

pub same_permutation : (xs ys : List Entry) → SameByCaller xs ys → IsPermutation xs ys
same_permutation xs ys h = Reorder-is_permutation (same_reorder xs ys h)

-- what stands among a caller's entries stands in the list
pub stands_among : (c : ℕ) (xs ys : List Entry) → StandsIn xs (entries_of c ys) → StandsIn xs ys
stands_among c [] ys h = tt
stands_among c (x ∷ xs) [] h = h
stands_among c (x ∷ xs) (y ∷ ys) h = by_test (caller_of y == c) (stands_among c xs ys) (stands_among c (x ∷ xs) ys) h
  where
    by_test : (b : Bool) → (StandsIn xs (entries_of c ys) → StandsIn xs ys) → (StandsIn (x ∷ xs) (entries_of c ys) → StandsIn (x ∷ xs) ys) → StandsIn (x ∷ xs) (cond b (y ∷ entries_of c ys) (entries_of c ys)) → StandsIn (x ∷ xs) (y ∷ ys)
    by_test true less same (inl k) = inl (k.0, less k.1)
    by_test true less same (inr k) = inr (same k)
    by_test false less same k = inr (same k)

pub stands_before : (xs front ys : List Entry) → StandsIn xs ys → StandsIn xs (front ++ ys)
stands_before [] front ys h = tt
stands_before (x ∷ xs) [] ys h = h
stands_before (x ∷ xs) (a ∷ front) ys h = inr (stands_before (x ∷ xs) front ys h)

pub stands_first : (xs ys : List Entry) → StandsIn xs (xs ++ ys)
stands_first [] ys = tt
stands_first (x ∷ xs) ys = inl (refl, stands_first xs ys)

-- a run of one caller's entries in a list stands in each list that has the same entries of the caller
pub stands_in_other : (c : ℕ) (before part behind list : List Entry) → entries_of c part ≡ part → entries_of c (before ++ part ++ behind) ≡ entries_of c list → StandsIn part list
stands_in_other c before part behind list mine same =
    let by = λ (e : Entry). caller_of e == c in
    let cut : entries_of c (before ++ part ++ behind) ≡ entries_of c before ++ part ++ entries_of c behind = filter-append by (before ++ part) behind ∙ ap (λ l. l ++ entries_of c behind) (filter-append by before part ∙ ap (λ l. entries_of c before ++ l) mine) in
    stands_among c part list (subst (StandsIn part) (sym (append_assoc (entries_of c before) part (entries_of c behind)) ∙ (sym cut ∙ same)) (stands_before part (entries_of c before) (part ++ entries_of c behind) (stands_first part (entries_of c behind))))

-- what holds of each entry of the list holds of each one that stands in it
pub stands_all : (P : Entry → Type 0) (xs ys : List Entry) → StandsIn xs ys → All P ys → All P xs
stands_all P [] ys h each = All-nil P
stands_all P (x ∷ xs) [] h each = absurd h
stands_all P (x ∷ xs) (y ∷ ys) (inl h) each = All-cons P x xs (subst P (sym h.0) (All-head P y ys each)) (stands_all P xs ys h.1 (All-tail P y ys each))
stands_all P (x ∷ xs) (y ∷ ys) (inr h) each = stands_all P (x ∷ xs) ys h (All-tail P y ys each)
