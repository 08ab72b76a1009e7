-- Parts of a run, put in the order of their lanes.
use Rattle.std.proofs.Common.{◌≡◌, ◌≢◌, ℕ, zero, suc, ◌+◌, ◌≤◌, ◌==◌, ◌⊎◌, inl, inr, Bool, true, false, true≢false, cond, List, [], ◌∷◌, ◌++◌, length, map, Some, refl, sym, ap, ap₂, ◌∙◌, subst, arith, append_assoc, eq-eqb, eqb-true}
use Rattle.std.specs.Prelude.{slice_get, nat_le, nat_lt, IsPermutation}
use Rattle.std.specs.List.{flat_map, range_with_len}
use Rattle.std.proofs.lemmas.Bool.{lt-ltb, le-ltb}
use Rattle.std.proofs.lemmas.List.Sorted.{IsPermutation-refl, IsPermutation-trans, IsPermutation-append_left, IsPermutation-append_right, IsPermutation-append_comm}
use Rattle.fleet_base.proofs.WalkLemmas.{nat_cases}
use Rattle.fleet_base.proofs.Reorder.{Reorder, Insert, here, there, none, keep, turn, both, Reorder-refl, Reorder-sym}
use Rattle.order_text.specs.declared.lane.Lane.{Lane}
use Rattle.ticket_line.specs.Numbers.{times, EachOnce}
use Rattle.planner_pool.specs.Runs.{rest_of, lanes_left}
use Rattle.planner_pool.specs.Parts.{Part, left_of}
use Rattle.planner_pool.proofs.CrewLemmas.{callers_append}
use Rattle.planner_pool.proofs.WorkLemmas.{map-push}
use Rattle.planner_pool.proofs.StandLemmas.{put_in}

-- the places of parts
abbrev pub places : List Part → List ℕ
places parts = map (λ (p : Part). p.lane) parts

-- ---- one part taken out

bool_cases : (b : Bool) → (b ≡ true) ⊎ (b ≡ false)
bool_cases true = inl refl
bool_cases false = inr refl

found : (m : ℕ) (ps : List Part) → 1 ≤ times m (places ps) → (p : Part) × (rest : List Part) × Insert p rest ps × (p.lane ≡ m)
found m [] h = absurd (omega arith)
found m (p ∷ ps) h = elim (bool_cases (p.lane == m)) [
  | inl same ↦ (p, ps, here, eqb-true p.lane m same)
  | inr apart ↦
      let less : 1 ≤ 0 + times m (places ps) = subst (λ (b : Bool). 1 ≤ cond b 1 0 + times m (places ps)) apart h in
      let t = found m ps (omega arith) in
      (t.0, p ∷ t.1, there t.2, t.3)
]

times_put : (x : ℕ) {p : Part} {rest ps : List Part} → Insert p rest ps → times x (places ps) ≡ cond (p.lane == x) 1 0 + times x (places rest)
times_put x here = refl
times_put x (there {y} i) = omega (arith, times_put x i)

bound_same : (x m : ℕ) → x ≢ m → nat_lt x (suc m) ≡ nat_lt x m
bound_same x m apart = elim (nat_cases x m) [
  | inl less ↦ lt-ltb x (suc m) (omega arith) ∙ sym (lt-ltb x m less)
  | inr over ↦ le-ltb x (suc m) (omega arith) ∙ sym (le-ltb x m over)
]

once_less : (m : ℕ) (p : Part) (rest ps : List Part) → p.lane ≡ m → Insert p rest ps → EachOnce (suc m) (places ps) → EachOnce m (places rest)
once_less m p rest ps at i once x =
    let all : cond (p.lane == x) 1 0 + times x (places rest) ≡ cond (nat_lt x (suc m)) 1 0 = sym (times_put x i) ∙ once x in
    elim (bool_cases (p.lane == x)) [
      | inl same ↦
          let is : p.lane ≡ x = eqb-true p.lane x same in
          let one : 1 + times x (places rest) ≡ cond (nat_lt x (suc m)) 1 0 = subst (λ (b : Bool). cond b 1 0 + times x (places rest) ≡ cond (nat_lt x (suc m)) 1 0) same all in
          let low : nat_lt x (suc m) ≡ true = lt-ltb x (suc m) (omega arith) in
          let high : nat_lt x m ≡ false = le-ltb x m (omega arith) in
          let some : 1 + times x (places rest) ≡ 1 = one ∙ ap (λ (b : Bool). cond b 1 0) low in
          let here_none : times x (places rest) ≡ 0 = omega arith in
          here_none ∙ sym (ap (λ (b : Bool). cond b 1 0) high)
      | inr apart ↦
          let rest_is : 0 + times x (places rest) ≡ cond (nat_lt x (suc m)) 1 0 = subst (λ (b : Bool). cond b 1 0 + times x (places rest) ≡ cond (nat_lt x (suc m)) 1 0) apart all in
          let bounds : nat_lt x (suc m) ≡ nat_lt x m = bound_same x m (λ e. true≢false (sym (eq-eqb p.lane x (at ∙ sym e)) ∙ apart)) in
          let same : times x (places rest) ≡ cond (nat_lt x (suc m)) 1 0 = omega arith in
          same ∙ ap (λ (b : Bool). cond b 1 0) bounds
    ]

no_places : (ps : List Part) → EachOnce 0 (places ps) → ps ≡ []
no_places [] once = refl
no_places (p ∷ ps) once =
    let h : cond (p.lane == p.lane) 1 0 + times p.lane (places ps) ≡ cond (nat_lt p.lane 0) 1 0 = once p.lane in
    let one : 1 + times p.lane (places ps) ≡ cond (nat_lt p.lane 0) 1 0 = subst (λ (b : Bool). cond b 1 0 + times p.lane (places ps) ≡ cond (nat_lt p.lane 0) 1 0) (eq-eqb p.lane p.lane refl) h in
    let off : nat_lt p.lane 0 ≡ false = le-ltb p.lane 0 (omega arith) in
    let over : 1 + times p.lane (places ps) ≡ 0 = one ∙ ap (λ (b : Bool). cond b 1 0) off in
    absurd (omega arith)

-- ---- all parts, in the order of their lanes

to_back : {X : Type 0} (x : X) (xs : List X) → Reorder (x ∷ xs) (xs ++ x ∷ [])
to_back x [] = Reorder-refl (x ∷ [])
to_back x (y ∷ ys) = both turn (keep (to_back x ys))

pub placed : (n : ℕ) (ps : List Part) → EachOnce n (places ps) → (sorted : List Part) × Reorder ps sorted × (places sorted ≡ range_with_len 0 n)
placed zero ps once = ([], subst (λ (l : List Part). Reorder l []) (sym (no_places ps once)) none, refl)
placed (suc m) ps once =
    let low : nat_lt m (suc m) ≡ true = lt-ltb m (suc m) (omega arith) in
    let count : times m (places ps) ≡ 1 = once m ∙ ap (λ (b : Bool). cond b 1 0) low in
    let t = found m ps (omega arith) in
    let r = placed m t.1 (once_less m t.0 t.1 ps t.3 t.2 once) in
    let end : range_with_len 0 (m + 1) ≡ range_with_len 0 m ++ (0 + m) ∷ [] = callers_append m 1 0 in
    let next : suc m ≡ m + 1 = omega arith in
    let last : t.0.lane ≡ 0 + m = omega (arith, t.3) in (
      r.0 ++ t.0 ∷ [],
      both (Reorder-sym (put_in t.2)) (both (keep r.1) (to_back t.0 r.0)),
      map-push (λ (p : Part). p.lane) r.0 t.0 ∙ (ap (λ l. l ++ t.0.lane ∷ []) r.2 ∙ (ap (λ k. range_with_len 0 m ++ k ∷ []) last ∙ (sym end ∙ ap (range_with_len 0) (sym next)))),
    )

-- ---- what is put together from parts

pub flat_reorder : {X Y : Type 0} (f : X → List Y) {xs ys : List X} → Reorder xs ys → IsPermutation (flat_map f xs) (flat_map f ys)
flat_reorder f none = IsPermutation-refl []
flat_reorder f (keep {x} {xs} {ys} r) = IsPermutation-append_right (f x) (flat_map f xs) (flat_map f ys) (flat_reorder f r)
flat_reorder f (turn {x} {y} {xs}) =
    subst (λ l. IsPermutation l (f y ++ (f x ++ flat_map f xs))) (append_assoc (f x) (f y) (flat_map f xs))
    (subst (λ l. IsPermutation ((f x ++ f y) ++ flat_map f xs) l) (append_assoc (f y) (f x) (flat_map f xs))
    (IsPermutation-append_left (flat_map f xs) (f x ++ f y) (f y ++ f x) (IsPermutation-append_comm (f x) (f y))))
flat_reorder f (both {xs} {ys} {zs} r s) = IsPermutation-trans (flat_map f xs) (flat_map f ys) (flat_map f zs) (flat_reorder f r) (flat_reorder f s)

pub get_map : {X Y : Type 0} (f : X → Y) (xs : List X) (k : ℕ) (y : Y) → slice_get (map f xs) k ≡ Some y → (x : X) × (slice_get xs k ≡ Some x) × (f x ≡ y)
get_map f [] k y h = absurd (cc)
get_map f (x ∷ xs) zero y h = (x, refl, cc)
get_map f (x ∷ xs) (suc k) y h = get_map f xs k y h

heads : (x y : ℕ) (xs ys : List ℕ) → x ∷ xs ≡ y ∷ ys → (x ≡ y) × (xs ≡ ys)
heads x y xs ys h = (cc, cc)

pub place_is : (n a : ℕ) (ps : List Part) (k : ℕ) (p : Part) → places ps ≡ range_with_len a n → slice_get ps k ≡ Some p → p.lane ≡ a + k
place_is n a [] k p are at = absurd (cc)
place_is zero a (q ∷ ps) k p are at = absurd (cc)
place_is (suc n) a (q ∷ ps) zero p are at =
    let same : q ≡ p = cc in
    let here_is : q.lane ≡ a = (heads q.lane a (places ps) (range_with_len (a + 1) n) are).0 in
    omega (arith, ap (λ (x : Part). x.lane) same)
place_is (suc n) a (q ∷ ps) (suc k) p are at =
    omega (arith, place_is n (a + 1) ps k p (heads q.lane a (places ps) (range_with_len (a + 1) n) are).1 at)

-- what is left of parts in the order of their lanes is what is left of the lanes
pub left_placed : (all : List Lane) (place : ℕ) (lanes : List Lane) (ps : List Part) → ((k : ℕ) → slice_get all (place + k) ≡ slice_get lanes k) → places ps ≡ range_with_len place (length lanes)
    → flat_map (λ (p : Part). left_of (slice_get all p.lane) p) ps ≡ lanes_left place lanes (map (λ (p : Part). p.answers) ps)
left_placed all place [] [] at are = refl
left_placed all place [] (p ∷ ps) at are = absurd (cc)
left_placed all place (l ∷ ls) [] at are = absurd (cc)
left_placed all place (l ∷ ls) (p ∷ ps) at are =
    let h = heads p.lane place (places ps) (range_with_len (place + 1) (length ls)) are in
    let zero_more : place ≡ place + 0 = omega arith in
    let found_lane : slice_get all p.lane ≡ Some l = ap (slice_get all) (h.0 ∙ zero_more) ∙ at 0 in
    ap₂ ◌++◌
    (ap (λ o. left_of o p) found_lane ∙ ap (λ k. rest_of (nat_le (length l.orders) (length p.answers)) k (l.first + length p.answers)) h.0)
    (left_placed all (place + 1) ls ps (λ k. let more : place + 1 + k ≡ place + suc k = omega arith in ap (slice_get all) more ∙ at (suc k)) h.1)
