-- Each list of entries has a journal, and what stands in a journal is in its order.
use Rattle.std.proofs.Common.{◌≡◌, ℕ, suc, ◌<◌, ◌⊎◌, inl, inr, List, [], ◌∷◌, Option, Some, None, sym, subst, arith}
use Rattle.std.specs.Prelude.{All}
use Rattle.std.proofs.lemmas.List.Elements.{All-nil, All-cons, All-head, All-tail, All-weaker}
use Rattle.std.proofs.lemmas.List.Kept.{AllPairs-cons}
use Rattle.fleet_base.specs.declared.request.RouteId.{RouteId}
use Rattle.fleet_base.specs.declared.request.Entry.{Entry}
use Rattle.fleet_base.specs.History.{reply_of, era_of}
use Rattle.fleet_base.specs.Journal.{ComesFirst, Precedes, IsInOrder, IsJournal}
use Rattle.fleet_base.proofs.Reorder.{Reorder, none, keep, both, Insert, here, there, Reorder-is_permutation}
use Rattle.fleet_base.proofs.SortedJournal.{Precedes-trans}
use Rattle.fleet_base.proofs.WalkLemmas.{nat_cases}
use Rattle.planner_pool.specs.PoolRun.{StandsIn}
use Rattle.planner_pool.proofs.StandLemmas.{put_in, stands_all}

-- ---- of two entries one comes first

-- one number is less, or they are equal
three_ways : (a b : ℕ) → (a < b) ⊎ ((a ≡ b) ⊎ (b < a))
three_ways a b = elim (nat_cases a b) [
  | inl less ↦ inl less
  | inr above ↦ elim (nat_cases b a) [ inl more ↦ inr (inr more) | inr below ↦ inr (inl (omega arith)) ]
]

reply_either : (a b : Option RouteId) → ComesFirst a b ⊎ ComesFirst b a
reply_either (Some a) (Some b) = elim (three_ways a.stamp b.stamp) [
  | inl less ↦ inl (inl less)
  | inr other ↦ elim other [
    | inl same ↦ elim (nat_cases a.caller b.caller) [ inl less ↦ inl (inr (same, omega arith)) | inr above ↦ inr (inr (sym same, above)) ]
    | inr more ↦ inr (inl more)
  ]
]
reply_either (Some a) None = inl tt
reply_either None (Some b) = inr tt
reply_either None None = inl tt

pub precedes_either : (x y : Entry) → Precedes x y ⊎ Precedes y x
precedes_either x y = elim (three_ways (era_of x) (era_of y)) [
  | inl less ↦ inl (inl less)
  | inr other ↦ elim other [
    | inl same ↦ elim (reply_either (reply_of x) (reply_of y)) [ inl first ↦ inl (inr (same, first)) | inr first ↦ inr (inr (sym same, first)) ]
    | inr more ↦ inr (inl more)
  ]
]

-- ---- the journal of a list

first_before : (x : Entry) (xs : List Entry) → IsInOrder (x ∷ xs) → All (Precedes x) xs
first_before x xs pairs k d h = pairs 0 (suc k) d (omega arith) (omega arith)

rest_in_order : (x : Entry) (xs : List Entry) → IsInOrder (x ∷ xs) → IsInOrder xs
rest_in_order x xs pairs i j d h k = pairs (suc i) (suc j) d (omega arith) (omega arith)

none_in_order : IsInOrder []
none_in_order i j d h k = absurd (omega arith)

all_put : (P : Entry → Type 0) (x : Entry) {ys zs : List Entry} → Insert x ys zs → P x → All P ys → All P zs
all_put P x (here {ys}) one rest = All-cons P x ys one rest
all_put P x (there {y} {ys} {zs} i) one rest = All-cons P y zs (All-head P y ys rest) (all_put P x i one (All-tail P y ys rest))

-- one entry more, put in before the first that it precedes
placed : (x : Entry) (ys : List Entry) → IsInOrder ys → (zs : List Entry) × Insert x ys zs × IsInOrder zs
placed x [] order = (x ∷ [], here, AllPairs-cons Precedes x [] (All-nil (Precedes x)) none_in_order)
placed x (y ∷ ys) order = elim (precedes_either x y) [
  | inl first ↦
      let later : All (Precedes x) ys = All-weaker (Precedes y) (Precedes x) (λ z next. Precedes-trans x y z first next) ys (first_before y ys order) in
      (x ∷ y ∷ ys, here, AllPairs-cons Precedes x (y ∷ ys) (All-cons (Precedes x) y ys first later) order)
  | inr after ↦
      let t = placed x ys (rest_in_order y ys order) in
      (y ∷ t.0, there t.1, AllPairs-cons Precedes y t.0 (all_put (Precedes y) x t.1 after (first_before y ys order)) t.2)
]

sorted : (list : List Entry) → (journal : List Entry) × Reorder list journal × IsInOrder journal
sorted [] = ([], none, none_in_order)
sorted (e ∷ es) =
    let rest = sorted es in
    let t = placed e rest.0 rest.2 in
    (t.0, both (keep rest.1) (put_in t.1), t.2)

pub has_journal : (list : List Entry) → (journal : List Entry) × IsJournal list journal
has_journal list = let t = sorted list in (t.0, record { same = Reorder-is_permutation t.1; in_order = t.2 })

-- ---- a part of a journal

pub part_in_order : (xs journal : List Entry) → StandsIn xs journal → IsInOrder journal → IsInOrder xs
part_in_order [] journal h order = none_in_order
part_in_order (x ∷ xs) [] h order = absurd h
part_in_order (x ∷ xs) (y ∷ ys) (inl h) order =
    AllPairs-cons Precedes x xs
    (stands_all (Precedes x) xs ys h.1 (subst (λ (z : Entry). All (Precedes z) ys) (sym h.0) (first_before y ys order)))
    (part_in_order xs ys h.1 (rest_in_order y ys order))
part_in_order (x ∷ xs) (y ∷ ys) (inr h) order = part_in_order (x ∷ xs) ys h (rest_in_order y ys order)
