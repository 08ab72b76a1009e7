-- Where the queued ids stand, after each change of the buckets.
use Rattle.std.proofs.Common.{arith, sym, ap, ◌∙◌, refl, inl, inr, set}
use Rattle.std.proofs.lemmas.Option.{slice_get_within, same_Some, none-some}
use Rattle.std.proofs.lemmas.Bool.{cases_lt, cases_eq}
use Rattle.std.specs.Prelude.{◌≡◌, ℕ, zero, suc, ◌+◌, ◌-◌, ◌<◌, ◌≤◌, List, [], ◌∷◌, ◌++◌, Option, Some, None, Vec, length, slice_get, take}
use Rattle.std.specs.Global.{Global}
use Rattle.bucket_queue.specs.Queue.{HasKey}
use Rattle.bucket_queue.specs.Held.{Stands, AreThere, HasNone}
use Rattle.bucket_queue.proofs.Lists.{slice_get-append_left, slice_get-append_at, slice_get-set_at, slice_get-set_other, set_cases, added_cases}

slice_get-take : {X : Type 0} (xs : List X) (n i : ℕ) → i < n → slice_get (take n xs) i ≡ slice_get xs i
slice_get-take xs zero i less = absurd (omega arith)
slice_get-take [] (suc n) i less = refl
slice_get-take (x ∷ xs) (suc n) zero less = refl
slice_get-take (x ∷ xs) (suc n) (suc i) less = slice_get-take xs n i (omega arith)

-- what stands in another bucket than the one that was replaced still does
stands_kept : (bs : List (Vec ℕ Global)) (key : ℕ) (b' : Vec ℕ Global) (k p id : ℕ) → (k ≡ key → ⊥) → Stands bs k p id → Stands (set bs key b') k p id
stands_kept bs key b' k p id ne at = record { bucket = at.bucket; at_key = slice_get-set_other bs key k b' ne ∙ at.at_key; at_place = at.at_place }

-- what stands in that bucket, by its items
pub stands_in : (bs : List (Vec ℕ Global)) (key : ℕ) (b : Vec ℕ Global) (p id : ℕ) → slice_get bs key ≡ Some b → Stands bs key p id → slice_get b.items p ≡ Some id
stands_in bs key b p id at stands =
    let same : stands.bucket ≡ b = same_Some stands.bucket b (sym stands.at_key ∙ at) in
    ap (λ (v : Vec ℕ Global). slice_get v.items p) (sym same) ∙ stands.at_place

-- what stands in a bucket still does after it was replaced by one that has it at that place too
stands_on : (bs : List (Vec ℕ Global)) (key : ℕ) (b b' : Vec ℕ Global) (k p id : ℕ) → slice_get bs key ≡ Some b
    → (k ≡ key → slice_get b.items p ≡ Some id → slice_get b'.items p ≡ Some id) → Stands bs k p id → Stands (set bs key b') k p id
stands_on bs key b b' k p id at keeps old = elim (cases_eq k key) [
  | inl e ↦
      let mine : Stands bs key p id = rw (← e) old in
      record {
        bucket = b';
        at_key = rw e (slice_get-set_at bs key b' (slice_get_within bs key b at));
        at_place = keeps e (stands_in bs key b p id at mine);
      }
  | inr ne ↦ stands_kept bs key b' k p id ne old
]

module _ (bs : List (Vec ℕ Global)) (keys : List (Option ℕ)) (are : AreThere bs keys) (key : ℕ) (b b' : Vec ℕ Global) (at : slice_get bs key ≡ Some b) where
  -- a bucket that has the same ids
  pub there_same : b'.items ≡ b.items → AreThere (set bs key b') keys
  there_same same o k has =
      let there = are o k has in
      (there.0, stands_on bs key b b' k there.0 o at (λ e h. ap (λ (xs : List ℕ). slice_get xs there.0) same ∙ h) there.1)

  -- an id more, which has that key now
  pub there_put : (id : ℕ) → b'.items ≡ b.items ++ id ∷ [] → id < length keys → AreThere (set bs key b') (set keys id (Some key))
  there_put id items within o k has = elim (set_cases keys id o (Some key) (Some k) within has) [
    | inl new ↦
        let same : k ≡ key = same_Some k key new.1 in
        let last : slice_get b'.items (length b.items) ≡ Some o = ap (λ (xs : List ℕ). slice_get xs (length b.items)) items ∙ (slice_get-append_at b.items id ∙ ap (λ (n : ℕ). Some n) (sym new.0)) in
        (length b.items, record { bucket = b'; at_key = rw same (slice_get-set_at bs key b' (slice_get_within bs key b at)); at_place = last })
    | inr old ↦
        let there = are o k old.1 in (
          there.0,
          stands_on bs key b b' k there.0 o at
              (λ e h. ap (λ (xs : List ℕ). slice_get xs there.0) items ∙ (slice_get-append_left b.items (id ∷ []) there.0 (slice_get_within b.items there.0 o h) ∙ h)) there.1,
        )
  ]

  -- an id more, which keeps its key
  pub there_more : (id : ℕ) → b'.items ≡ b.items ++ id ∷ [] → AreThere (set bs key b') keys
  there_more id items o k has =
      let there = are o k has in (
        there.0,
        stands_on bs key b b' k there.0 o at
            (λ e h. ap (λ (xs : List ℕ). slice_get xs there.0) items ∙ (slice_get-append_left b.items (id ∷ []) there.0 (slice_get_within b.items there.0 o h) ∙ h)) there.1,
      )

  -- the next id, which has that key
  pub there_added : b'.items ≡ b.items ++ length keys ∷ [] → AreThere (set bs key b') (keys ++ Some key ∷ [])
  there_added items o k has = elim (added_cases keys (Some key) o (Some k) has) [
    | inl old ↦ there_more (length keys) items o k old
    | inr new ↦
        let same : k ≡ key = same_Some k key (sym new.1) in
        let last : slice_get b'.items (length b.items) ≡ Some o =
        ap (λ (xs : List ℕ). slice_get xs (length b.items)) items ∙ (slice_get-append_at b.items (length keys) ∙ ap (λ (n : ℕ). Some n) (sym new.0)) in
        (length b.items, record { bucket = b'; at_key = rw same (slice_get-set_at bs key b' (slice_get_within bs key b at)); at_place = last })
  ]

  -- the last id that has that key is taken, with all that stands after it
  pub there_taken : (id place : ℕ) → b'.items ≡ take place b.items → slice_get b.items place ≡ Some id → id < length keys
      → ((p other : ℕ) → place < p → Stands bs key p other → ¬ (HasKey keys other key)) → AreThere (set bs key b') (set keys id None)
  there_taken id place items mine within last o k has = elim (set_cases keys id o None (Some k) within has) [
    | inl new ↦ absurd (none-some k (sym new.1))
    | inr old ↦
        let there = are o k old.1 in
        (there.0, stands_on bs key b b' k there.0 o at (λ e h. ap (λ (xs : List ℕ). slice_get xs there.0) items ∙ (slice_get-take b.items place there.0 (before k o old.0 old.1 there.0 there.1 e h) ∙ h)) there.1)
  ]
    where
      before : (k o : ℕ) → (o ≡ id → ⊥) → HasKey keys o k → (p : ℕ) → Stands bs k p o → k ≡ key → slice_get b.items p ≡ Some o → p < place
      before k o other has p stands e h = elim (cases_lt p place) [
        | inl less ↦ less
        | inr past ↦ elim (cases_eq p place) [
          | inl same ↦ absurd (other (same_Some o id (sym h ∙ (rw same mine))))
          | inr ne ↦ absurd (last p o (omega arith) (rw (← e) stands) (rw (← e) has))
        ]
      ]

-- where no place of a bucket has an id with that key, no id has it
pub none_has : (bs : List (Vec ℕ Global)) (keys : List (Option ℕ)) (key : ℕ) → AreThere bs keys → ((p other : ℕ) → Stands bs key p other → ¬ (HasKey keys other key)) → HasNone keys key
none_has bs keys key are none id has = let there = are id key has in none there.0 id there.1 has

-- one place more of a bucket was looked at, from its end on
pub one_place_more : (bs : List (Vec ℕ Global)) (keys : List (Option ℕ)) (key count back id : ℕ) (b : Vec ℕ Global) → slice_get bs key ≡ Some b → back < count
    → slice_get b.items (count - 1 - back) ≡ Some id → ¬ (HasKey keys id key)
    → ((p other : ℕ) → count - back ≤ p → Stands bs key p other → ¬ (HasKey keys other key))
    → (p other : ℕ) → count - (back + 1) ≤ p → Stands bs key p other → ¬ (HasKey keys other key)
one_place_more bs keys key count back id b at more here not later p other low stands = elim (cases_lt p (count - back)) [
  | inl less ↦
      let same : p ≡ count - 1 - back = omega arith in
      let mine : other ≡ id = same_Some other id (sym (stands_in bs key b p other at stands) ∙ (rw same here)) in
      λ has. not (rw (← mine) has)
  | inr past ↦ later p other past stands
]
