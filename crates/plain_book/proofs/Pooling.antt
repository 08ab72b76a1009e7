-- What a pool of calendars is after each change.
use Rattle.std.proofs.Common.{◌≡◌, ℕ, ◌<◌, inl, inr, List, [], ◌∷◌, ◌++◌, length, replicate, refl, sym, ap, ◌∙◌, subst, arith, get_or, set, zero, suc, Some, slice_get}
use Rattle.std.proofs.lemmas.Bool.{cases_eq, cases_lt}
use Rattle.std.proofs.lemmas.List.{get_or_read, length-set, length-map, map-set, same_lists, get_or-map, get_or-set_same, get_or-set_other, get_or_push, get_or_past, set-get_or}
use Rattle.std.specs.Option.{option_map}
use Rattle.std.proofs.lemmas.Option.{slice_get-map, slice_get-get_or}
use Rattle.fleet_base.specs.declared.request.Record.{Record}
use Rattle.plain_book.specs.Kept.{records_at}
use Rattle.plain_book.specs.Pool.{calendars_in, place_of, IsPool}

-- a pool where no cell had a record
all_empty : (n : ℕ) → calendars_in ([] ∷ []) (replicate n 0) ≡ replicate n []
all_empty zero = refl
all_empty (suc n) = ap (λ (rest : List (List Record)). [] ∷ rest) (all_empty n)

pub calendars_none_yet : (n : ℕ) (places : List ℕ) → places ≡ replicate n 0 → calendars_in ([] ∷ []) places ≡ replicate n []
calendars_none_yet n places first = ap (calendars_in ([] ∷ [])) first ∙ all_empty n

module _ (places : List ℕ) (pool : List (List Record)) (is : IsPool places pool) where
  -- the place of any cell is one of the pool
  pub in_pool : (c : ℕ) → place_of places c < length pool
  in_pool c = elim (cases_lt c (length places)) [
    | inl inside ↦ is.within c 0 inside
    | inr past ↦ (let first : place_of places c ≡ 0 = get_or_past places c 0 past in omega (arith, is.some))
  ]

  -- what is read at the place of a cell is its calendar
  pub calendar_at : (calendars : List (List Record)) (c n : ℕ) (r : List Record) → calendars_in pool places ≡ calendars → c < length calendars → place_of places c ≡ n → r ≡ get_or pool n r
      → slice_get calendars c ≡ Some r
  calendar_at calendars c n r are inside is_at at =
      let here : c < length places = omega (arith, length-map places (records_at pool), ap length are) in
      let there : n < length pool = omega (arith, is_at, in_pool c) in
      ap (λ (cs : List (List Record)). slice_get cs c) (sym are)
      ∙ (slice_get-map (records_at pool) places c
      ∙ (ap (option_map (records_at pool)) (slice_get-get_or places c 0 here)
      ∙ ap Some (ap (records_at pool) is_at ∙ sym (get_or_read pool n r there at []))))

  -- the calendar of a cell is that of its place
  read_at : (c : ℕ) → c < length places → records_at (calendars_in pool places) c ≡ records_at pool (place_of places c)
  read_at c inside = get_or-map (records_at pool) places c 0 [] inside

  -- a calendar that one cell has changed
  calendars_changed : (c : ℕ) (new : List Record) → c < length places → 0 < place_of places c
      → calendars_in (set pool (place_of places c) new) places ≡ set (calendars_in pool places) c new
  calendars_changed c new inside own = same_lists (calendars_in (set pool (place_of places c) new) places) (set (calendars_in pool places) c new)
      (length-map places (records_at (set pool (place_of places c) new)) ∙ sym (length-set (calendars_in pool places) c new ∙ length-map places (records_at pool))) at
    where
      at : (k : ℕ) (d : List Record) → k < length (calendars_in (set pool (place_of places c) new) places)
          → get_or (calendars_in (set pool (place_of places c) new) places) k d ≡ get_or (set (calendars_in pool places) c new) k d
      at k d h =
          let here : k < length places = omega (arith, length-map places (records_at (set pool (place_of places c) new))) in
          get_or-map (records_at (set pool (place_of places c) new)) places k 0 d here ∙ elim (cases_eq k c) [
            | inl same ↦ subst (λ (i : ℕ). records_at (set pool (place_of places c) new) (place_of places i) ≡ get_or (set (calendars_in pool places) c new) i d) (sym same)
                (get_or-set_same pool (place_of places c) new [] (in_pool c)
                ∙ sym (get_or-set_same (calendars_in pool places) c new d (omega (arith, length-map places (records_at pool)))))
            | inr other ↦
                get_or-set_other pool (place_of places c) (place_of places k) new [] (λ same. other (sym (is.apart c k own (sym same))))
                ∙ sym (get_or-set_other (calendars_in pool places) c k new d other ∙ get_or-map (records_at pool) places k 0 d here)
          ]

  -- an empty calendar put where one is
  calendars_still : (c : ℕ) (new : List Record) → c < length places → place_of places c ≡ 0 → new ≡ [] → set (calendars_in pool places) c new ≡ calendars_in pool places
  calendars_still c new inside first empty =
      let here : records_at (calendars_in pool places) c ≡ new = read_at c inside ∙ (ap (records_at pool) first ∙ (is.empty ∙ sym empty)) in
      ap (set (calendars_in pool places) c) (sym here) ∙ set-get_or (calendars_in pool places) c []

  -- where the calendars are these, also after a change of one of them
  pub changed_by : (calendars : List (List Record)) (f : List Record → List Record) (c n : ℕ) (was new : List Record) → calendars_in pool places ≡ calendars → c < length calendars
      → n ≡ place_of places c → 0 < n → was ≡ records_at pool n → new ≡ f was → calendars_in (set pool n new) places ≡ set calendars c (f (records_at calendars c))
  changed_by calendars f c n was new are inside n_is own was_is new_is =
      let here : c < length places = omega (arith, length-map places (records_at pool), ap length are) in
      let same : f (records_at calendars c) ≡ new =
      ap (λ (cs : List (List Record)). f (records_at cs c)) (sym are) ∙ (ap f (read_at c here ∙ (ap (records_at pool) (sym n_is) ∙ sym was_is)) ∙ sym new_is) in
      ap (λ (k : ℕ). calendars_in (set pool k new) places) n_is
      ∙ (calendars_changed c new here (subst (λ (k : ℕ). 0 < k) n_is own)
      ∙ (ap (λ (cs : List (List Record)). set cs c new) are ∙ ap (set calendars c) (sym same)))

-- one calendar more, which is empty
records_more : (pool : List (List Record)) (n : ℕ) → records_at (pool ++ [] ∷ []) n ≡ records_at pool n
records_more [] zero = refl
records_more [] (suc n) = refl
records_more (rs ∷ pool) zero = refl
records_more (rs ∷ pool) (suc n) = records_more pool n

calendars_more : (pool : List (List Record)) (places : List ℕ) → calendars_in (pool ++ [] ∷ []) places ≡ calendars_in pool places
calendars_more pool [] = refl
calendars_more pool (n ∷ places) =
    ap (λ (rs : List Record). rs ∷ calendars_in (pool ++ [] ∷ []) places) (records_more pool n)
    ∙ ap (λ (rest : List (List Record)). records_at pool n ∷ rest) (calendars_more pool places)

module _ (places : List ℕ) (pool : List (List Record)) (is : IsPool places pool) (c : ℕ) (inside : c < length places) where
  -- and is that of a cell which had none of its own
  pub calendars_same : (next : ℕ) (fresh : List Record) (more : List (List Record)) → next ≡ length pool → fresh ≡ [] → more ≡ pool ++ fresh ∷ [] → place_of places c ≡ 0
      → calendars_in more (set places c next) ≡ calendars_in pool places
  calendars_same next fresh more next_is fresh_is more_is first =
      rw (more_is, fresh_is, next_is)
      (map-set (records_at (pool ++ [] ∷ [])) places c (length pool)
      ∙ (ap (λ (cs : List (List Record)). set cs c (records_at (pool ++ [] ∷ []) (length pool))) (calendars_more pool places)
      ∙ calendars_still places pool is c (records_at (pool ++ [] ∷ []) (length pool)) inside first (get_or_push pool [] [] (length pool) refl)))
