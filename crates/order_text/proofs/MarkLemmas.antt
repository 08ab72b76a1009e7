-- Marks for the orders of a lane that a cancel may name, as the lane grows.
use Rattle.std.proofs.Common.{◌≡◌, ◌≢◌, ℕ, ◌+◌, ◌-◌, ◌<◌, ◌≤◌, Bool, true, false, not, List, [], ◌∷◌, ◌++◌, length, get_or, set, Option, Some, None, refl, sym, ap, ◌∙◌, inl, inr, arith}
use Rattle.std.specs.Prelude.{◌&&◌, ◌||◌, ◌==◌, nat_le, slice_get}
use Rattle.std.specs.List.{list_any}
use Rattle.std.proofs.lemmas.Bool.{leb-true, cases_order, cases_eq}
use Rattle.std.proofs.lemmas.Bool.Decides.{nat_tests}
use Rattle.std.proofs.lemmas.List.{length-append, length-set, get_or-set_same, get_or-set_other, get_or_append_left, get_or_past}
use Rattle.std.proofs.lemmas.List.Folds.{list_any-append}
use Rattle.std.proofs.lemmas.Option.{slice_get_past, slice_get_within, slice_get-get_or}
use Rattle.std.proofs.Math.Seq.{get_or-append_seam}
use Rattle.fleet_base.specs.declared.request.Request.{Request}
use Rattle.order_text.specs.declared.order.Order.{Order}
use Rattle.order_text.specs.declared.order.Order.TheVariants.{Plan, Cancel}
use Rattle.order_text.specs.Lanes.{is_plan, cancels, may_cancel}
use Rattle.order_text.specs.Marks.{AreMarked}

-- ---- one element more

slice_get_before : {X : Type 0} (xs : List X) (x : X) (i : ℕ) → i < length xs → slice_get (xs ++ x ∷ []) i ≡ slice_get xs i
slice_get_before xs x i h =
    slice_get-get_or (xs ++ x ∷ []) i x (omega (arith, length-append xs (x ∷ [])))
    ∙ ap (λ y. Some y) (get_or_append_left xs (x ∷ []) x i h) ∙ sym (slice_get-get_or xs i x h)

slice_get_last : {X : Type 0} (xs : List X) (x : X) (i : ℕ) → i ≡ length xs → slice_get (xs ++ x ∷ []) i ≡ Some x
slice_get_last xs x i h =
    slice_get-get_or (xs ++ x ∷ []) i x (omega (arith, length-append xs (x ∷ [])))
    ∙ ap (λ y. Some y) (ap (λ (j : ℕ). get_or (xs ++ x ∷ []) j x) h ∙ get_or-append_seam xs x [] x)

slice_get_after : {X : Type 0} (xs : List X) (x : X) (i : ℕ) → length xs < i → slice_get (xs ++ x ∷ []) i ≡ None
slice_get_after xs x i h = slice_get_past (xs ++ x ∷ []) i (omega (arith, length-append xs (x ∷ [])))

get_or_last : {X : Type 0} (xs : List X) (x d : X) (i : ℕ) → i ≡ length xs → get_or (xs ++ x ∷ []) i d ≡ x
get_or_last xs x d i h = ap (λ (j : ℕ). get_or (xs ++ x ∷ []) j d) h ∙ get_or-append_seam xs x [] d

get_or_after : {X : Type 0} (xs : List X) (x d : X) (i : ℕ) → length xs < i → get_or (xs ++ x ∷ []) i d ≡ d
get_or_after xs x d i h = get_or_past (xs ++ x ∷ []) i d (omega (arith, length-append xs (x ∷ [])))

-- ---- truth values

or_false : (b : Bool) → (b || false) ≡ b
or_false true = refl
or_false false = refl

and_parts : (a b : Bool) → (a && b) ≡ true → (a ≡ true) × (b ≡ true)
and_parts true true e = (refl, refl)
and_parts true false e = absurd cc
and_parts false b e = absurd cc

or_true : (b : Bool) → (b || true) ≡ true
or_true true = refl
or_true false = refl

and_false : (b : Bool) → (b && false) ≡ false
and_false true = refl
and_false false = refl

-- ---- which orders may be cancelled

within : (orders : List Order) (i : ℕ) (found : Option Order) → slice_get orders i ≡ found → is_plan found ≡ true → i < length orders
within orders i (Some order) is plan = slice_get_within orders i order is
within orders i None is plan = absurd cc

-- an order that may be cancelled stands in the lane
pub named : (first : ℕ) (orders : List Order) (k : ℕ) → may_cancel first orders k ≡ true → (first ≤ k) × (k - first < length orders)
unfolding may_cancel
named first orders k e =
    let a = and_parts (nat_le first k && is_plan (slice_get orders (k - first))) (not (list_any (cancels k) orders)) e in
    let b = and_parts (nat_le first k) (is_plan (slice_get orders (k - first))) a.0 in
    (leb-true _ _ b.0, within orders (k - first) (slice_get orders (k - first)) refl b.1)

-- no lane begins with an order that may be cancelled
pub none_marked : (first : ℕ) → AreMarked first [] []
unfolding may_cancel
none_marked first = record {
  one_each = refl;
  right = λ k. by_test (nat_le first k);
  earlier = λ k h. refl;
}
  where
    by_test : (b : Bool) → (b && false && true) ≡ (b && false)
    by_test true = refl
    by_test false = refl

-- may_cancel by its parts
by_parts : (first : ℕ) (orders : List Order) (k : ℕ) (below : Bool) (found : Option Order) (cancelled : Bool)
    → nat_le first k ≡ below → slice_get orders (k - first) ≡ found → list_any (cancels k) orders ≡ cancelled
    → may_cancel first orders k ≡ (below && is_plan found && not cancelled)
unfolding may_cancel
by_parts first orders k below found cancelled a b d = rw (a, b, d) refl

-- a number below the lane's first
below_first : (first : ℕ) (orders : List Order) (marks : List Bool) (k : ℕ) → nat_le first k ≡ false → may_cancel first orders k ≡ (nat_le first k && get_or marks (k - first) false)
unfolding may_cancel
below_first first orders marks k e = rw e refl

-- a plan more
pub plan_marked : (first : ℕ) (orders : List Order) (marks : List Bool) (request : Request) → AreMarked first orders marks → AreMarked first (orders ++ Plan request ∷ []) (marks ++ true ∷ [])
plan_marked first orders marks request m = record {
  one_each = omega (arith, m.one_each, length-append orders (Plan request ∷ []), length-append marks (true ∷ []));
  right = λ k. right k (nat_le first k) refl;
  earlier = λ k h. still k ∙ m.earlier k (omega (arith, length-append orders (Plan request ∷ [])));
}
  where
    still : (k : ℕ) → list_any (cancels k) (orders ++ Plan request ∷ []) ≡ list_any (cancels k) orders
    still k = list_any-append (cancels k) orders (Plan request ∷ []) ∙ or_false (list_any (cancels k) orders)

    right : (k : ℕ) (b : Bool) → nat_le first k ≡ b → may_cancel first (orders ++ Plan request ∷ []) k ≡ (nat_le first k && get_or (marks ++ true ∷ []) (k - first) false)
    right k false e = below_first first (orders ++ Plan request ∷ []) (marks ++ true ∷ []) k e
    right k true e = elim (cases_order (k - first) (length orders)) [
      | inl last ↦
          by_parts first (orders ++ Plan request ∷ []) k true (Some (Plan request)) false e
          (slice_get_last orders (Plan request) (k - first) last)
          (still k ∙ m.earlier k (let le : first ≤ k = leb-true _ _ e in omega arith))
          ∙ sym (rw (e, get_or_last marks true false (k - first) (last ∙ sym m.one_each)) refl)
      | inr other ↦ elim other [
        | inl before ↦
            by_parts first (orders ++ Plan request ∷ []) k (nat_le first k) (slice_get orders (k - first)) (list_any (cancels k) orders) refl
            (slice_get_before orders (Plan request) (k - first) before) (still k)
            ∙ sym (by_parts first orders k (nat_le first k) (slice_get orders (k - first)) (list_any (cancels k) orders) refl refl refl)
            ∙ m.right k
            ∙ ap (λ b. nat_le first k && b) (sym (get_or_append_left marks (true ∷ []) false (k - first) (omega (arith, m.one_each))))
        | inr after ↦
            by_parts first (orders ++ Plan request ∷ []) k true None (list_any (cancels k) orders) e
            (slice_get_after orders (Plan request) (k - first) after) (still k)
            ∙ sym (rw (e, get_or_after marks true false (k - first) (omega (arith, m.one_each))) refl)
      ]
    ]

cancels_others : (orders : List Order) (target k : ℕ) → target ≢ k → list_any (cancels k) (orders ++ Cancel target ∷ []) ≡ list_any (cancels k) orders
cancels_others orders target k ne =
    let no : (target == k) ≡ false = grind (arith, nat_tests) in
    list_any-append (cancels k) orders (Cancel target ∷ []) ∙ rw no (or_false (list_any (cancels k) orders))

cancels_it : (orders : List Order) (target k : ℕ) → target ≡ k → list_any (cancels k) (orders ++ Cancel target ∷ []) ≡ true
cancels_it orders target k e =
    let yes : (target == k) ≡ true = grind (arith, nat_tests) in
    list_any-append (cancels k) orders (Cancel target ∷ []) ∙ rw yes (or_true (list_any (cancels k) orders))

-- the mark of the order that is cancelled is taken away
cancel_right : (first : ℕ) (orders : List Order) (marks : List Bool) (target : ℕ) → AreMarked first orders marks → may_cancel first orders target ≡ true
    → (k : ℕ) (b : Bool) → nat_le first k ≡ b → may_cancel first (orders ++ Cancel target ∷ []) k ≡ (nat_le first k && get_or (set marks (target - first) false ++ false ∷ []) (k - first) false)
cancel_right first orders marks target m may k false e = below_first first (orders ++ Cancel target ∷ []) (set marks (target - first) false ++ false ∷ []) k e
cancel_right first orders marks target m may k true e =
    let le : first ≤ k = leb-true _ _ e in
    let stands = named first orders target may in
    let whole : length (set marks (target - first) false) ≡ length orders = length-set marks (target - first) false ∙ m.one_each in
    elim (cases_eq target k) [
      | inl same ↦
          let i : k - first ≡ target - first = omega arith in
          let mark : get_or (set marks (target - first) false ++ false ∷ []) (k - first) false ≡ false
          = get_or_append_left (set marks (target - first) false) (false ∷ []) false (k - first) (omega (arith, whole, stands.1))
          ∙ ap (λ (j : ℕ). get_or (set marks (target - first) false) j false) i
          ∙ get_or-set_same marks (target - first) false false (omega (arith, m.one_each, stands.1)) in
          by_parts first (orders ++ Cancel target ∷ []) k true (slice_get (orders ++ Cancel target ∷ []) (k - first)) true e refl (cancels_it orders target k same)
          ∙ and_false (is_plan (slice_get (orders ++ Cancel target ∷ []) (k - first))) ∙ sym (rw (e, mark) refl)
      | inr differs ↦ elim (cases_order (k - first) (length orders)) [
        | inl last ↦
            by_parts first (orders ++ Cancel target ∷ []) k true (Some (Cancel target)) (list_any (cancels k) orders) e
            (slice_get_last orders (Cancel target) (k - first) last) (cancels_others orders target k differs)
            ∙ sym (rw (e, get_or_last (set marks (target - first) false) false false (k - first) (last ∙ sym whole)) refl)
        | inr other ↦ elim other [
          | inl before ↦
              let apart : k - first ≢ target - first = λ h. differs (omega (arith, stands.0)) in
              let mark : get_or marks (k - first) false ≡ get_or (set marks (target - first) false ++ false ∷ []) (k - first) false
              = sym (get_or-set_other marks (target - first) (k - first) false false apart)
              ∙ sym (get_or_append_left (set marks (target - first) false) (false ∷ []) false (k - first) (omega (arith, whole))) in
              by_parts first (orders ++ Cancel target ∷ []) k (nat_le first k) (slice_get orders (k - first)) (list_any (cancels k) orders) refl
              (slice_get_before orders (Cancel target) (k - first) before) (cancels_others orders target k differs)
              ∙ sym (by_parts first orders k (nat_le first k) (slice_get orders (k - first)) (list_any (cancels k) orders) refl refl refl)
              ∙ m.right k ∙ ap (λ b. nat_le first k && b) mark
          | inr after ↦
              by_parts first (orders ++ Cancel target ∷ []) k true None (list_any (cancels k) orders) e
              (slice_get_after orders (Cancel target) (k - first) after) (cancels_others orders target k differs)
              ∙ sym (rw (e, get_or_after (set marks (target - first) false) false false (k - first) (omega (arith, whole))) refl)
        ]
      ]
    ]

-- a cancel more
pub cancel_marked : (first : ℕ) (orders : List Order) (marks : List Bool) (target : ℕ) → AreMarked first orders marks → may_cancel first orders target ≡ true
    → AreMarked first (orders ++ Cancel target ∷ []) (set marks (target - first) false ++ false ∷ [])
cancel_marked first orders marks target m may =
    let stands = named first orders target may in
    let more : length (orders ++ Cancel target ∷ []) ≡ length orders + 1 = length-append orders (Cancel target ∷ []) in
    record {
      one_each = omega (arith, m.one_each, more, length-append (set marks (target - first) false) (false ∷ []), length-set marks (target - first) false);
      right = λ k. cancel_right first orders marks target m may k (nat_le first k) refl;
      earlier = λ k h. cancels_others orders target k (λ same. omega (arith, more, stands.0, stands.1)) ∙ m.earlier k (omega (arith, more));
    }
