-- Drawing, cutting and joining keep the rule.
use Rattle.std.proofs.Common.{length, ◌≡◌, ◌≢◌, ◌==◌, ℕ, zero, suc, ◌+◌, ◌%◌, ◌^◌, ◌<◌, ◌≤◌, List, [], ◌∷◌, ◌++◌, get_or, set, refl, sym, ap, ◌∙◌, subst, ⊎_elim, ◌⊎◌, inl, inr, arith, length-set, length-append, get_or-set_same, if◌then◌else◌}
use Rattle.std.proofs.lemmas.Bool.Decides.{nat_tests}
use mathlib.Core.Option.{none, some, some-injective, some-ne-none}
use mathlib.Core.Logic.{dite}
use native.Mathlib.Decide.{dec_le}
use lib.ListN.{get_elem?}
use lib.Seq.{set-get_or}
use Rattle.atomic_table.specs.Table.{State, Me, keeps, Allows, Splits, Joins, step}
use Rattle.atomic_table.proofs.Lists.{at_set, at_snoc, set_again}
use Rattle.ticket_line.specs.declared.hand.Hand.{Hand}
use Rattle.ticket_line.specs.declared.hand.Layout.{Layout}
use Rattle.ticket_line.specs.Numbers.{times, EachOnce}
use Rattle.ticket_line.specs.Drawn.{given, total, less_one, one_part, both, spent, Fits, IsKept, draws, looks}
use Rattle.ticket_line.proofs.Totals.{total_at, total_set, total_snoc, total_le, total_alone, times-append}

-- all hands fit after one of them has changed
hands_set : (F : Hand → Type 0) (vs : List Hand) (id : ℕ) (w : Hand) → F w → ((j : ℕ) (u : Hand) → get_elem? vs j ≡ some u → F u) → (j : ℕ) (u : Hand) → get_elem? (set vs id w) j ≡ some u → F u
hands_set F vs id w mine others j u e = ⊎_elim (λ (t : (j ≡ id) × (w ≡ u)). subst F t.1 mine) (λ (t : (j ≢ id) × (get_elem? vs j ≡ some u)). others j u t.1) (at_set vs id j w u e)

-- where none is left, who has all parts has all numbers
all_drawn : (k : Layout) (s : State Unit Hand) (id : ℕ) (v : Hand) → IsKept k s → get_elem? s.views id ≡ some v → v.parts ≡ k.workers → k.count ≤ get_or s.words 0 0 → EachOnce k.count v.drawn
all_drawn k s id v r at whole over x =
    let mine : total (λ v. times x v.drawn) s.views ≡ times x v.drawn = total_alone (λ v. times x v.drawn) s.views id v at (r.parts ∙ sym whole) (λ i u e z. ap (times x) ((r.hands i u e).idle z)) in
    let n : ℕ = get_or s.words 0 0 in
    let once : times x v.drawn ≡ given x n k.count = sym mine ∙ r.once x in
    grind (arith, nat_tests)

-- one number more
once_more : (x n count : ℕ) (xs : List ℕ) → times x (xs ++ n ∷ []) ≡ times x xs + (if n == x then 1 else 0)
once_more x n count xs = omega (arith, times-append x xs (n ∷ []))

below_more : (x n count : ℕ) → n < count → given x (n + 1) count ≡ given x n count + (if n == x then 1 else 0)
below_more x n count h = grind (arith, nat_tests)

below_late : (x n count : ℕ) → count ≤ n → given x (n + 1) count ≡ given x n count
below_late x n count h = grind (arith, nat_tests)

pub allows_draw : (k : Layout) (slots id : ℕ) (me : Me Unit Hand) → 0 < me.0.parts → me.0.late ≡ 0 → Allows (IsKept k) slots id me 0 (λ n. (n + 1) % 2 ^ 64) (draws (step slots 0 1 0 none) me)
allows_draw k slots id me some_parts fresh s r _ at _ =
    let v : Hand = me.0 in
    let n : ℕ = get_or s.words 0 0 in
    let f = r.hands id v at in
    let laid = f.laid some_parts in
    let laid0 = laid.0 in
    let laid1 = laid.1 in
    let lates : total (λ v. v.late) s.views ≤ total (λ v. v.parts) s.views = total_le (λ v. v.late) (λ v. v.parts) s.views (λ i u e. (r.hands i u e).late) in
    let small0 = r.small.0 in
    let small1 = r.small.1 in
    let low = r.late in
    let parts = r.parts in
    let wide = r.wide in
    let new : (n + 1) % 2 ^ 64 ≡ n + 1 = omega arith in
    let now : get_or (set s.words 0 (n + 1)) 0 0 ≡ n + 1 = get_or-set_same s.words 0 (n + 1) 0 (omega arith) in
    dite (dec_le k.count n)
    (λ over. let w : Hand = record v { late = v.late + 1 } in (
      w,
      keeps,
      tt,
      subst (λ (z : ℕ). IsKept k record { words = set s.words 0 z; homes = s.homes; views = set s.views id w }) (sym new) record {
        wide = length-set s.words 0 (n + 1) ∙ r.wide;
        small = r.small;
        parts = (let t = total_set (λ v. v.parts) s.views id v w at in omega arith);
        once = λ x. (let t = total_set (λ v. times x v.drawn) s.views id v w at in let o = r.once x in let b = below_late x n k.count over in
            subst (λ (z : ℕ). total (λ v. times x v.drawn) (set s.views id w) ≡ given x z k.count) (sym now) (let same : total (λ v. times x v.drawn) (set s.views id w) ≡ total (λ v. times x v.drawn) s.views = omega arith in same ∙ (o ∙ sym b)));
        late = (let t = total_set (λ v. v.late) s.views id v w at in omega arith);
        drawn = subst (λ (z : ℕ). total (λ v. length v.drawn) (set s.views id w) ≤ z) (sym now) (let t = total_set (λ v. length v.drawn) s.views id v w at in let d = r.drawn in omega arith);
        hands = subst (λ (z : ℕ). (j : ℕ) (u : Hand) → get_elem? (set s.views id w) j ≡ some u → Fits k z u) (sym now)
            (hands_set (Fits k (n + 1)) s.views id w record { late = omega arith; over = λ _. omega arith; idle = f.idle; laid = f.laid }
            (λ j u e. let g = r.hands j u e in record { late = g.late; over = λ z. (let o = g.over z in omega arith); idle = g.idle; laid = g.laid }));
      },
      (
        record {
          some = λ h. absurd (omega arith);
          few = λ h. absurd (omega arith);
          none_left = λ _. refl;
          all = λ _ whole. subst (λ (z : ℕ). EachOnce z v.drawn) (sym laid.0) (all_drawn k s id v r at (whole ∙ laid.1) over);
        },
        refl,
      ),
    ))
    (λ under. let w : Hand = record v { drawn = v.drawn ++ n ∷ [] } in let less : n < k.count = omega arith in (
      w,
      keeps,
      tt,
      subst (λ (z : ℕ). IsKept k record { words = set s.words 0 z; homes = s.homes; views = set s.views id w }) (sym new) record {
        wide = length-set s.words 0 (n + 1) ∙ r.wide;
        small = r.small;
        parts = (let t = total_set (λ v. v.parts) s.views id v w at in omega arith);
        once = λ x. (let t = total_set (λ v. times x v.drawn) s.views id v w at in let o = r.once x in let b = below_more x n k.count less in let m = once_more x n k.count v.drawn in
            subst (λ (z : ℕ). total (λ v. times x v.drawn) (set s.views id w) ≡ given x z k.count) (sym now) (omega arith));
        late = (let t = total_set (λ v. v.late) s.views id v w at in omega arith);
        drawn = subst (λ (z : ℕ). total (λ v. length v.drawn) (set s.views id w) ≤ z) (sym now) (let t = total_set (λ v. length v.drawn) s.views id v w at in let d = r.drawn in let l = length-append v.drawn (n ∷ []) in omega arith);
        hands = subst (λ (z : ℕ). (j : ℕ) (u : Hand) → get_elem? (set s.views id w) j ≡ some u → Fits k z u) (sym now)
            (hands_set (Fits k (n + 1)) s.views id w record { late = f.late; over = λ z. absurd (omega arith); idle = λ z. absurd (omega arith); laid = f.laid }
            (λ j u e. let g = r.hands j u e in record { late = g.late; over = λ z. (let o = g.over z in omega arith); idle = g.idle; laid = g.laid }));
      },
      (record { some = λ _. refl; few = λ _. (let a = total_at (λ v. length v.drawn) s.views id v at in let d = r.drawn in let l = length-append v.drawn (n ∷ []) in omega arith); none_left = λ h. absurd (omega arith); all = λ h. absurd (omega arith) }, refl),
    ))

pub allows_look : (k : Layout) (slots id : ℕ) (me : Me Unit Hand) → 0 < me.0.parts → Allows (IsKept k) slots id me 0 (λ n. n) (looks (step slots 0 0 0 none) me)
allows_look k slots id me some_parts s r _ at _ =
    let v : Hand = me.0 in
    let f = r.hands id v at in
    let laid = f.laid some_parts in (
      v,
      keeps,
      tt,
      subst (λ (z : List ℕ × List Hand). IsKept k record { words = z.0; homes = s.homes; views = z.1 }) (λ i. (sym (set-get_or s.words 0 0) i, sym (set_again s.views id v at) i)) r,
      (refl, λ late whole. subst (λ (z : ℕ). EachOnce z v.drawn) (sym laid.0) (all_drawn k s id v r at (whole ∙ laid.1) (f.over late))),
    )

pub splits_one : (k : Layout) (id : ℕ) (v : Hand) → 1 < v.parts → v.late ≡ 0 → v.drawn ≡ [] → Splits (IsKept k) id v (less_one v) (one_part v)
splits_one k id v more fresh empty s r at =
    let f = r.hands id v at in
    let laid = f.laid (omega arith) in
    let parts = r.parts in
    record {
      wide = r.wide;
      small = r.small;
      parts = (let t = total_set (λ v. v.parts) s.views id v (less_one v) at in let u = total_snoc (λ v. v.parts) (set s.views id (less_one v)) (one_part v) in omega arith);
      once = λ x. (let t = total_set (λ v. times x v.drawn) s.views id v (less_one v) at in let u = total_snoc (λ v. times x v.drawn) (set s.views id (less_one v)) (one_part v) in
          let same : total (λ v. times x v.drawn) (set s.views id (less_one v) ++ one_part v ∷ []) ≡ total (λ v. times x v.drawn) s.views = omega arith in same ∙ r.once x);
      late = (let t = total_set (λ v. v.late) s.views id v (less_one v) at in let u = total_snoc (λ v. v.late) (set s.views id (less_one v)) (one_part v) in let l = r.late in omega arith);
      drawn = (let t = total_set (λ v. length v.drawn) s.views id v (less_one v) at in let u = total_snoc (λ v. length v.drawn) (set s.views id (less_one v)) (one_part v) in let d = r.drawn in omega arith);
      hands = λ j u e. ⊎_elim (λ h. hands_set (Fits k (get_or s.words 0 0)) s.views id (less_one v) record { late = omega arith; over = f.over; idle = λ _. empty; laid = λ _. laid } r.hands j u h)
          (λ (h : one_part v ≡ u). subst (Fits k (get_or s.words 0 0)) h record { late = omega arith; over = λ z. absurd (omega arith); idle = λ _. refl; laid = λ _. laid })
          (at_snoc (set s.views id (less_one v)) (one_part v) u j e);
    }

pub joins_both : (k : Layout) (id : ℕ) (v : Hand) (other : ℕ) (w : Hand) → 0 < v.parts → Joins (IsKept k) id v other w (both v w) spent
joins_both k id v other w some_parts s r at apart there =
    let f = r.hands id v at in
    let b : Hand = both v w in
    let ws : List Hand = set s.views id b in
    let g : Fits k (get_or s.words 0 0) w = ⊎_elim (λ (t : (other ≡ id) × (b ≡ w)). absurd (apart t.0)) (λ (t : (other ≢ id) × (get_elem? s.views other ≡ some w)). r.hands other w t.1) (at_set s.views id other b w there) in
    let laid = f.laid some_parts in
    let parts = r.parts in
    record {
      wide = r.wide;
      small = r.small;
      parts = (let t = total_set (λ v. v.parts) s.views id v b at in let u = total_set (λ v. v.parts) ws other w spent there in omega arith);
      once = λ x. (let t = total_set (λ v. times x v.drawn) s.views id v b at in let u = total_set (λ v. times x v.drawn) ws other w spent there in let a = times-append x v.drawn w.drawn in
          let same : total (λ v. times x v.drawn) (set ws other spent) ≡ total (λ v. times x v.drawn) s.views = omega arith in same ∙ r.once x);
      late = (let t = total_set (λ v. v.late) s.views id v b at in let u = total_set (λ v. v.late) ws other w spent there in let l = r.late in omega arith);
      drawn = (let t = total_set (λ v. length v.drawn) s.views id v b at in let u = total_set (λ v. length v.drawn) ws other w spent there in let a = length-append v.drawn w.drawn in let d = r.drawn in omega arith);
      hands = hands_set (Fits k (get_or s.words 0 0)) ws other spent record { late = omega arith; over = λ z. absurd (omega arith); idle = λ _. refl; laid = λ z. absurd (omega arith) }
          (hands_set (Fits k (get_or s.words 0 0)) s.views id b record {
            late = (let a = f.late in let c = g.late in omega arith);
            over = λ z. (let a = f.over in let c = g.over in ⊎_elim a c (some_late v.late w.late z));
            idle = λ z. absurd (omega arith);
            laid = λ _. laid;
          } r.hands);
    }
  where
    some_late : (a b : ℕ) → 0 < a + b → (0 < a) ⊎ (0 < b)
    some_late zero b h = inr (omega arith)
    some_late (suc a) b h = inl (omega arith)

-- the table at the start
pub opens : (k : Layout) → k.count ≤ 32767 → k.workers ≤ 16 → IsKept k record { words = 0 ∷ []; homes = []; views = record { parts = k.workers; drawn = []; late = 0; count = k.count; workers = k.workers } ∷ [] }
opens k few small = record {
  wide = refl;
  small = (few, small);
  parts = omega arith;
  once = λ x. grind (arith, nat_tests);
  late = omega arith;
  drawn = omega arith;
  hands = λ id v e. start id v e;
}
  where
    start : (id : ℕ) (v : Hand) → get_elem? (record { parts = k.workers; drawn = []; late = 0; count = k.count; workers = k.workers } ∷ []) id ≡ some v → Fits k 0 v
    start zero v e = subst (Fits k 0) (some-injective _ _ e) record { late = omega arith; over = λ z. absurd (omega arith); idle = λ _. refl; laid = λ _. (refl, refl) }
    start (suc id) v e = absurd (some-ne-none v (sym e))
